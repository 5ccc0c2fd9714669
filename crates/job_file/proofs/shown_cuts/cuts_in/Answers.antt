use Rattle.std.proofs.Common.{List, [], ◌∷◌, ◌++◌, take, sym, ap, ◌∙◌, append-nil}
use Rattle.std.proofs.lemmas.Grind.{flat_map-append}
use Rattle.std.proofs.lemmas.List.{take_all}
use Rattle.integers.proofs.Lists.{front_more}
use Rattle.lattice.specs.declared.cuts.Cut.{Cut}
use Rattle.lattice.specs.ShownCuts.{cuts_of}
use Rattle.job_file.specs.declared.view.JobView.{JobView}
use Rattle.job_file.specs.ShownCuts.{cuts_in}
use Rattle.job_file.proofs.shown_cuts.cuts_in.Goals as goal

pub loop-view-preserved : goal.loop-view-preserved
loop-view-preserved c =
    let views = c.args.views.now in
    let k = c.loop-view.view-index in
    let x = c.view-item.result in
    c.in_ok-add_cut.ensures ∙ ap (λ (ps : List Cut). ps ++ cuts_of x.spec) c.loop-view.invariant
    ∙ ap (λ (ps : List Cut). cuts_in (take k views) ++ ps) (sym (append-nil (cuts_of x.spec)))
    ∙ sym (flat_map-append (λ (v : JobView). cuts_of v.spec) (take k views) (x ∷ [])) ∙ ap cuts_in (front_more views k x c.loop-view-test.true (sym c.view-item.is))

pub returns : goal.returns
returns c = c.loop-view.invariant ∙ ap cuts_in (take_all c.loop-view.view-index c.args.views.now c.loop-view-test.false)
