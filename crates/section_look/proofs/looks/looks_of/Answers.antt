use Rattle.std.proofs.Common.{◌≡◌, ◌+◌, ◌++◌, List, take, get_or, length, sym, subst, arith}
use Rattle.std.proofs.lemmas.List.{take_all, take_more, length-take-le}
use Rattle.job_file.specs.declared.view.JobView.{JobView}
use Rattle.solid_mesh.specs.Solids.{solid_part}
use Rattle.section_look.specs.Looks.{AreLooks}
use Rattle.section_look.specs.declared.looks.SectionLook.{SectionLook}
use Rattle.section_look.proofs.Chosen.{looks_more}
use Rattle.section_look.proofs.StrokeLooks.{all_placed}
use Rattle.section_look.proofs.looks.looks_of.Goals as goal

pub loop-number-preserved : goal.loop-number-preserved
loop-number-preserved c =
    let sheet = c.args.sheet.now in
    let s = solid_part c.args.solid.now in
    let views = c.args.views.now in
    let i = c.loop-number.number in
    let view = get_or views i c.index-views-number.result in
    let looks = c.loop-number.looks.items in
    let (here, added, is) = c.in_ok-add_look.ensures in
    let at : i ≡ 0 + length (take i views) = omega (arith, length-take-le i views (omega arith)) in
    let more = looks_more sheet s 0 i (take i views) looks view here at c.loop-number.invariant is in
    let same = take_more views i c.index-views-number.result c.loop-number-test.true in
    subst (λ (ls : List SectionLook). AreLooks sheet s (take (i + 1) views) ls) (sym {A = List SectionLook} added)
    (subst (λ (vs : List JobView). AreLooks sheet s vs (looks ++ here)) (sym {A = List JobView} same) more)

pub returns-clause-looks : goal.returns-clause-looks
returns-clause-looks c =
    subst (λ (vs : List JobView). AreLooks c.args.sheet.now (solid_part c.args.solid.now) vs c.loop-number.looks.items) (take_all c.loop-number.number c.args.views.now c.loop-number-test.false) c.loop-number.invariant

pub returns-clause-in_range : goal.returns-clause-in_range
returns-clause-in_range c = all_placed c.args.sheet.now (solid_part c.args.solid.now) 0 _ _ c.loop-number.invariant
