use Rattle.std.proofs.Common.{◌≡◌, ℕ, length, take, sym, subst, ap, ◌∙◌, arith}
use Rattle.job_file.specs.declared.view.JobView.{JobView}
use Rattle.lattice.specs.ShownCuts.{cuts_of}
use Rattle.job_file.specs.ShownCuts.{cuts_in}
use Rattle.cut_marks.proofs.Counted.{one_more}
use Rattle.cut_marks.proofs.job_marks.count_below.Goals as goal

pub loop-i-preserved : goal.loop-i-preserved
loop-i-preserved c =
    let views = c.args.views.now in
    let x : JobView = c.index-views-i.result in
    let sum = one_more views c.loop-i.i x (omega (arith, c.loop-i-test.true, c.requires)) (sym c.index-views-i.is) in
    let own : c.cuts-count.result ≡ length (cuts_of x.spec) = c.cuts-count.ensures.value ∙ ap (λ (v : JobView). length (cuts_of v.spec)) (sym c.index-views-i.is) in
    (omega (arith, sum, own, c.loop-i.invariant.0), omega (arith, c.cuts-count.ensures.size, c.loop-i.invariant.1))

pub returns-clause-value : goal.returns-clause-value
returns-clause-value c =
    let same : c.loop-i.i ≡ c.args.end = omega (arith, c.loop-i.auto.i-end, c.loop-i-test.false) in
    subst (λ (n : ℕ). c.loop-i.count ≡ length (cuts_in (take n c.args.views.now))) same c.loop-i.invariant.0

pub returns-clause-size : goal.returns-clause-size
returns-clause-size c = omega (arith, c.loop-i.auto.i-end, c.loop-i.invariant.1)
