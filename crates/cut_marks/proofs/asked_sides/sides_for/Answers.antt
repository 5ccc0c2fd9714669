use Rattle.std.proofs.Common.{length, ap, arith}
use Rattle.std.specs.Prelude.{List}
use Rattle.job_file.specs.declared.view.JobView.{JobView}
use Rattle.cut_marks.proofs.AskedSides.{all_asked}
use Rattle.cut_marks.proofs.asked_sides.sides_for.Goals as goal

pub returns-clause-count : goal.returns-clause-count
returns-clause-count c =
    let long = ap (λ (vs : List JobView). length vs) c.deref-view-items.ensures.value in
    all_asked c.args.job.now c.loop-view.view-index c.loop-view.number c.loop-view.sides.items (omega (arith, long, c.loop-view-test.false)) c.loop-view.invariant.0
