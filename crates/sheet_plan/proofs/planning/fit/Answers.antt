use Rattle.std.proofs.Common.{arith}
use Rattle.std.proofs.lemmas.Result.{IfErr-weaker}
use Rattle.sheet_plan.specs.Plans.{IsSheetRefused}
use Rattle.sheet_plan.specs.inner.Refusals.{IsRefusedAt}
use Rattle.sheet_plan.proofs.Rooms.{refused_last}
use Rattle.sheet_plan.proofs.planning.fit.Goals as goal

pub returns-clause-refused : goal.returns-clause-refused
returns-clause-refused c =
    let job = c.args.job.now in
    let extents = c.args.extents.now in
    let scale = c.fit_scale-2.result in
    IfErr-weaker c.plan_at-2.result (IsRefusedAt job extents scale.num scale.den) (IsSheetRefused job extents)
    (refused_last job extents scale.num scale.den c.requires.none c.fit_scale-2.ensures.num c.fit_scale-2.ensures.den (λ j d below at. c.loop-i.invariant j d (omega (arith, below, c.loop-i-test.false)) at))
    c.plan_at-2.ensures.refused
