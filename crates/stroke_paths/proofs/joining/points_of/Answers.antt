use Rattle.std.proofs.Common.{◌-◌, length, ap, arith}
use Rattle.stroke_paths.proofs.PathLemmas.{closed_by, open_by}
use Rattle.stroke_paths.proofs.joining.points_of.Goals as goal

pub returns-then-passed : goal.returns-then-passed
returns-then-passed c =
    closed_by c.args.strokes.now c.args.passed.now.steps.items c.loop-step.step-index c.args.passed.now.closed c.loop-step.points.items (omega (arith, ap length c.deref-step-items.ensures.value, c.loop-step-test.false)) c.if-passed.true
    c.loop-step.invariant

pub returns : goal.returns
returns c =
    open_by c.args.strokes.now c.args.passed.now.steps.items c.loop-step.step-index c.args.passed.now.closed c.loop-step.points.items (omega (arith, ap length c.deref-step-items.ensures.value, c.loop-step-test.false)) c.if-passed.false
    c.loop-step.invariant (c.len.result - 1) c.index-last.result.now c.last_end.result c.point_at-2.result c.push-2.new.self.items (omega (arith, c.len.ensures, c.requires.some, c.args.passed.now.steps.ok.0)) c.index-last.ensures
    c.last_end.ensures c.point_at-2.ensures c.in_ok-push-2.ensures.items
