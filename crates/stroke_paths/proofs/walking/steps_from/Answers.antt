use Rattle.stroke_paths.proofs.StepLemmas.{fewer_by, one_more_step_by}
use Rattle.stroke_paths.proofs.walking.steps_from.Goals as goal

pub loop-step-smaller : goal.loop-step-smaller
loop-step-smaller c = fewer_by c.args.joints.now c.loop-step.visited c.next_step.new.visited c.loop-step.end c.in-Some.step c.in-Some.ensures

pub loop-step-preserved : goal.loop-step-preserved
loop-step-preserved c =
    one_more_step_by c.args.joints.now c.args.visited.now c.loop-step.visited c.next_step.new.visited c.args.from c.loop-step.steps.items c.loop-step.end c.in-Some.step c.requires.matched c.loop-step.invariant c.in-Some.ensures
    c.push.new.self.items c.in_ok-push.ensures.items c.last_end-end.result c.last_end-end.ensures
