use Rattle.stroke_paths.proofs.StepLemmas.{AreStepsSoFar, unvisited}
use Rattle.stroke_paths.proofs.walking.steps_from.Given as goal

-- the steps so far come to this end
abbrev pub invariant-loop-step : goal.invariant-loop-step
invariant-loop-step l = AreStepsSoFar l.joints l.initial.visited l.visited l.fn.from l.steps.items l.end

abbrev pub decreases-loop-step : goal.decreases-loop-step
decreases-loop-step l = unvisited l.visited
