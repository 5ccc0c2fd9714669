use Rattle.std.proofs.Common.{length}
use Rattle.sheet_layout.proofs.trials.+first_plan.Given as goal

abbrev pub decreases-first_plan : goal.decreases-first_plan
decreases-first_plan l = length l.plans.now
