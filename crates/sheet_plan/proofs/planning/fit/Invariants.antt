use Rattle.sheet_plan.specs.Plans.{NoneFits}
use Rattle.sheet_plan.proofs.planning.fit.Given as goal

-- the views don't fit at the scales so far
abbrev pub invariant-loop-i : goal.invariant-loop-i
invariant-loop-i l = NoneFits l.job l.extents l.i
