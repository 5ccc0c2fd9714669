use Rattle.std.proofs.Common.{length}
use Rattle.sheet_lines.specs.inner.Sets.{HoldsBut}
use Rattle.sheet_lines.proofs.ways.set_of.Given as goal

-- the set has the ways so far
abbrev pub invariant-loop-rest : goal.invariant-loop-rest
invariant-loop-rest l = HoldsBut l.set l.rest l.ways

abbrev pub decreases-loop-rest : goal.decreases-loop-rest
decreases-loop-rest l = length l.rest
