use Rattle.std.proofs.Common.{length, ◌-◌, ◌≡◌, ◌≤◌, ◌++◌, drop}
use Rattle.hatch_fill.specs.inner.Stretches.{pairs_of}
use Rattle.hatch_fill.proofs.stretches.pairs.Given as goal

-- what is added and the pairs that are left are all pairs
abbrev pub invariant-loop-k : goal.invariant-loop-k
invariant-loop-k l = (l.k ≤ length l.places) × (l.intervals.items ++ pairs_of (drop l.k l.places) ≡ pairs_of l.places)

abbrev pub decreases-loop-k : goal.decreases-loop-k
decreases-loop-k l = length l.places - l.k
