use Rattle.std.proofs.Common.{◌≡◌, ◌-◌, List, ◌++◌, length}
use Rattle.intervals.specs.declared.interval.Interval.{Interval}
use Rattle.intervals.proofs.Remaining.{IsRestUpTo}
use Rattle.intervals.proofs.remainders.add_rest_of.Given as goal

-- what the first k parts leave of x is added, up to where the last of them ends
abbrev pub invariant-loop-k : goal.invariant-loop-k
invariant-loop-k g l = (added : List (Interval g.row.T.Denot)) × (l.rest.items ≡ l.fn.rest.items ++ added) × IsRestUpTo g.T.Ord.cmp l.x l.parts l.k l.from added

abbrev pub decreases-loop-k : goal.decreases-loop-k
decreases-loop-k g l = length l.parts - l.k
