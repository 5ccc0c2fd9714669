use Rattle.std.proofs.Common.{ℕ, ◌≤◌, ◌<◌, take, length, get_or}
use Rattle.intervals.specs.declared.interval.Interval.{Interval}
use Rattle.intervals.specs.Cuts.{AreRest}
use Rattle.intervals.specs.inner.Steps.{EndBefore}
use Rattle.intervals.proofs.remainders.rest.Given as goal

-- what is left of the whole ones so far is there, and the parts passed end before those to come begin
abbrev pub invariant-loop-x : goal.invariant-loop-x
invariant-loop-x g l = AreRest g.T.Ord.cmp (take l.x-index l.whole) l.parts l.rest.items
    × ((m : ℕ) (d : Interval g.row.T.Denot) → l.x-index ≤ m → m < length l.whole → EndBefore g.T.Ord.cmp (get_or l.whole m d).from l.parts l.passed)
