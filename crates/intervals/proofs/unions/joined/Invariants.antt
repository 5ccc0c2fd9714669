use Rattle.std.proofs.Common.{take, ◌∷◌}
use Rattle.intervals.proofs.Touching.{AreJoined, BeginsBeforeRest}
use Rattle.intervals.proofs.unions.joined.Given as goal

-- the first and the intervals so far are joined, and none that is left begins before the open one
abbrev pub invariant-loop-x : goal.invariant-loop-x
invariant-loop-x g l = BeginsBeforeRest g.T.Ord.cmp l.intervals l.x-index l.open.from × AreJoined g.T.Ord.cmp (l.initial.open ∷ take l.x-index l.intervals) l.united.items l.open
