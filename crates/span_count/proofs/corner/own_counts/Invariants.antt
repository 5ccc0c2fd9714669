use Rattle.span_count.proofs.Own.{AreOwnSoFar}
use Rattle.span_count.proofs.corner.own_counts.Given as goal

-- the sums of the tests so far
abbrev pub invariant-loop-i : goal.invariant-loop-i
invariant-loop-i g l = AreOwnSoFar (g.S.Sight.sight l.fn.sight) l.end.edge l.end.at_b l.corner l.i (g.S.Sight.sight l.sight) l.left l.right
