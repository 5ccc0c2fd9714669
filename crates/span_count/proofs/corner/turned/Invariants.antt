use Rattle.std.proofs.Common.{◌-◌, length}
use Rattle.span_count.proofs.Own.{AreTurnsSoFar}
use Rattle.span_count.proofs.corner.turned.Given as goal

-- the sums of the answers so far
abbrev pub invariant-loop-outline : goal.invariant-loop-outline
invariant-loop-outline g l = AreTurnsSoFar (g.S.Sight.sight l.fn.sight) l.from l.to (g.F.Finder.list_over l.finder l.corner) l.i (g.S.Sight.sight l.sight) l.left l.right

abbrev pub decreases-loop-outline : goal.decreases-loop-outline
decreases-loop-outline g l = length (g.F.Finder.list_over l.finder l.corner) - l.i
