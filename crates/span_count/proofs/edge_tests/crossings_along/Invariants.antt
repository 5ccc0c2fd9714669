use Rattle.std.proofs.Common.{◌-◌, length, vec_len}
use Rattle.span_count.proofs.Walks.{AreFoundSoFar}
use Rattle.span_count.proofs.edge_tests.crossings_along.Given as goal

-- the answers so far
abbrev pub invariant-loop-outline : goal.invariant-loop-outline
invariant-loop-outline g l = AreFoundSoFar (g.S.Sight.sight l.fn.sight) l.edge (g.F.Finder.list_along l.finder l.edge) l.i (g.S.Sight.sight l.sight) l.crossings.items (vec_len l.crossings)

abbrev pub decreases-loop-outline : goal.decreases-loop-outline
decreases-loop-outline g l = length (g.F.Finder.list_along l.finder l.edge) - l.i
