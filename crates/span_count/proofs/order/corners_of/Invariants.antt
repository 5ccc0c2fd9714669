use Rattle.std.proofs.Common.{◌≡◌, length}
use Rattle.edge_pick.specs.inner.Numberings.{AreCornersOf}
use Rattle.span_count.proofs.order.corners_of.Given as goal

abbrev pub invariant-loop-edge : goal.invariant-loop-edge
invariant-loop-edge g l = record {
  long : length l.edges.items ≡ l.edge-index;
  right : AreCornersOf (g.S.Sight.sight l.sight).part (g.S.Sight.sight l.sight).halves l.drawn l.edges.items;
}
