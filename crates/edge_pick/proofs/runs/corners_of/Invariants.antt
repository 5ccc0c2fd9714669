use Rattle.std.proofs.Common.{◌≡◌, length, take}
use Rattle.std.specs.List.{All}
use Rattle.solid_mesh.specs.Solids.{solid_part, edge_halves}
use Rattle.edge_pick.specs.inner.Numberings.{AreCornersOf, HasEdge}
use Rattle.edge_pick.proofs.runs.corners_of.Given as goal

abbrev pub invariant-loop-edge : goal.invariant-loop-edge
invariant-loop-edge l = record {
  long : length l.edges.items ≡ l.edge-index;
  each : All (HasEdge (solid_part l.solid) (edge_halves l.solid)) (take l.edge-index l.drawn);
  right : AreCornersOf (solid_part l.solid) (edge_halves l.solid) l.drawn l.edges.items;
}
