use Rattle.std.proofs.Common.{◌≡◌, ◌*◌, ◌≤◌, None}
use Rattle.geometry.specs.Parts.{part_of}
use Rattle.solid_mesh.specs.inner.Searches.{Searched}
use Rattle.solid_mesh.proofs.SearchedEdges.{IsBelowEdge}
use Rattle.solid_mesh.proofs.search.search.Given as goal

abbrev pub invariant-loop-edge : goal.invariant-loop-edge
invariant-loop-edge l = record {
  searched : Searched (part_of l.soup) l.halves (IsBelowEdge (part_of l.soup) l.halves l.edge) l.initial.found l.found;
  none : l.found.first ≡ None;
  boxes : l.found.meter.boxes ≤ 20000 * l.edge;
  pairs : l.found.meter.pairs ≤ 20000 * l.edge;
}
