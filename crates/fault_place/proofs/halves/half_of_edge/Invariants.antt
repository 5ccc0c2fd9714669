use Rattle.std.proofs.Common.{◌≤◌}
use Rattle.geometry.specs.Parts.{part_of}
use Rattle.fault_place.specs.inner.Halves.{AreFirstSides, AreFirstEdges}
use Rattle.fault_place.proofs.halves.half_of_edge.Given as goal

abbrev pub invariant-loop-half : goal.invariant-loop-half
invariant-loop-half l = record {
  sides : AreFirstSides (part_of l.soup) l.half l.sides.keys;
  edges : AreFirstEdges (part_of l.soup) l.half l.edges;
  few : l.edges ≤ l.edge;
}
