use Rattle.geometry.specs.Parts.{part_of}
use Rattle.solid_mesh.proofs.Placing.{AreNumbered}
use Rattle.solid_mesh.proofs.placed.place_triangles.Given as goal

abbrev pub invariant-loop-tri : goal.invariant-loop-tri
invariant-loop-tri l = AreNumbered (part_of l.soup) l.tri l.placed.items
