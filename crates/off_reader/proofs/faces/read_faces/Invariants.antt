use Rattle.std.proofs.Common.{◌≡◌, ◌≤◌, length, map, All, Ok}
use Rattle.lattice.specs.Points.{of_corner}
use Rattle.lattice.specs.Triangles.{IsBelow}
use Rattle.off_reader.specs.Off.{Faces}
use Rattle.off_reader.proofs.faces.read_faces.Given as goal

abbrev pub invariant-loop-number : goal.invariant-loop-number
invariant-loop-number l = record {
  step : Faces l.bytes (map of_corner l.vertices) l.number 0 0 l.initial.tokens.left (Ok (l.triangles.items, l.tokens.left));
  text : l.tokens.text ≡ l.bytes;
  below : All (IsBelow (length l.vertices)) l.triangles.items;
  most : length l.triangles.items ≤ 20000;
}
