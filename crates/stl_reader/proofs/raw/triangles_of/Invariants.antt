use Rattle.std.proofs.Common.{◌≡◌, ◌*◌, length, map, All}
use Rattle.std.specs.List.{range_with_len}
use Rattle.lattice.specs.Triangles.{IsBelow}
use Rattle.stl_reader.specs.Stl.{triangle_at}
use Rattle.stl_reader.proofs.raw.triangles_of.Given as goal

abbrev pub invariant-loop-i : goal.invariant-loop-i
invariant-loop-i l = record {
  items : l.triangles.items ≡ map triangle_at (range_with_len 0 l.i);
  below : All (IsBelow (3 * l.count)) l.triangles.items;
  count : length l.triangles.items ≡ l.i;
}
