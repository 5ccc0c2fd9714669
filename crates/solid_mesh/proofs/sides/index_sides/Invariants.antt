use Rattle.std.proofs.Common.{◌≡◌}
use Rattle.std.specs.List.{IsDistinct}
use Rattle.solid_mesh.specs.inner.Halves.{first_sides}
use Rattle.solid_mesh.proofs.SideLemmas.{same_side}
use Rattle.solid_mesh.proofs.sides.index_sides.Given as goal

abbrev pub invariant-loop-half : goal.invariant-loop-half
invariant-loop-half l = record {
  in_order : l.sides.keys ≡ first_sides l.soup.triangles.items l.half;
  distinct : IsDistinct same_side l.sides.keys;
}
