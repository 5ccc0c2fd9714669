use Rattle.std.proofs.Common.{◌≡◌, ℕ, ◌<◌, length, slice_index}
use Rattle.solid_mesh.specs.inner.Halves.{GoesBack}
use Rattle.solid_mesh.proofs.sides.find_twins.Given as goal

abbrev pub invariant-loop-half : goal.invariant-loop-half
invariant-loop-half l = record {
  long : length l.twins.items ≡ l.half;
  back : (k : ℕ) → k < l.half → GoesBack l.soup.triangles.items k (slice_index l.twins.items k);
}
