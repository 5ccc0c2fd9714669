use Rattle.std.proofs.Common.{◌≡◌, ℕ, ◌+◌, ◌*◌, ◌/◌, ◌<◌, ◌≤◌, length}
use Rattle.geometry.specs.Parts.{part_of}
use Rattle.solid_mesh.specs.Faults.{ShareSide}
use Rattle.solid_mesh.specs.inner.Halves.{side_at}
use Rattle.solid_mesh.proofs.sides.first_sharing.Given as goal

abbrev pub invariant-loop-side : goal.invariant-loop-side
invariant-loop-side l = record {
  least : (k : ℕ) → k < l.side → (other : ℕ) → other < length l.sides.keys → side_at l.soup.triangles.items other ≡ side_at l.soup.triangles.items (3 * l.second + k) → l.first ≤ other / 3;
  shares : l.first < l.second → ShareSide (part_of l.soup) l.first l.second;
}
