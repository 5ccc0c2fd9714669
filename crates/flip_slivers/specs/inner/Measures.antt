-- What is measured of triangles.
use Rattle.std.specs.Prelude.{◌≡◌, ℕ, ◌*◌, ◌<◌, ◌≤◌, pos, List, length, Some, slice_get}
use Rattle.lattice.specs.declared.points.Corner.{Corner}
use Rattle.lattice.specs.declared.soup.Tri.{Tri}
use Rattle.flip_slivers.specs.Heights.{HasHeight, IsRoundedUp}
use Rattle.flip_slivers.specs.declared.measures.Measure.{Measure}

-- the triangle's height, and if it is a sliver that rounded up
pub record IsMeasure (corners : List Corner) (t : Tri) (m : Measure) : Type 0 where
  pub height : HasHeight corners t (pos m.height.area) (pos m.height.side)
  pub rise : 0 < m.height.side → m.height.area ≤ 4 * m.height.side → IsRoundedUp m.rise (pos m.height.area) (pos m.height.side)
  pub small : m.rise ≤ 4096

-- each triangle's, in order
pub record AreMeasures (corners : List Corner) (triangles : List Tri) (measures : List Measure) : Type 0 where
  pub for_each : length measures ≡ length triangles
  pub each : (i : ℕ) (t : Tri) (m : Measure) → slice_get triangles i ≡ Some t → slice_get measures i ≡ Some m → IsMeasure corners t m
