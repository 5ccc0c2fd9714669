-- How far figures reach.
use Rattle.std.specs.Prelude.{◌≡◌, ℕ, ℤ}
use Rattle.std.specs.Int.{int_min, int_max}
use Rattle.lattice.specs.declared.points.Corner.{Corner}
use Rattle.geometry.specs.Parts.{Part}
use Rattle.fault_place.specs.Places.{Figure, least_of, greatest_of, IsTriangle, IsSide}
use Rattle.fault_place.specs.declared.reach.Reach.{Reach}
use Rattle.fault_place.specs.declared.reach.Bounds.{Bounds}

-- from the one coordinate to the other
pub record IsReach (least greatest : ℤ) (r : Reach) : Type 0 where
  pub from : r.least ≡ least
  pub to : r.greatest ≡ greatest

-- along an axis, those of two together
abbrev pub IsUnited : Reach → Reach → Reach → Type 0
IsUnited f g r = IsReach (int_min f.least g.least) (int_max f.greatest g.greatest) r

-- ---- along all three axes
pub record IsAt (corner : Corner) (b : Bounds) : Type 0 where
  pub x : IsReach corner.x corner.x b.x
  pub y : IsReach corner.y corner.y b.y
  pub z : IsReach corner.z corner.z b.z

pub record AreUnited (f g b : Bounds) : Type 0 where
  pub x : IsUnited f.x g.x b.x
  pub y : IsUnited f.y g.y b.y
  pub z : IsUnited f.z g.z b.z

-- from the figure's least coordinates to its greatest
pub record AreBounds (f : Figure) (b : Bounds) : Type 0 where
  pub x : IsReach (least_of (λ c. c.x) f) (greatest_of (λ c. c.x) f) b.x
  pub y : IsReach (least_of (λ c. c.y) f) (greatest_of (λ c. c.y) f) b.y
  pub z : IsReach (least_of (λ c. c.z) f) (greatest_of (λ c. c.z) f) b.z

-- of the triangle with this number, and of the side along this half
abbrev pub BoundTriangle : Part → ℕ → Bounds → Type 0
BoundTriangle s t b = (f : Figure) × IsTriangle s t f × AreBounds f b

abbrev pub BoundSide : Part → ℕ → Bounds → Type 0
BoundSide s half b = (f : Figure) × IsSide s half f × AreBounds f b
