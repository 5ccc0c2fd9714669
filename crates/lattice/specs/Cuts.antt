-- The plane of a cut, and what is beyond it, on it and before it.
use Rattle.std.specs.Prelude.{◌≡◌, ◌<◌, ◌^◌, Bool, ℤ, pos, neg_ℤ, ◌-ℤ◌, ◌*ℤ◌, ◌<ℤ◌, unsigned_abs, if◌then◌else◌}
use Rattle.lattice.specs.declared.points.Axis.{Axis}
use Rattle.lattice.specs.declared.points.Axis.TheVariants.{X, Y, Z}
use Rattle.lattice.specs.declared.cuts.Cut.{Cut}
use Rattle.lattice.specs.Triple.{Triple, negated}
use Rattle.lattice.specs.Points.{Point, height_of}

-- a plane across an axis, half a unit farther from the viewer than `at`, and the side of the axis from which the viewer looks
pub record Plane : Type 0 where
  pub axis : Axis
  pub at : ℤ
  pub from_high : Bool

abbrev pub plane_of : Cut → Plane
plane_of c = record { axis = c.axis; at = c.at; from_high = c.from_high }

-- a place at which no plane stands
abbrev pub IsPastRange : ℤ → Type 0
IsPastRange at = 2 ^ 20 < unsigned_abs at

-- one unit along the axis
abbrev pub unit_of : Axis → Triple
unit_of X = record { x = pos 1; y = pos 0; z = pos 0 }
unit_of Y = record { x = pos 0; y = pos 1; z = pos 0 }
unit_of Z = record { x = pos 0; y = pos 0; z = pos 1 }

-- along the axis from the high side, against it from the low side
abbrev pub side_of : Axis → Bool → Triple
side_of axis from_high = if from_high then unit_of axis else negated (unit_of axis)

-- the direction from the part to the viewer
abbrev pub toward_of : Plane → Triple
toward_of c = side_of c.axis c.from_high

-- the height of `at`
abbrev pub level_of : Plane → ℤ
level_of c = if c.from_high then c.at else neg_ℤ c.at

-- the plane is half a unit lower: this is twice its height
abbrev pub plane_height : Plane → ℤ
plane_height c = (pos 2 *ℤ level_of c) -ℤ pos 1

-- beyond the plane: on the side away from the viewer
abbrev pub IsBeyond : Plane → Point → Type 0
IsBeyond c p = (pos 2 *ℤ height_of (toward_of c) p) <ℤ (plane_height c *ℤ p.w)

abbrev pub IsOnPlane : Plane → Point → Type 0
IsOnPlane c p = pos 2 *ℤ height_of (toward_of c) p ≡ plane_height c *ℤ p.w

-- before the plane: taken away
abbrev pub IsBeforePlane : Plane → Point → Type 0
IsBeforePlane c p = (plane_height c *ℤ p.w) <ℤ (pos 2 *ℤ height_of (toward_of c) p)
