-- Points of the plane of a cut by what is seen of them, and hatch lines.
use Rattle.std.specs.Prelude.{◌≡◌, Bool, true, false, ℤ, pos, neg_ℤ, ◌-ℤ◌, ◌*ℤ◌}
use Rattle.intervals.specs.declared.interval.Interval.{Interval}
use Rattle.lattice.specs.declared.points.Axis.{Axis}
use Rattle.lattice.specs.declared.points.Axis.TheVariants.{X, Y, Z}
use Rattle.lattice.specs.declared.points.Spot.{Spot}
use Rattle.lattice.specs.declared.pieces.HatchLine.{HatchLine}
use Rattle.lattice.specs.Triple.{Triple}
use Rattle.lattice.specs.Points.{Point, of_spot}
use Rattle.lattice.specs.Cuts.{Plane, plane_height}
use Rattle.hatch_fill.specs.declared.places.HatchPlace.{HatchPlace}

-- what is seen at U, V and this height, along the axis from its high side or against it
abbrev pub triple_along : Axis → Bool → ℤ → ℤ → ℤ → Triple
triple_along X true u v h = record { x = h; y = u; z = v }
triple_along X false u v h = record { x = neg_ℤ h; y = neg_ℤ u; z = v }
triple_along Y true u v h = record { x = neg_ℤ u; y = h; z = v }
triple_along Y false u v h = record { x = u; y = neg_ℤ h; z = v }
triple_along Z true u v h = record { x = u; y = v; z = h }
triple_along Z false u v h = record { x = u; y = neg_ℤ v; z = neg_ℤ h }

abbrev pub triple_seen : Plane → ℤ → ℤ → ℤ → Triple
triple_seen c u v h = triple_along c.axis c.from_high u v h

-- the point with these coordinates over w
abbrev pub point_over : Triple → ℤ → Point
point_over t w = record { x = t.x; y = t.y; z = t.z; w = w }

-- the spot of the plane at this place
abbrev pub IsSpotAt : Plane → HatchPlace → Spot → Type 0
IsSpotAt c t p =
    let n = t.across.num in
    let m = t.across.den in
    of_spot p ≡ point_over (triple_seen c (pos 2 *ℤ n) (pos 2 *ℤ (n -ℤ (t.diagonal *ℤ m))) (plane_height c *ℤ m)) (pos 2 *ℤ m)

-- the hatch line from the one end of the interval to the other
pub record IsLineOver (c : Plane) (i : Interval HatchPlace) (x : HatchLine) : Type 0 where
  pub first : IsSpotAt c i.from x.a
  pub second : IsSpotAt c i.to x.b
