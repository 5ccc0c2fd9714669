-- Triples of whole numbers without a bound: vectors, points and axes.
use Rattle.std.specs.Prelude.{◌≡◌, ℕ, ◌≤◌, unsigned_abs, ℤ, pos, neg_ℤ, ◌+ℤ◌, ◌-ℤ◌, ◌*ℤ◌, if◌then◌else◌, ◌&&◌}
use Rattle.std.specs.Ordering.{int_eq}

pub record Triple : Type 0 where
  pub x : ℤ
  pub y : ℤ
  pub z : ℤ

-- the product of two vectors
abbrev pub dot : Triple → Triple → ℤ
dot s t = s.x *ℤ t.x +ℤ s.y *ℤ t.y +ℤ s.z *ℤ t.z

-- the cross product
abbrev pub cross : Triple → Triple → Triple
cross s t = record {
  x = s.y *ℤ t.z -ℤ s.z *ℤ t.y;
  y = s.z *ℤ t.x -ℤ s.x *ℤ t.z;
  z = s.x *ℤ t.y -ℤ s.y *ℤ t.x;
}

-- the vector that goes back
abbrev pub negated : Triple → Triple
negated s = record { x = neg_ℤ s.x; y = neg_ℤ s.y; z = neg_ℤ s.z }

-- the determinant of three vectors
abbrev pub det : Triple → Triple → Triple → ℤ
det r s t = dot r (cross s t)

-- the right axis of a direction: level, and across the view
abbrev pub right_axis : Triple → Triple
right_axis d = if int_eq d.x (pos 0) && int_eq d.y (pos 0) then record { x = pos 1; y = pos 0; z = pos 0 } else record { x = neg_ℤ d.y; y = d.x; z = pos 0 }

-- the up axis of a direction
abbrev pub up_axis : Triple → Triple
up_axis d = cross d (right_axis d)

-- each component is 0
pub record IsZero (t : Triple) : Type 0 where
  pub x : t.x ≡ pos 0
  pub y : t.y ≡ pos 0
  pub z : t.z ≡ pos 0

-- each component is at most m in size
pub record IsWithin (m : ℕ) (t : Triple) : Type 0 where
  pub x : unsigned_abs t.x ≤ m
  pub y : unsigned_abs t.y ≤ m
  pub z : unsigned_abs t.z ≤ m
