-- Points and surfaces that are near each other.
use Rattle.std.specs.Prelude.{ℕ, ℤ, pos, ◌-ℤ◌, ◌*ℤ◌, ◌≤ℤ◌}
use Rattle.geometry.specs.Faces.{IsPointOfFace}
use Rattle.geometry.specs.Parts.{Part, Face}
use Rattle.lattice.specs.Points.{Point}
use Rattle.lattice.specs.Triple.{Triple, dot}

-- the square of a vector's length
abbrev pub square : Triple → ℤ
square s = dot s s

-- the way from one point to another, times both of their w
abbrev pub apart : Point → Point → Triple
apart p q = record { x = q.x *ℤ p.w -ℤ p.x *ℤ q.w; y = q.y *ℤ p.w -ℤ p.y *ℤ q.w; z = q.z *ℤ p.w -ℤ p.z *ℤ q.w }

-- n 1024ths of a unit, times both w
abbrev pub span_of : ℕ → Point → Point → ℤ
span_of n p q = pos n *ℤ (p.w *ℤ q.w)

-- two points are at most n 1024ths of a unit apart
abbrev pub AreNear : ℕ → Point → Point → Type 0
AreNear n p q = (pos 1048576 *ℤ square (apart p q)) ≤ℤ (span_of n p q *ℤ span_of n p q)

-- the point is on the surface of the part
abbrev pub IsOnSurface : Part → Point → Type 0
IsOnSurface s p = (f : Face s) × IsPointOfFace f.a f.b f.c p

-- each point of the first surface has a point of the second that is at most n 1024ths of a unit away
abbrev pub LiesNear : ℕ → Part → Part → Type 0
LiesNear n s t = (p : Point) → IsOnSurface s p → (q : Point) × IsOnSurface t q × AreNear n p q

-- so it is both ways about
pub record AreNearSurfaces (n : ℕ) (s t : Part) : Type 0 where
  pub there : LiesNear n s t
  pub back : LiesNear n t s
