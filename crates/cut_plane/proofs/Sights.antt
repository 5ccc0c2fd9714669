-- Points as a viewer of a cut sees them, and when a border counts at a sight.
use Rattle.std.specs.Prelude.{ℕ, Bool, slice_index_or, ℤ, pos, ◌+ℤ◌, ◌-ℤ◌, ◌*ℤ◌}
use Rattle.std.proofs.Common.{true, false}
use Rattle.std.specs.Int.Signed.{lt_z}
use Rattle.lattice.specs.declared.points.Corner.{Corner}
use Rattle.lattice.specs.declared.soup.Tri.{Tri}
use Rattle.lattice.specs.Triple.{Triple}
use Rattle.lattice.specs.Points.{Point, across_of, upward_of}
use Rattle.lattice.specs.Cuts.{Plane, toward_of}
use Rattle.geometry.specs.Parts.{Part}
use Rattle.geometry.specs.Cuts.{over_of, crossing_of}

-- U and V, each times w
pub record Sight : Type 0 where
  pub u : ℤ
  pub v : ℤ
  pub w : ℤ

abbrev pub sight_of : Triple → Point → Sight
sight_of d p = record { u = across_of d p; v = upward_of d p; w = p.w }

-- by how much q is to the right of p, and above it, times both divisors
abbrev pub right_by : Sight → Sight → ℤ
right_by p q = (q.u *ℤ p.w) -ℤ (p.u *ℤ q.w)

abbrev pub above_by : Sight → Sight → ℤ
above_by p q = (q.v *ℤ p.w) -ℤ (p.v *ℤ q.w)

-- positive where r is to the left of the line from p to q, 0 where it is on the line
abbrev pub turn_of : Sight → Sight → Sight → ℤ
turn_of p q r = ((p.u *ℤ ((q.v *ℤ r.w) -ℤ (q.w *ℤ r.v))) -ℤ (p.v *ℤ ((q.u *ℤ r.w) -ℤ (q.w *ℤ r.u)))) +ℤ (p.w *ℤ ((q.u *ℤ r.v) -ℤ (q.v *ℤ r.u)))

-- of two that may be above, the second alone is and the side is to the left, or the first alone is and the side is to the right
abbrev pub counts : Bool → Bool → ℤ → Bool
counts false false x = false
counts false true x = lt_z (pos 0) x
counts true false x = lt_z x (pos 0)
counts true true x = false

-- the segment from k to l is to the right of p, at its V, and goes on above it
abbrev pub counts_at : Sight → Sight → Sight → Bool
counts_at k l p = counts (lt_z (pos 0) (above_by p k)) (lt_z (pos 0) (above_by p l)) (turn_of k l p)

-- where a side crosses the plane, as it is seen
abbrev pub crossing_sight : Plane → Corner → Corner → Sight
crossing_sight c k l = sight_of (toward_of c) (crossing_of c k l)

-- ---- the border of a face with three corners
abbrev pub is_before : Plane → Corner → Bool
is_before c k = lt_z (pos 0) (over_of c k)

-- which corners are before the plane, where the three sides cross it, and a sight: the border is to its right and goes on above it
abbrev pub left_by : Bool → Bool → Bool → Sight → Sight → Sight → Sight → Bool
left_by false false false x y z p = false
left_by true true true x y z p = false
left_by true false false x y z p = counts_at x z p
left_by false true true x y z p = counts_at x z p
left_by false true false x y z p = counts_at y x p
left_by true false true x y z p = counts_at y x p
left_by false false true x y z p = counts_at z y p
left_by true true false x y z p = counts_at z y p

abbrev pub left_of_border : Plane → Corner → Corner → Corner → Sight → Bool
left_of_border c k l m p = left_by (is_before c k) (is_before c l) (is_before c m) (crossing_sight c k l) (crossing_sight c l m) (crossing_sight c m k) p

-- x is at a V between those of two sights, that of the upper one included, and to the right of the way between them
abbrev pub beside_way : Sight → Sight → Sight → Bool
beside_way p q x = counts (lt_z (pos 0) (above_by p x)) (lt_z (pos 0) (above_by q x)) (turn_of p q x)

abbrev pub if_apart : Bool → Bool → Bool → Bool
if_apart false false b = false
if_apart false true b = b
if_apart true false b = b
if_apart true true b = false

-- the side crosses the plane to the right of the way
abbrev pub crosses_beside : Plane → Corner → Corner → Sight → Sight → Bool
crosses_beside c k l p q = if_apart (is_before c k) (is_before c l) (beside_way p q (crossing_sight c k l))

-- ---- the section
-- the corner with this number, or o
abbrev pub corner_at : Part → Corner → ℕ → Corner
corner_at s o i = slice_index_or s.corners i o

abbrev pub left_of_triangle : Plane → Part → Corner → Sight → Tri → Bool
left_of_triangle c s o p t = left_of_border c (corner_at s o t.a) (corner_at s o t.b) (corner_at s o t.c) p
