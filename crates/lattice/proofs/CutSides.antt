-- The plane of a cut meets no corner: each is beyond it or before it.
use Rattle.std.proofs.Common.{◌≡◌, ◌↔◌, true, false, arith}
use Rattle.std.specs.Prelude.{ℤ, pos, neg_ℤ, ◌-ℤ◌, ◌*ℤ◌, ◌<ℤ◌, ◌≤ℤ◌}
use Rattle.std.proofs.lemmas.Int.{ints}
use Rattle.lattice.specs.declared.points.Axis.{Axis}
use Rattle.lattice.specs.declared.points.Axis.TheVariants.{X, Y, Z}
use Rattle.lattice.specs.declared.points.Corner.{Corner}
use Rattle.lattice.specs.Axes.{coordinate_of}
use Rattle.lattice.specs.Points.{point_of, height_of}
use Rattle.lattice.specs.Cuts.{Plane, toward_of, level_of, IsBeyond, IsOnPlane, IsBeforePlane}

-- beyond exactly where the corner is lower than `at`
pub corner_beyond : (c : Plane) (k : Corner) → IsBeyond c (point_of k) ↔ (height_of (toward_of c) (point_of k) <ℤ level_of c)
corner_beyond c k = go (height_of (toward_of c) (point_of k)) (level_of c)
  where
    go : (h l : ℤ) → ((pos 2 *ℤ h) <ℤ (((pos 2 *ℤ l) -ℤ pos 1) *ℤ pos 1)) ↔ (h <ℤ l)
    go h l = ((λ less. omega (arith, ints)), (λ less. omega (arith, ints)))

-- before it exactly where the corner is not lower
pub corner_before : (c : Plane) (k : Corner) → IsBeforePlane c (point_of k) ↔ (level_of c ≤ℤ height_of (toward_of c) (point_of k))
corner_before c k = go (height_of (toward_of c) (point_of k)) (level_of c)
  where
    go : (h l : ℤ) → ((((pos 2 *ℤ l) -ℤ pos 1) *ℤ pos 1) <ℤ (pos 2 *ℤ h)) ↔ (l ≤ℤ h)
    go h l = ((λ less. omega (arith, ints)), (λ less. omega (arith, ints)))

pub corner_off_plane : (c : Plane) (k : Corner) → ¬ IsOnPlane c (point_of k)
corner_off_plane c k on = go (height_of (toward_of c) (point_of k)) (level_of c) on
  where
    go : (h l : ℤ) → pos 2 *ℤ h ≡ ((pos 2 *ℤ l) -ℤ pos 1) *ℤ pos 1 → ⊥
    go h l e = omega (arith, ints)

-- the height of a corner is its coordinate on the axis from the high side, and that turned round from the low side
pub height_high : (axis : Axis) (at : ℤ) (k : Corner) → height_of (toward_of (record { axis = axis; at = at; from_high = true })) (point_of k) ≡ coordinate_of axis (point_of k)
height_high X at k = omega (arith, ints)
height_high Y at k = omega (arith, ints)
height_high Z at k = omega (arith, ints)

pub height_low : (axis : Axis) (at : ℤ) (k : Corner) → height_of (toward_of (record { axis = axis; at = at; from_high = false })) (point_of k) ≡ neg_ℤ (coordinate_of axis (point_of k))
height_low X at k = omega (arith, ints)
height_low Y at k = omega (arith, ints)
height_low Z at k = omega (arith, ints)
