-- What is seen of points in the plane of a cut, and how near.
use Rattle.std.proofs.Common.{◌≡◌, ℕ, ◌+◌, ◌*◌, ◌<◌, ◌≤◌, ◌^◌, Bool, true, false, sym, ap, subst, ◌∙◌, arith, unsigned_abs, mul_comm, mul_assoc}
use Rattle.std.specs.Prelude.{if◌then◌else◌, ℤ, pos, neg_ℤ, ◌+ℤ◌, ◌-ℤ◌, ◌*ℤ◌, ◌<ℤ◌, ◌≤ℤ◌}
use Rattle.std.proofs.lemmas.Int.{ints, unsigned_abs-mul}
use Rattle.integers.proofs.Comparisons.{not_negative_of_positive}
use Rattle.integers.proofs.Signs.{mul_nonneg}
use Rattle.integers.proofs.Sizes.{abs_times}
use Rattle.lattice.specs.declared.points.Axis.{Axis}
use Rattle.lattice.specs.declared.points.Axis.TheVariants.{X, Y, Z}
use Rattle.lattice.specs.declared.points.Spot.{Spot}
use Rattle.lattice.specs.declared.points.Corner.{Corner}
use Rattle.lattice.specs.Points.{of_spot, point_of, across_of, upward_of, height_of}
use Rattle.lattice.specs.Cuts.{Plane, toward_of, side_of, level_of, plane_height}
use Rattle.geometry.specs.Cuts.{over_of, crossing_of}
use Rattle.hatch_fill.specs.inner.Places.{IsNear}
use Rattle.hatch_fill.specs.inner.Lines.{triple_along, point_over}

-- ---- what is seen of a point that is made of it
pub across_seen : (axis : Axis) (b : Bool) (u v h w : ℤ) → across_of (side_of axis b) (point_over (triple_along axis b u v h) w) ≡ u
across_seen X true u v h w = omega (arith, ints)
across_seen X false u v h w = omega (arith, ints)
across_seen Y true u v h w = omega (arith, ints)
across_seen Y false u v h w = omega (arith, ints)
across_seen Z true u v h w = omega (arith, ints)
across_seen Z false u v h w = omega (arith, ints)

pub upward_seen : (axis : Axis) (b : Bool) (u v h w : ℤ) → upward_of (side_of axis b) (point_over (triple_along axis b u v h) w) ≡ v
upward_seen X true u v h w = omega (arith, ints)
upward_seen X false u v h w = omega (arith, ints)
upward_seen Y true u v h w = omega (arith, ints)
upward_seen Y false u v h w = omega (arith, ints)
upward_seen Z true u v h w = omega (arith, ints)
upward_seen Z false u v h w = omega (arith, ints)

pub height_seen : (axis : Axis) (b : Bool) (u v h w : ℤ) → height_of (side_of axis b) (point_over (triple_along axis b u v h) w) ≡ h
height_seen X true u v h w = omega (arith, ints)
height_seen X false u v h w = omega (arith, ints)
height_seen Y true u v h w = omega (arith, ints)
height_seen Y false u v h w = omega (arith, ints)
height_seen Z true u v h w = omega (arith, ints)
height_seen Z false u v h w = omega (arith, ints)

-- ---- spots
module _ (x y z w : ℤ) (n : ℕ) (hx : unsigned_abs x ≤ n) (hy : unsigned_abs y ≤ n) (hz : unsigned_abs z ≤ n) where
  across_within : (axis : Axis) (b : Bool) → unsigned_abs (across_of (side_of axis b) (record { x = x; y = y; z = z; w = w })) ≤ n
  across_within X true = omega (arith, ints, hx, hy, hz)
  across_within X false = omega (arith, ints, hx, hy, hz)
  across_within Y true = omega (arith, ints, hx, hy, hz)
  across_within Y false = omega (arith, ints, hx, hy, hz)
  across_within Z true = omega (arith, ints, hx, hy, hz)
  across_within Z false = omega (arith, ints, hx, hy, hz)

  upward_within : (axis : Axis) (b : Bool) → unsigned_abs (upward_of (side_of axis b) (record { x = x; y = y; z = z; w = w })) ≤ n
  upward_within X true = omega (arith, ints, hx, hy, hz)
  upward_within X false = omega (arith, ints, hx, hy, hz)
  upward_within Y true = omega (arith, ints, hx, hy, hz)
  upward_within Y false = omega (arith, ints, hx, hy, hz)
  upward_within Z true = omega (arith, ints, hx, hy, hz)
  upward_within Z false = omega (arith, ints, hx, hy, hz)

  height_within : (axis : Axis) (b : Bool) → unsigned_abs (height_of (side_of axis b) (record { x = x; y = y; z = z; w = w })) ≤ n
  height_within X true = omega (arith, ints, hx, hy, hz)
  height_within X false = omega (arith, ints, hx, hy, hz)
  height_within Y true = omega (arith, ints, hx, hy, hz)
  height_within Y false = omega (arith, ints, hx, hy, hz)
  height_within Z true = omega (arith, ints, hx, hy, hz)
  height_within Z false = omega (arith, ints, hx, hy, hz)

pub across_near : (c : Plane) (k : Spot) → IsNear (across_of (toward_of c) (of_spot k)) k.w
across_near c k = across_within k.x k.y k.z k.w (2 ^ 21 * unsigned_abs k.w) k.x_near k.y_near k.z_near c.axis c.from_high

pub upward_near : (c : Plane) (k : Spot) → IsNear (upward_of (toward_of c) (of_spot k)) k.w
upward_near c k = upward_within k.x k.y k.z k.w (2 ^ 21 * unsigned_abs k.w) k.x_near k.y_near k.z_near c.axis c.from_high

-- ---- ends of borders have short divisors
over_small : (c : Plane) (k : Corner) → unsigned_abs c.at ≤ 2 ^ 20 → unsigned_abs (over_of c k) ≤ 2 ^ 23
over_small c k small = by (height_of (toward_of c) (point_of k)) (height_within k.x k.y k.z (pos 1) (2 ^ 20) k.x_in_range k.y_in_range k.z_in_range c.axis c.from_high) (level c.from_high)
  where
    level : (b : Bool) → unsigned_abs (if b then c.at else neg_ℤ c.at) ≤ 2 ^ 20
    level true = small
    level false = omega (arith, ints, small)

    sum : (h l : ℤ) → unsigned_abs h ≤ 2 ^ 20 → unsigned_abs l ≤ 2 ^ 20 → unsigned_abs ((pos 2 *ℤ h) -ℤ ((pos 2 *ℤ l) -ℤ pos 1)) ≤ 2 ^ 23
    sum h l f g = omega (arith, ints, f, g)

    by : (h : ℤ) → unsigned_abs h ≤ 2 ^ 20 → unsigned_abs (level_of c) ≤ 2 ^ 20 → unsigned_abs ((pos 2 *ℤ h) -ℤ plane_height c) ≤ 2 ^ 23
    by h f g = sum h (level_of c) f g

pub crossing_short : (c : Plane) (k l : Corner) → unsigned_abs c.at ≤ 2 ^ 20 → unsigned_abs (crossing_of c k l).w < 2 ^ 69
crossing_short c k l small = by (unsigned_abs (over_of c k)) (unsigned_abs (over_of c l)) (over_small c k small) (over_small c l small)
  where
    by : (m n : ℕ) → m ≤ 2 ^ 23 → n ≤ 2 ^ 23 → unsigned_abs (pos (n + m)) < 2 ^ 69
    by m n f g = omega (arith, ints, f, g)

-- ---- sums
near_times : (i : ℕ) (u x : ℤ) → IsNear u x → IsNear (pos i *ℤ u) (pos i *ℤ x)
near_times i u x h = subst (λ (n : ℕ). unsigned_abs (pos i *ℤ u) ≤ n) (sizes i (unsigned_abs x) ∙ ap (λ (n : ℕ). 2 ^ 21 * n) (sym (unsigned_abs-mul (pos i) x))) (abs_times (pos i) u i (2 ^ 21 * unsigned_abs x) (omega arith) h)
  where
    sizes : (i n : ℕ) → i * (2 ^ 21 * n) ≡ 2 ^ 21 * (i * n)
    sizes i n = sym (mul_assoc i (2 ^ 21) n) ∙ ap (λ (m : ℕ). m * n) (mul_comm i (2 ^ 21)) ∙ mul_assoc (2 ^ 21) i n

pub near_sum : (i j : ℕ) (u v x y : ℤ) → pos 0 <ℤ x → pos 0 <ℤ y → IsNear u x → IsNear v y → IsNear ((pos i *ℤ u) +ℤ (pos j *ℤ v)) ((pos i *ℤ x) +ℤ (pos j *ℤ y))
near_sum i j u v x y hx hy h k = both (pos i *ℤ u) (pos j *ℤ v) (pos i *ℤ x) (pos j *ℤ y) (mul_nonneg (pos i) x (omega (arith, ints)) (not_negative_of_positive x hx)) (mul_nonneg (pos j) y (omega (arith, ints)) (not_negative_of_positive y hy)) (near_times i u x h) (near_times j v y k)
  where
    both : (a b c d : ℤ) → pos 0 ≤ℤ c → pos 0 ≤ℤ d → unsigned_abs a ≤ 2 ^ 21 * unsigned_abs c → unsigned_abs b ≤ 2 ^ 21 * unsigned_abs d → unsigned_abs (a +ℤ b) ≤ 2 ^ 21 * unsigned_abs (c +ℤ d)
    both a b c d p q f g = omega (arith, ints, f, g)
