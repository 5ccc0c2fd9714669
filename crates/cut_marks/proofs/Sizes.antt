-- How far from a view's origin a corner is shown.
use Rattle.std.proofs.Common.{◌≡◌, ◌<◌, ◌≤◌, ◌^◌, Bool, true, false, arith, unsigned_abs}
use Rattle.std.specs.Prelude.{ℤ, pos, neg_ℤ, ◌+ℤ◌, ◌-ℤ◌, if◌then◌else◌, ◌&&◌}
use Rattle.std.specs.Ordering.{int_eq}
use Rattle.std.proofs.lemmas.Int.{ints}
use Rattle.lattice.specs.declared.points.Corner.{Corner}
use Rattle.lattice.specs.declared.points.Dir.{Dir}
use Rattle.lattice.specs.Points.{of_dir, point_of, scaled, across_of, upward_of}
use Rattle.lattice.specs.Triple.{Triple, IsWithin, dot, right_axis, up_axis}
use Rattle.lattice.proofs.VectorSizes.{dot_reads, cross_within, wider}
use Rattle.sheet_plan.specs.Numbers.{Measure, measure_of, square_of, sheet_length}
use Rattle.sheet_plan.specs.Sheets.{IsShownAt}
use Rattle.sheet_plan.specs.declared.sheet.Sheet.{Sheet}
use Rattle.sheet_plan.specs.declared.sheet.Spread.{Spread}
use Rattle.sheet_plan.proofs.Lengths.{length_small}
use Rattle.sheet_plan.proofs.Scales.{scale_bounds}

-- ---- the axes of a view
pub right_within : (d : Dir) → IsWithin 9 (right_axis (of_dir d))
right_within d = go (int_eq d.x (pos 0) && int_eq d.y (pos 0))
  where
    go : (b : Bool) → IsWithin 9 (if b then record { x = pos 1; y = pos 0; z = pos 0 } else record { x = neg_ℤ d.y; y = d.x; z = pos 0 })
    go true = record { x = omega arith; y = omega arith; z = omega arith }
    go false = record { x = turned d.y d.y_in_range; y = d.x_in_range; z = omega arith }
      where
        turned : (a : ℤ) → unsigned_abs a ≤ 9 → unsigned_abs (neg_ℤ a) ≤ 9
        turned a h = omega (arith, ints)

pub up_within : (d : Dir) → IsWithin 162 (up_axis (of_dir d))
up_within d = cross_within 9 9 (of_dir d) (right_axis (of_dir d)) (record { x = d.x_in_range; y = d.y_in_range; z = d.z_in_range }) (right_within d)

pub product_small : (axis : Triple) (k : Corner) → IsWithin 162 axis → unsigned_abs (dot axis (scaled (point_of k))) ≤ 2 ^ 30
product_small axis k h =
    let r = dot_reads 162 (2 ^ 20) axis (scaled (point_of k)) h (record { x = k.x_in_range; y = k.y_in_range; z = k.z_in_range }) in
    omega (arith, r.size)

-- ---- places
pub record IsNear (x y : ℤ) : Type 0 where
  pub across : unsigned_abs x < 2 ^ 61
  pub down : unsigned_abs y < 2 ^ 61

pub shown_near : (sheet : Sheet) (place : Spread) (k : Corner) (x y : ℤ) → IsShownAt sheet place (point_of k) x y → IsNear x y
shown_near sheet place k x y h =
    let m : Measure = measure_of sheet.scale sheet.decimals in
    let d : Triple = of_dir place.d in
    let b = scale_bounds sheet.scale.num sheet.scale.den sheet.scale.listed in
    record {
      across = sum x place.x0 (sheet_length m (square_of (right_axis d)) (across_of d (point_of k)) (pos 1)) h.right place.x_in_range (length_small m (square_of (right_axis d)) (across_of d (point_of k)) b.num_greatest b.den_least b.den_greatest sheet.few_decimals (product_small _ k (wider _ (right_within place.d))));
      down = gap y place.y0 (sheet_length m (square_of (up_axis d)) (upward_of d (point_of k)) (pos 1)) h.down place.y_in_range (length_small m (square_of (up_axis d)) (upward_of d (point_of k)) b.num_greatest b.den_least b.den_greatest sheet.few_decimals (product_small _ k (up_within place.d)));
    }
  where
    sum : (x a b : ℤ) → x ≡ a +ℤ b → unsigned_abs a < 2 ^ 60 → unsigned_abs b ≤ 2 ^ 45 → unsigned_abs x < 2 ^ 61
    sum x a b e h k = omega (arith, ints)

    gap : (x a b : ℤ) → x ≡ a -ℤ b → unsigned_abs a < 2 ^ 60 → unsigned_abs b ≤ 2 ^ 45 → unsigned_abs x < 2 ^ 61
    gap x a b e h k = omega (arith, ints)
