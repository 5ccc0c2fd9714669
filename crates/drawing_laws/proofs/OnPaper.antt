-- Rounding keeps order: what lies within the extent of a part is put into the box of its view.
use Rattle.std.proofs.Common.{◌≡◌, [], ◌∷◌, refl, ℕ, ◌*◌, ◌+◌, ◌≤◌, ◌^◌, arith}
use Rattle.std.specs.Prelude.{ℤ, pos, negsuc, ◌+ℤ◌, ◌-ℤ◌, ◌*ℤ◌, ◌<ℤ◌, ◌≤ℤ◌}
use Rattle.std.proofs.lemmas.Int.{ints}
use Rattle.integers.proofs.Absolutes.{natural_not_negative}
use Rattle.integers.proofs.Comparisons.{gap_of_at_most, at_most_by, twice_positive}
use Rattle.integers.proofs.Floors.{floor_of-ordered}
use Rattle.integers.proofs.Ring.{var, con, ◌⊕◌, ◌⊖◌, ◌⊗◌, ring}
use Rattle.integers.proofs.Signs.{mul_nonneg, mul_pos}
use Rattle.lattice.specs.Points.{Point, IsPoint, of_dir, across_of, upward_of}
use Rattle.lattice.specs.Triple.{Triple, right_axis, up_axis}
use Rattle.drawing_laws.proofs.HalfPlanes.{IsUpToLine}
use Rattle.drawing_laws.proofs.Sparse.{ViewLine}
use Rattle.sheet_plan.specs.Boxes.{box_at}
use Rattle.sheet_plan.specs.Layout.{across_at, upward_at}
use Rattle.sheet_plan.specs.Numbers.{Measure, measure_of, nearest, shortening_of, sheet_length, square_of, sheet_across, sheet_upward}
use Rattle.sheet_plan.specs.Sheets.{IsShownAt}
use Rattle.sheet_plan.specs.declared.bounds.Extent.{Extent}
use Rattle.sheet_plan.specs.declared.sheet.Sheet.{Sheet}
use Rattle.sheet_plan.specs.declared.sheet.Spread.{Spread}
use Rattle.sheet_plan.proofs.Rounding.{power_bounds, divisor_bounds}
use Rattle.sheet_plan.proofs.Scales.{scale_bounds}
use Rattle.drawing_laws.specs.Standing.{IsInBox}

-- ---- rounded lengths
twice_twice : (g : ℤ) → pos 0 <ℤ g → pos 0 ≤ℤ (pos 2 *ℤ (pos 2 *ℤ g))
twice_twice g h = omega (arith, ints)

positive_once : (g : ℤ) → pos 0 <ℤ g → pos 0 <ℤ (g *ℤ pos 1)
positive_once g h = omega (arith, ints)

module _ (f u n w g : ℤ) (hf : pos 0 ≤ℤ f) (hw : pos 0 <ℤ w) (hg : pos 0 <ℤ g) where
  -- of n / w and u, times f / g
  nearest_least : (u *ℤ w) ≤ℤ n → nearest (f *ℤ u) (g *ℤ pos 1) ≤ℤ nearest (f *ℤ n) (g *ℤ w)
  nearest_least h =
      floor_of-ordered (pos 2 *ℤ (f *ℤ u) +ℤ (g *ℤ pos 1)) (pos 2 *ℤ (g *ℤ pos 1)) (pos 2 *ℤ (f *ℤ n) +ℤ (g *ℤ w)) (pos 2 *ℤ (g *ℤ w))
      (twice_positive _ (positive_once g hg)) (twice_positive _ (mul_pos g w hg hw))
      (at_most_by _ _ ((f *ℤ (n -ℤ (u *ℤ w))) *ℤ (pos 2 *ℤ (pos 2 *ℤ g))) (ring (f ∷ u ∷ n ∷ w ∷ g ∷ [])
      ((((con (pos 2) ⊗ (var 0 ⊗ var 2)) ⊕ (var 4 ⊗ var 3)) ⊗ (con (pos 2) ⊗ (var 4 ⊗ con (pos 1)))) ⊖ (((con (pos 2) ⊗ (var 0 ⊗ var 1)) ⊕ (var 4 ⊗ con (pos 1))) ⊗ (con (pos 2) ⊗ (var 4 ⊗ var 3))))
      ((var 0 ⊗ (var 2 ⊖ (var 1 ⊗ var 3))) ⊗ (con (pos 2) ⊗ (con (pos 2) ⊗ var 4))) refl)
      (mul_nonneg _ _ (mul_nonneg f _ hf (gap_of_at_most _ _ h)) (twice_twice g hg)))

  nearest_most : n ≤ℤ (u *ℤ w) → nearest (f *ℤ n) (g *ℤ w) ≤ℤ nearest (f *ℤ u) (g *ℤ pos 1)
  nearest_most h =
      floor_of-ordered (pos 2 *ℤ (f *ℤ n) +ℤ (g *ℤ w)) (pos 2 *ℤ (g *ℤ w)) (pos 2 *ℤ (f *ℤ u) +ℤ (g *ℤ pos 1)) (pos 2 *ℤ (g *ℤ pos 1))
      (twice_positive _ (mul_pos g w hg hw)) (twice_positive _ (positive_once g hg))
      (at_most_by _ _ ((f *ℤ ((u *ℤ w) -ℤ n)) *ℤ (pos 2 *ℤ (pos 2 *ℤ g))) (ring (f ∷ u ∷ n ∷ w ∷ g ∷ [])
      ((((con (pos 2) ⊗ (var 0 ⊗ var 1)) ⊕ (var 4 ⊗ con (pos 1))) ⊗ (con (pos 2) ⊗ (var 4 ⊗ var 3))) ⊖ (((con (pos 2) ⊗ (var 0 ⊗ var 2)) ⊕ (var 4 ⊗ var 3)) ⊗ (con (pos 2) ⊗ (var 4 ⊗ con (pos 1)))))
      ((var 0 ⊗ ((var 1 ⊗ var 3) ⊖ var 2)) ⊗ (con (pos 2) ⊗ (con (pos 2) ⊗ var 4))) refl)
      (mul_nonneg _ _ (mul_nonneg f _ hf (gap_of_at_most _ _ h)) (twice_twice g hg)))

module _ (m : Measure) (q : ℕ) (low : 1 ≤ m.den) (high : m.den ≤ 100) (few : m.decimals ≤ 6) (u n w : ℤ) (hw : pos 0 <ℤ w) where
  abbrev factor : ℤ
  factor = pos (100 * m.num * shortening_of q)

  abbrev divisor : ℤ
  divisor = pos (m.den * 10 ^ (9 + m.decimals))

  some_divisor : pos 0 <ℤ divisor
  some_divisor = some (m.den * 10 ^ (9 + m.decimals)) (divisor_bounds m.den (10 ^ (9 + m.decimals)) low high (power_bounds m.decimals few)).least
    where
      some : (k : ℕ) → 10 ^ 9 ≤ k → pos 0 <ℤ pos k
      some k h = omega (arith, ints)

  length_least : (u *ℤ w) ≤ℤ n → sheet_length m q u (pos 1) ≤ℤ sheet_length m q n w
  length_least h = nearest_least factor u n w divisor (natural_not_negative _) hw some_divisor h

  length_most : n ≤ℤ (u *ℤ w) → sheet_length m q n w ≤ℤ sheet_length m q u (pos 1)
  length_most h = nearest_most factor u n w divisor (natural_not_negative _) hw some_divisor h

-- ---- the extent, as four lines of the view
abbrev pub across_line : ℤ → ℤ → ViewLine
across_line s z = record { x = s; y = pos 0; z = z }

abbrev pub upward_line : ℤ → ℤ → ViewLine
upward_line s z = record { x = pos 0; y = s; z = z }

abbrev pub left_line : Extent → ViewLine
left_line e = across_line (negsuc 0) (pos 0 -ℤ e.u_min)

abbrev pub right_line : Extent → ViewLine
right_line e = across_line (pos 1) e.u_max

abbrev pub low_line : Extent → ViewLine
low_line e = upward_line (negsuc 0) (pos 0 -ℤ e.v_min)

abbrev pub high_line : Extent → ViewLine
high_line e = upward_line (pos 1) e.v_max

-- the point is on no far side of them
pub record IsInExtent (d : Triple) (e : Extent) (p : Point) : Type 0 where
  pub left : IsUpToLine d (left_line e) p
  pub right : IsUpToLine d (right_line e) p
  pub low : IsUpToLine d (low_line e) p
  pub high : IsUpToLine d (high_line e) p

-- what that says of U and V
from_left : (u a b w : ℤ) → ((negsuc 0 *ℤ a) +ℤ (pos 0 *ℤ b)) ≤ℤ ((pos 0 -ℤ u) *ℤ w) → (u *ℤ w) ≤ℤ a
from_left u a b w h =
    at_most_by _ _ (((pos 0 -ℤ u) *ℤ w) -ℤ ((negsuc 0 *ℤ a) +ℤ (pos 0 *ℤ b)))
    (ring (u ∷ a ∷ b ∷ w ∷ []) (var 1 ⊖ (var 0 ⊗ var 3)) (((con (pos 0) ⊖ var 0) ⊗ var 3) ⊖ ((con (negsuc 0) ⊗ var 1) ⊕ (con (pos 0) ⊗ var 2))) refl) (gap_of_at_most _ _ h)

from_right : (u a b w : ℤ) → ((pos 1 *ℤ a) +ℤ (pos 0 *ℤ b)) ≤ℤ (u *ℤ w) → a ≤ℤ (u *ℤ w)
from_right u a b w h =
    at_most_by _ _ ((u *ℤ w) -ℤ ((pos 1 *ℤ a) +ℤ (pos 0 *ℤ b)))
    (ring (u ∷ a ∷ b ∷ w ∷ []) ((var 0 ⊗ var 3) ⊖ var 1) ((var 0 ⊗ var 3) ⊖ ((con (pos 1) ⊗ var 1) ⊕ (con (pos 0) ⊗ var 2))) refl) (gap_of_at_most _ _ h)

from_low : (v a b w : ℤ) → ((pos 0 *ℤ a) +ℤ (negsuc 0 *ℤ b)) ≤ℤ ((pos 0 -ℤ v) *ℤ w) → (v *ℤ w) ≤ℤ b
from_low v a b w h =
    at_most_by _ _ (((pos 0 -ℤ v) *ℤ w) -ℤ ((pos 0 *ℤ a) +ℤ (negsuc 0 *ℤ b)))
    (ring (v ∷ a ∷ b ∷ w ∷ []) (var 2 ⊖ (var 0 ⊗ var 3)) (((con (pos 0) ⊖ var 0) ⊗ var 3) ⊖ ((con (pos 0) ⊗ var 1) ⊕ (con (negsuc 0) ⊗ var 2))) refl) (gap_of_at_most _ _ h)

from_high : (v a b w : ℤ) → ((pos 0 *ℤ a) +ℤ (pos 1 *ℤ b)) ≤ℤ (v *ℤ w) → b ≤ℤ (v *ℤ w)
from_high v a b w h =
    at_most_by _ _ ((v *ℤ w) -ℤ ((pos 0 *ℤ a) +ℤ (pos 1 *ℤ b)))
    (ring (v ∷ a ∷ b ∷ w ∷ []) ((var 0 ⊗ var 3) ⊖ var 2) ((var 0 ⊗ var 3) ⊖ ((con (pos 0) ⊗ var 1) ⊕ (con (pos 1) ⊗ var 2))) refl) (gap_of_at_most _ _ h)

-- ---- in the box
plus_least : (o x a b : ℤ) → x ≡ o +ℤ b → a ≤ℤ b → (o +ℤ a) ≤ℤ x
plus_least o x a b e h = omega (arith, ints)

plus_most : (o x a b : ℤ) → x ≡ o +ℤ b → b ≤ℤ a → x ≤ℤ (o +ℤ a)
plus_most o x a b e h = omega (arith, ints)

less_least : (o y a b : ℤ) → y ≡ o -ℤ b → b ≤ℤ a → (o -ℤ a) ≤ℤ y
less_least o y a b e h = omega (arith, ints)

less_most : (o y a b : ℤ) → y ≡ o -ℤ b → a ≤ℤ b → y ≤ℤ (o -ℤ a)
less_most o y a b e h = omega (arith, ints)

-- a point within the extent is shown in the box
pub shown_in_box : (sheet : Sheet) (place : Spread) (e : Extent) (p : Point) → IsPoint p → IsInExtent (of_dir place.d) e p → (x y : ℤ) → IsShownAt sheet place p x y
    → IsInBox (box_at (measure_of sheet.scale sheet.decimals) place e) x y
shown_in_box sheet place e p is_point within x y shown =
    let m = measure_of sheet.scale sheet.decimals in
    let d = of_dir place.d in
    let bounds = scale_bounds sheet.scale.num sheet.scale.den sheet.scale.listed in
    let u = across_of d p in
    let v = upward_of d p in
    let least = λ (q : ℕ) (z n : ℤ) (h : (z *ℤ p.w) ≤ℤ n). length_least m q bounds.den_least bounds.den_greatest sheet.few_decimals z n p.w is_point h in
    let most = λ (q : ℕ) (z n : ℤ) (h : n ≤ℤ (z *ℤ p.w)). length_most m q bounds.den_least bounds.den_greatest sheet.few_decimals z n p.w is_point h in
    record {
      left = plus_least place.x0 x (across_at m d e.u_min) (sheet_across m d p) shown.right (least (square_of (right_axis d)) e.u_min u (from_left e.u_min u v p.w within.left));
      right = plus_most place.x0 x (across_at m d e.u_max) (sheet_across m d p) shown.right (most (square_of (right_axis d)) e.u_max u (from_right e.u_max u v p.w within.right));
      top = less_least place.y0 y (upward_at m d e.v_max) (sheet_upward m d p) shown.down (most (square_of (up_axis d)) e.v_max v (from_high e.v_max u v p.w within.high));
      bottom = less_most place.y0 y (upward_at m d e.v_min) (sheet_upward m d p) shown.down (least (square_of (up_axis d)) e.v_min v (from_low e.v_min u v p.w within.low));
    }
