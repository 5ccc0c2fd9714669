-- The left side of a view's box isn't to the right of the right one, nor its top below its bottom.
use Rattle.std.proofs.Common.{◌≡◌, List, ap, arith, ℕ}
use Rattle.std.specs.Prelude.{ℤ, pos, ◌+ℤ◌, ◌-ℤ◌, ◌≤ℤ◌}
use Rattle.std.proofs.lemmas.Int.{ints}
use Rattle.lattice.specs.declared.points.Corner.{Corner}
use Rattle.lattice.specs.Points.{of_dir}
use Rattle.lattice.specs.Triple.{Triple, right_axis, up_axis}
use Rattle.sheet_plan.specs.Boxes.{Box, TakesBox, box_of}
use Rattle.sheet_plan.specs.Layout.{across_at, upward_at}
use Rattle.sheet_plan.specs.Numbers.{Measure, measure_of, square_of, sheet_length}
use Rattle.sheet_plan.specs.declared.boxes.ViewBox.{ViewBox}
use Rattle.sheet_plan.specs.declared.sheet.Sheet.{Sheet}
use Rattle.sheet_plan.proofs.Ordered.{length_ordered}
use Rattle.sheet_plan.proofs.Scales.{scale_bounds}

farther : (x a b : ℤ) → a ≤ℤ b → (x +ℤ a) ≤ℤ (x +ℤ b)
farther x a b h = omega (arith, ints)

higher : (y a b : ℤ) → a ≤ℤ b → (y -ℤ b) ≤ℤ (y -ℤ a)
higher y a b h = omega (arith, ints)

at_most : {a b c d : ℤ} → a ≡ c → b ≡ d → c ≤ℤ d → a ≤ℤ b
at_most e f h = omega (arith, ints, e, f, h)

module _ (sheet : Sheet) (corners : List Corner) (view : ℕ) (b : ViewBox) (h : TakesBox sheet corners view (box_of b)) where
  abbrev d : Triple
  d = of_dir h.place.d

  abbrev m : Measure
  m = measure_of sheet.scale sheet.decimals

  -- what is farther along an axis of the view is shown farther along
  grows : (q : ℕ) (u v : ℤ) → u ≤ℤ v → sheet_length m q u (pos 1) ≤ℤ sheet_length m q v (pos 1)
  grows q u v less =
      let s = scale_bounds sheet.scale.num sheet.scale.den sheet.scale.listed in
      length_ordered m q u v s.den_least s.den_greatest sheet.few_decimals less

  left_is : b.left ≡ h.place.x0 +ℤ across_at m d h.extent.u_min
  left_is = ap (λ (z : Box). z.left) h.is

  right_is : b.right ≡ h.place.x0 +ℤ across_at m d h.extent.u_max
  right_is = ap (λ (z : Box). z.right) h.is

  top_is : b.top ≡ h.place.y0 -ℤ upward_at m d h.extent.v_max
  top_is = ap (λ (z : Box). z.top) h.is

  bottom_is : b.bottom ≡ h.place.y0 -ℤ upward_at m d h.extent.v_min
  bottom_is = ap (λ (z : Box). z.bottom) h.is

  pub box_across : b.left ≤ℤ b.right
  box_across = at_most left_is right_is (farther h.place.x0 _ _ (grows (square_of (right_axis d)) h.extent.u_min h.extent.u_max h.extent.across))

  pub box_down : b.top ≤ℤ b.bottom
  box_down = at_most top_is bottom_is (higher h.place.y0 _ _ (grows (square_of (up_axis d)) h.extent.v_min h.extent.v_max h.extent.upward))
