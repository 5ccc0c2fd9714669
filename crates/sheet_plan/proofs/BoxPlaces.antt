-- The box of a view stands in the view's cell, and is as large as the view's shape.
use Rattle.std.proofs.Common.{◌≡◌, ℕ, zero, suc, ◌≤◌, Bool, List, [], ◌∷◌, slice_get, Some, refl, sym, ap, ◌∙◌, subst, arith}
use Rattle.std.specs.Prelude.{ℤ, pos, ◌+ℤ◌, ◌-ℤ◌, ◌≤ℤ◌}
use Rattle.std.proofs.lemmas.Int.{ints}
use Rattle.std.proofs.lemmas.Option.{slice_get_within}
use Rattle.integers.proofs.Comparisons.{gap_of_at_most}
use Rattle.integers.proofs.Lists.{some_element}
use Rattle.lattice.specs.Points.{of_dir}
use Rattle.lattice.specs.Triple.{right_axis, up_axis}
use Rattle.job_file.specs.declared.job.Job.{Job}
use Rattle.job_file.specs.declared.view.JobView.{JobView}
use Rattle.sheet_plan.specs.declared.bounds.Extent.{Extent}
use Rattle.sheet_plan.specs.declared.cells.Shape.{Shape}
use Rattle.sheet_plan.specs.declared.sheet.Sheet.{Sheet}
use Rattle.sheet_plan.specs.declared.sheet.Spread.{Spread}
use Rattle.sheet_plan.specs.Boxes.{Box, box_at, IsBoxOf}
use Rattle.sheet_plan.specs.Layout.{cell_of, across_at, upward_at, shape_of, shapes_of, lower_part_of, cell_x, cell_y, StandsInCell}
use Rattle.sheet_plan.specs.Numbers.{Measure, measure_of, square_of, sheet_length}
use Rattle.sheet_plan.specs.Plans.{job_shapes, IsSheetAt}
use Rattle.sheet_plan.specs.Sheets.{IsPlaceOf}
use Rattle.sheet_plan.specs.inner.Sizes.{IsInGrid}
use Rattle.sheet_plan.proofs.Bands.{NoneIsNegative}
use Rattle.sheet_plan.proofs.CellNames.{in_grid, lower_part_least}
use Rattle.sheet_plan.proofs.Ordered.{length_ordered}
use Rattle.sheet_plan.proofs.Scales.{IsBounded, scale_bounds}

-- ---- the shape with this number is that of a view, which reaches so far
pub record IsShapeOf (third : Bool) (m : Measure) (vs : List JobView) (es : List Extent) (i : ℕ) (s : Shape) : Type 0 where
  pub view : JobView
  pub extent : Extent
  pub listed : slice_get vs i ≡ Some view
  pub reaches : slice_get es i ≡ Some extent
  pub is : s ≡ shape_of third m view extent

shape_from : (third : Bool) (m : Measure) (vs : List JobView) (es : List Extent) (i : ℕ) (s : Shape) → slice_get (shapes_of third m vs es) i ≡ Some s → IsShapeOf third m vs es i s
shape_from third m [] es i s at = absurd (cc)
shape_from third m (v ∷ vs) [] i s at = absurd (cc)
shape_from third m (v ∷ vs) (e ∷ es) zero s at = record { view = v; extent = e; listed = refl; reaches = refl; is = cc }
shape_from third m (v ∷ vs) (e ∷ es) (suc i) s at =
    let r = shape_from third m vs es i s at in
    record { view = r.view; extent = r.extent; listed = r.listed; reaches = r.reaches; is = r.is }

-- ---- from the place of the view's origin to the ends of its box
at_left : (a x0 u v c l : ℤ) → a ≡ x0 +ℤ u → u ≡ v → x0 ≡ c -ℤ l → l ≡ v → a ≡ c
at_left a x0 u v c l e f g h = omega (arith, ints)

at_right : (a x0 r s c l v w : ℤ) → a ≡ x0 +ℤ r → r ≡ s → x0 ≡ c -ℤ l → l ≡ v → w ≡ s -ℤ v → a ≡ c +ℤ w
at_right a x0 r s c l v w e f g h k = omega (arith, ints)

at_top : (a y0 t v c l : ℤ) → a ≡ y0 -ℤ t → t ≡ v → y0 ≡ c +ℤ l → l ≡ v → a ≡ c
at_top a y0 t v c l e f g h = omega (arith, ints)

at_bottom : (a y0 b s c l v w : ℤ) → a ≡ y0 -ℤ b → b ≡ s → y0 ≡ c +ℤ l → l ≡ v → w ≡ v -ℤ s → a ≡ c +ℤ w
at_bottom a y0 b s c l v w e f g h k = omega (arith, ints)

-- the view with this number, its shape and its place
pub record IsViewAt (job : Job) (extents : List Extent) (shapes : List Shape) (m : Measure) (i : ℕ) (place : Spread) : Type 0 where
  pub shape : Shape
  pub at : slice_get shapes i ≡ Some shape
  pub shape_is : IsShapeOf job.third m job.views.items extents i shape
  pub in_cell : StandsInCell shapes i shape place
  pub direction : of_dir place.d ≡ of_dir shape_is.extent.d

-- its box stands in its cell
pub record IsBoxInCell (job : Job) (shapes : List Shape) (i : ℕ) (a : Box) : Type 0 where
  pub shape : Shape
  pub view : JobView
  pub at : slice_get shapes i ≡ Some shape
  pub listed : slice_get job.views.items i ≡ Some view
  pub cell : shape.cell ≡ cell_of job.third view.named
  pub inside : IsInGrid shape.cell
  pub left : a.left ≡ cell_x shapes i shape.cell
  pub right : a.right ≡ cell_x shapes i shape.cell +ℤ shape.width
  pub top : a.top ≡ cell_y shapes shape.cell
  pub bottom : a.bottom ≡ cell_y shapes shape.cell +ℤ shape.height
  pub width_least : pos 0 ≤ℤ shape.width
  pub height_least : pos 0 ≤ℤ shape.height

-- what turns a job's units into lengths on the sheet, at the scale num : den
abbrev pub measure_at : Job → ℕ → ℕ → Measure
measure_at job num den = record { num = num; den = den; decimals = job.decimals }

module _ (job : Job) (extents : List Extent) (num den : ℕ) (sheet : Sheet) (h : IsSheetAt job extents num den sheet) where
  measure_is : measure_of sheet.scale sheet.decimals ≡ measure_at job num den
  measure_is = λ k. record { num = h.num_is k; den = h.den_is k; decimals = h.decimals k }

  bounds : IsBounded sheet.scale.num sheet.scale.den
  bounds = scale_bounds sheet.scale.num sheet.scale.den sheet.scale.listed

  -- what a shape reaches isn't negative
  reach : (q : ℕ) (u v : ℤ) → u ≤ℤ v → pos 0 ≤ℤ (sheet_length (measure_at job num den) q v (pos 1) -ℤ sheet_length (measure_at job num den) q u (pos 1))
  reach q u v ordered =
      gap_of_at_most _ _ (length_ordered (measure_at job num den) q u v
      (subst (λ (n : ℕ). 1 ≤ n) h.den_is bounds.den_least) (subst (λ (n : ℕ). n ≤ 100) h.den_is bounds.den_greatest) job.few_decimals ordered)

  width_least : (third : Bool) (v : JobView) (e : Extent) → pos 0 ≤ℤ (shape_of third (measure_at job num den) v e).width
  width_least third v e = reach (square_of (right_axis (of_dir e.d))) e.u_min e.u_max e.across

  height_least : (third : Bool) (v : JobView) (e : Extent) → pos 0 ≤ℤ (shape_of third (measure_at job num den) v e).height
  height_least third v e = reach (square_of (up_axis (of_dir e.d))) e.v_min e.v_max e.upward

  pub lower_parts : NoneIsNegative lower_part_of (job_shapes job extents num den)
  lower_parts i s at =
      let r = shape_from job.third (measure_at job num den) job.views.items extents i s at in
      lower_part_least s (subst (λ (z : Shape). pos 0 ≤ℤ z.width) (sym r.is) (width_least job.third r.view r.extent))

  pub view_at : (i : ℕ) (place : Spread) → IsPlaceOf sheet i place → IsViewAt job extents (job_shapes job extents num den) (measure_at job num den) i place
  view_at i place stands =
      let found = some_element (job_shapes job extents num den) i (omega (arith, slice_get_within sheet.places.items i place stands, h.in_place.count)) in
      let s = shape_from job.third (measure_at job num den) job.views.items extents i found.0 found.1 in
      record {
        shape = found.0;
        at = found.1;
        shape_is = s;
        in_cell = h.in_place.each i found.0 place found.1 stands;
        direction = h.in_place.direction i s.extent place s.reaches stands;
      }

  pub box_in_cell : (i : ℕ) (a : Box) → IsBoxOf sheet extents i a → IsBoxInCell job (job_shapes job extents num den) i a
  box_in_cell i a b =
      let v = view_at i b.place b.stands in
      let s = v.shape_is in
      let e = s.extent in
      let same : b.extent ≡ e = cc in
      let d : of_dir b.place.d ≡ of_dir e.d = v.direction in
      let is : a ≡ box_at (measure_of sheet.scale sheet.decimals) b.place e = b.is ∙ ap (box_at (measure_of sheet.scale sheet.decimals) b.place) same in
      record {
        shape = v.shape;
        view = s.view;
        at = v.at;
        listed = s.listed;
        cell = ap (λ (z : Shape). z.cell) s.is;
        inside = subst (λ (z : Shape). IsInGrid z.cell) (sym s.is) (in_grid job.third s.view.named);
        left = at_left _ _ _ _ _ _ (ap (λ (z : Box). z.left) is) (λ k. across_at (measure_is k) (d k) e.u_min) v.in_cell.x (ap (λ (z : Shape). z.left) s.is);
        right = at_right _ _ _ _ _ _ _ _ (ap (λ (z : Box). z.right) is) (λ k. across_at (measure_is k) (d k) e.u_max) v.in_cell.x (ap (λ (z : Shape). z.left) s.is) (ap (λ (z : Shape). z.width) s.is);
        top = at_top _ _ _ _ _ _ (ap (λ (z : Box). z.top) is) (λ k. upward_at (measure_is k) (d k) e.v_max) v.in_cell.y (ap (λ (z : Shape). z.top) s.is);
        bottom = at_bottom _ _ _ _ _ _ _ _ (ap (λ (z : Box). z.bottom) is) (λ k. upward_at (measure_is k) (d k) e.v_min) v.in_cell.y (ap (λ (z : Shape). z.top) s.is) (ap (λ (z : Shape). z.height) s.is);
        width_least = subst (λ (z : Shape). pos 0 ≤ℤ z.width) (sym s.is) (width_least job.third s.view e);
        height_least = subst (λ (z : Shape). pos 0 ≤ℤ z.height) (sym s.is) (height_least job.third s.view e);
      }
