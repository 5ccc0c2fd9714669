-- The boxes of two views of a sheet are apart, and each is within the margins.
use Rattle.std.proofs.Common.{◌≡◌, ◌≢◌, ◌⊎◌, inl, inr, ℕ, ◌<◌, ◌≤◌, List, slice_get, get_or, Some, refl, sym, ap, ◌∙◌, subst, arith}
use Rattle.std.specs.Int.Signed.{≤ℤ_refl}
use Rattle.std.specs.Prelude.{ℤ, pos, ◌+ℤ◌, ◌-ℤ◌, ◌≤ℤ◌}
use Rattle.std.proofs.lemmas.Bool.{cases_lt}
use Rattle.std.proofs.lemmas.Int.{ints, clamps}
use Rattle.std.proofs.lemmas.Option.{slice_get_within, get_or_from_slice_get}
use Rattle.std.proofs.Math.Nat.{eq-or-lt_of_le}
use Rattle.job_file.specs.Views.{AreNamedApart}
use Rattle.job_file.specs.declared.job.Job.{Job}
use Rattle.job_file.specs.declared.view.JobView.{JobView}
use Rattle.sheet_plan.specs.Boxes.{Box, AreApart, ViewsAreApart, ViewsAreWithinMargins}
use Rattle.sheet_plan.specs.Layout.{gap, margin, part_of, lower_part_of, sum_below, row_stride, column_stride, lower_strides, without_gap, need_w, need_h, cell_x}
use Rattle.sheet_plan.specs.Plans.{job_shapes, IsSheetAt}
use Rattle.sheet_plan.specs.declared.bounds.Extent.{Extent}
use Rattle.sheet_plan.specs.declared.cells.Band.TheVariants.{Row, Column}
use Rattle.sheet_plan.specs.declared.cells.Cell.{Cell}
use Rattle.sheet_plan.specs.declared.cells.Cell.TheVariants.{Grid, Lower}
use Rattle.sheet_plan.specs.declared.cells.Shape.{Shape}
use Rattle.sheet_plan.specs.declared.sheet.Sheet.{Sheet}
use Rattle.sheet_plan.proofs.Bands.{NoneIsNegative, max_first, max_second, greatest_each, sum_below_not_negative, sum_behind, total_not_negative, total_behind, total_whole}
use Rattle.sheet_plan.proofs.BoxPlaces.{IsBoxInCell, box_in_cell, lower_parts}
use Rattle.sheet_plan.proofs.CellNames.{one_cell, row_of, cell_y-is, row_least, lower_than, few_columns, row_part, column_part, lower_part}
use Rattle.sheet_plan.proofs.Sums.{greatest_least}

-- ---- from a band to the next one
behind : (right left cx w x p f y : ℤ) → right ≡ cx +ℤ w → cx ≡ margin +ℤ x → left ≡ margin +ℤ y → p ≡ w +ℤ gap → p ≤ℤ f → (x +ℤ f) ≤ℤ y → (right +ℤ gap) ≤ℤ left
behind right left cx w x p f y a b c d e h = omega (arith, ints)

from_margin : (left cx x : ℤ) → left ≡ cx → cx ≡ margin +ℤ x → pos 0 ≤ℤ x → margin ≤ℤ left
from_margin left cx x a b h = omega (arith, ints)

end_above : (left right cx w : ℤ) → left ≡ cx → right ≡ cx +ℤ w → pos 0 ≤ℤ w → left ≤ℤ right
end_above left right cx w a b h = omega (arith, ints)

up_to : (right cx w x p f t need : ℤ) → right ≡ cx +ℤ w → cx ≡ margin +ℤ x → p ≡ w +ℤ gap → p ≤ℤ f → (x +ℤ f) ≤ℤ t → without_gap t ≤ℤ need → right ≤ℤ (margin +ℤ need)
up_to right cx w x p f t need a b d e h k = omega (arith, ints, clamps)

within_width : (right need width paper : ℤ) → right ≤ℤ (margin +ℤ need) → need ≤ℤ (paper -ℤ pos 4000) → width ≡ paper → right ≤ℤ (width -ℤ margin)
within_width right need width paper a b c = omega (arith, ints)

within_height : (bottom need height paper : ℤ) → bottom ≤ℤ (margin +ℤ need) → need ≤ℤ (paper -ℤ pos 6000) → height ≡ paper → bottom ≤ℤ (height -ℤ pos 4000)
within_height bottom need height paper a b c = omega (arith, ints)

-- ---- views of one sheet
module _ (job : Job) (shapes : List Shape) (lower_parts_least : NoneIsNegative lower_part_of shapes) where
  rows_least : (row : ℕ) → pos 0 ≤ℤ row_stride shapes row
  rows_least row = greatest_least (part_of (Row row)) shapes

  columns_least : (column : ℕ) → pos 0 ≤ℤ column_stride shapes column
  columns_least column = greatest_least (part_of (Column column)) shapes

  above : (i j : ℕ) (a b : Box) (v : IsBoxInCell job shapes i a) (w : IsBoxInCell job shapes j b) → row_of v.shape.cell < row_of w.shape.cell → (a.bottom +ℤ gap) ≤ℤ b.top
  above i j a b v w less =
      behind _ _ _ _ _ _ _ _ v.bottom (cell_y-is shapes v.shape.cell) (w.top ∙ cell_y-is shapes w.shape.cell) (row_part v.shape)
      (greatest_each (part_of (Row (row_of v.shape.cell))) shapes i v.shape v.at) (sum_behind (row_stride shapes) rows_least (row_of v.shape.cell) (row_of w.shape.cell) less)

  beside : (i j : ℕ) (a b : Box) (v : IsBoxInCell job shapes i a) (w : IsBoxInCell job shapes j b) (row column row' column' : ℕ) → v.shape.cell ≡ Grid row column → w.shape.cell ≡ Grid row' column'
      → column < column' → (a.right +ℤ gap) ≤ℤ b.left
  beside i j a b v w row column row' column' e f less =
      behind _ _ _ _ _ _ _ _ v.right (ap (cell_x shapes i) e) (w.left ∙ ap (cell_x shapes j) f) (column_part v.shape row column e)
      (greatest_each (part_of (Column column)) shapes i v.shape v.at) (sum_behind (column_stride shapes) columns_least column column' less)

  after : (i j : ℕ) (a b : Box) (v : IsBoxInCell job shapes i a) (w : IsBoxInCell job shapes j b) → v.shape.cell ≡ Lower → w.shape.cell ≡ Lower → i < j → (a.right +ℤ gap) ≤ℤ b.left
  after i j a b v w e f less =
      behind _ _ _ _ _ _ _ _ v.right (ap (cell_x shapes i) e) (w.left ∙ ap (cell_x shapes j) f) (lower_part v.shape e)
      (≤ℤ_refl (lower_part_of v.shape)) (total_behind lower_part_of shapes lower_parts_least i j v.shape less v.at)

  -- two different views are named apart
  names_differ : (i j : ℕ) (v w : JobView) → i ≢ j → slice_get job.views.items i ≡ Some v → slice_get job.views.items j ≡ Some w → AreNamedApart v.named w.named
  names_differ i j v w differ at_v at_w = by_order (cases_lt i j)
    where
      far : (i j : ℕ) (v w : JobView) → i < j → slice_get job.views.items i ≡ Some v → slice_get job.views.items j ≡ Some w → AreNamedApart v.named w.named
      far i j v w less at_v at_w =
          subst (λ (z : JobView). AreNamedApart v.named z.named) (get_or_from_slice_get job.views.items j w v at_w)
          (subst (λ (z : JobView). AreNamedApart z.named (get_or job.views.items j v).named) (get_or_from_slice_get job.views.items i v v at_v)
          (job.named_apart i j v less (slice_get_within job.views.items j w at_w)))

      by_order : ((i < j) ⊎ (j ≤ i)) → AreNamedApart v.named w.named
      by_order (inl less) = far i j v w less at_v at_w
      by_order (inr h) = λ p m n. far j i w v (omega arith) at_w at_v p n m

  -- by columns, and in one column by rows
  apart_in_grid : (i j : ℕ) (a b : Box) → i ≢ j → (v : IsBoxInCell job shapes i a) (w : IsBoxInCell job shapes j b) (row column row' column' : ℕ) → v.shape.cell ≡ Grid row column → w.shape.cell ≡ Grid row' column'
      → AreApart a b
  apart_in_grid i j a b differ v w row column row' column' e f = by_columns (cases_lt column column')
    where
      one : column' ≡ column → row' ≡ row → ⊥
      one same_column same_row =
          one_cell job.third v.view.named w.view.named row column (names_differ i j v.view w.view differ v.listed w.listed) (sym v.cell ∙ e) (sym w.cell ∙ f ∙ (λ k. Grid (same_row k) (same_column k)))

      not_above : column' ≡ column → ((row' ≡ row) ⊎ (row' < row)) → AreApart a b
      not_above same (inl same_row) = absurd (one same same_row)
      not_above same (inr less) = inr (inr (above j i b a w v (omega (arith, less, ap row_of e, ap row_of f))))

      by_rows : column' ≡ column → ((row < row') ⊎ (row' ≤ row)) → AreApart a b
      by_rows same (inl less) = inl (inr (above i j a b v w (omega (arith, less, ap row_of e, ap row_of f))))
      by_rows same (inr h) = not_above same (eq-or-lt_of_le h)

      not_left : ((column' ≡ column) ⊎ (column' < column)) → AreApart a b
      not_left (inl same) = by_rows same (cases_lt row row')
      not_left (inr less) = inr (inl (beside j i b a w v row' column' row column f e less))

      by_columns : ((column < column') ⊎ (column' ≤ column)) → AreApart a b
      by_columns (inl less) = inl (inl (beside i j a b v w row column row' column' e f less))
      by_columns (inr h) = not_left (eq-or-lt_of_le h)

  apart_below : (i j : ℕ) (a b : Box) → i ≢ j → (v : IsBoxInCell job shapes i a) (w : IsBoxInCell job shapes j b) → v.shape.cell ≡ Lower → w.shape.cell ≡ Lower → AreApart a b
  apart_below i j a b differ v w e f = by_order (cases_lt i j)
    where
      by_order : ((i < j) ⊎ (j ≤ i)) → AreApart a b
      by_order (inl less) = inl (inl (after i j a b v w e f less))
      by_order (inr h) = inr (inl (after j i b a w v f e (omega (arith, h, differ))))

  apart_in_cells : (i j : ℕ) (a b : Box) → i ≢ j → IsBoxInCell job shapes i a → IsBoxInCell job shapes j b → AreApart a b
  apart_in_cells i j a b differ v w = by_cells v.shape.cell w.shape.cell refl refl
    where
      by_cells : (c d : Cell) → v.shape.cell ≡ c → w.shape.cell ≡ d → AreApart a b
      by_cells (Grid row column) (Grid row' column') e f = apart_in_grid i j a b differ v w row column row' column' e f
      by_cells (Grid row column) Lower e f = inl (inr (above i j a b v w (lower_than v.shape w.shape row column e f v.inside)))
      by_cells Lower (Grid row column) e f = inr (inr (above j i b a w v (lower_than w.shape v.shape row column f e w.inside)))
      by_cells Lower Lower e f = apart_below i j a b differ v w e f

  within_width_of : (i : ℕ) (a : Box) → IsBoxInCell job shapes i a → (margin ≤ℤ a.left) × (a.right ≤ℤ (margin +ℤ need_w shapes))
  within_width_of i a v = by_cell v.shape.cell refl
    where
      by_cell : (c : Cell) → v.shape.cell ≡ c → (margin ≤ℤ a.left) × (a.right ≤ℤ (margin +ℤ need_w shapes))
      by_cell (Grid row column) e = (
        from_margin _ _ _ v.left (ap (cell_x shapes i) e) (sum_below_not_negative (column_stride shapes) columns_least column),
        up_to _ _ _ _ _ _ _ _ v.right (ap (cell_x shapes i) e) (column_part v.shape row column e) (greatest_each (part_of (Column column)) shapes i v.shape v.at)
            (sum_behind (column_stride shapes) columns_least column 4 (few_columns v.shape row column e v.inside)) (max_first (without_gap (sum_below (column_stride shapes) 4)) (without_gap (lower_strides shapes))),
      )
      by_cell Lower e = (
        from_margin _ _ _ v.left (ap (cell_x shapes i) e) (total_not_negative lower_part_of shapes i lower_parts_least),
        up_to _ _ _ _ _ _ _ _ v.right (ap (cell_x shapes i) e) (lower_part v.shape e) (≤ℤ_refl (lower_part_of v.shape))
            (total_whole lower_part_of shapes lower_parts_least i v.shape v.at) (max_second (without_gap (sum_below (column_stride shapes) 4)) (without_gap (lower_strides shapes)) _ (≤ℤ_refl (without_gap (lower_strides shapes)))),
      )

  within_height_of : (i : ℕ) (a : Box) → IsBoxInCell job shapes i a → (margin ≤ℤ a.top) × (a.bottom ≤ℤ (margin +ℤ need_h shapes))
  within_height_of i a v = (
    from_margin _ _ _ v.top (cell_y-is shapes v.shape.cell) (sum_below_not_negative (row_stride shapes) rows_least (row_of v.shape.cell)),
    up_to _ _ _ _ _ _ _ _ v.bottom (cell_y-is shapes v.shape.cell) (row_part v.shape) (greatest_each (part_of (Row (row_of v.shape.cell))) shapes i v.shape v.at)
        (sum_behind (row_stride shapes) rows_least (row_of v.shape.cell) 4 (omega (arith, row_least v.shape.cell v.inside))) (≤ℤ_refl (need_h shapes)),
  )

module _ (job : Job) (extents : List Extent) (num den : ℕ) (sheet : Sheet) (h : IsSheetAt job extents num den sheet) where
  pub apart : ViewsAreApart extents sheet
  apart i j a b differ v w =
      apart_in_cells job (job_shapes job extents num den) (lower_parts job extents num den sheet h) i j a b differ (box_in_cell job extents num den sheet h i a v) (box_in_cell job extents num den sheet h j b w)

  pub within_margins : ViewsAreWithinMargins extents sheet
  within_margins i a b =
      let v = box_in_cell job extents num den sheet h i a b in
      let x = within_width_of job (job_shapes job extents num den) (lower_parts job extents num den sheet h) i a v in
      let y = within_height_of job (job_shapes job extents num den) (lower_parts job extents num den sheet h) i a v in
      record {
        left = x.0;
        across = end_above _ _ _ _ v.left v.right v.width_least;
        right = within_width _ _ _ _ x.1 h.fits.across h.width;
        top = y.0;
        down = end_above _ _ _ _ v.top v.bottom v.height_least;
        bottom = within_height _ _ _ _ y.1 h.fits.down h.height;
      }
