-- The layout of a sheet: named views stand in a grid, all others in one row beneath it.
use Rattle.std.specs.Prelude.{◌≡◌, ℕ, zero, suc, ◌==◌, Bool, true, false, if◌then◌else◌, ℤ, pos, ◌+ℤ◌, ◌-ℤ◌, ◌≤ℤ◌, List, [], ◌∷◌, length, take, Option, None, Some, slice_get}
use Rattle.std.specs.Int.{int_max}
use Rattle.lattice.specs.Points.{of_dir}
use Rattle.lattice.specs.Triple.{Triple, right_axis, up_axis}
use Rattle.job_file.specs.declared.view.JobView.{JobView}
use Rattle.job_file.specs.declared.view.Principal.{Principal}
use Rattle.job_file.specs.declared.view.Principal.TheVariants.{Front, Back, Left, Right, Above, Below}
use Rattle.sheet_plan.specs.declared.bounds.Extent.{Extent}
use Rattle.sheet_plan.specs.declared.cells.Band.{Band}
use Rattle.sheet_plan.specs.declared.cells.Band.TheVariants.{Row, Column}
use Rattle.sheet_plan.specs.declared.cells.Cell.{Cell}
use Rattle.sheet_plan.specs.declared.cells.Cell.TheVariants.{Grid, Lower}
use Rattle.sheet_plan.specs.declared.cells.Shape.{Shape}
use Rattle.sheet_plan.specs.declared.sheet.Spread.{Spread}
use Rattle.sheet_plan.specs.Numbers.{Measure, square_of, sheet_length}

-- what is between neighbours
abbrev pub gap : ℤ
gap = pos 1500

-- where the grid begins, from the left and from above
abbrev pub margin : ℤ
margin = pos 2000

-- row and column of a named view, in third-angle or in first-angle projection
abbrev pub grid_cell : Bool → Principal → Cell
grid_cell third Front = Grid 1 1
grid_cell third Back = Grid 1 3
grid_cell false Above = Grid 2 1
grid_cell true Above = Grid 0 1
grid_cell false Below = Grid 0 1
grid_cell true Below = Grid 2 1
grid_cell false Left = Grid 1 2
grid_cell true Left = Grid 1 0
grid_cell false Right = Grid 1 0
grid_cell true Right = Grid 1 2

abbrev pub cell_of : Bool → Option Principal → Cell
cell_of third None = Lower
cell_of third (Some name) = grid_cell third name

-- U and V of a corner, on the sheet
abbrev pub across_at : Measure → Triple → ℤ → ℤ
across_at m d u = sheet_length m (square_of (right_axis d)) u (pos 1)

abbrev pub upward_at : Measure → Triple → ℤ → ℤ
upward_at m d v = sheet_length m (square_of (up_axis d)) v (pos 1)

-- a view's cell, and its box on the sheet: how far it reaches to the left and to the top from the view's origin, and its size
abbrev pub shape_of : Bool → Measure → JobView → Extent → Shape
shape_of third m v e =
    let d = of_dir e.d in
    record {
      cell = cell_of third v.named;
      left = across_at m d e.u_min;
      top = upward_at m d e.v_max;
      width = across_at m d e.u_max -ℤ across_at m d e.u_min;
      height = upward_at m d e.v_max -ℤ upward_at m d e.v_min;
    }

abbrev pub shapes_of : Bool → Measure → List JobView → List Extent → List Shape
shapes_of third m [] es = []
shapes_of third m (v ∷ vs) [] = []
shapes_of third m (v ∷ vs) (e ∷ es) = shape_of third m v e ∷ shapes_of third m vs es

-- the row beneath the grid is a fourth row
abbrev pub is_in_row : ℕ → Cell → Bool
is_in_row row (Grid r c) = r == row
is_in_row row Lower = 3 == row

abbrev pub is_in_column : ℕ → Cell → Bool
is_in_column column (Grid r c) = c == column
is_in_column column Lower = false

abbrev pub is_lower : Cell → Bool
is_lower (Grid r c) = false
is_lower Lower = true

-- what a view takes of a row or of a column, with the gap to the next one: nothing where it doesn't stand there
abbrev pub part_of : Band → Shape → ℤ
part_of (Row row) s = if is_in_row row s.cell then s.height +ℤ gap else pos 0
part_of (Column column) s = if is_in_column column s.cell then s.width +ℤ gap else pos 0

abbrev pub lower_part_of : Shape → ℤ
lower_part_of s = if is_lower s.cell then s.width +ℤ gap else pos 0

-- the greatest value and the sum of the values over the views; 0 where there are none
abbrev pub greatest : (Shape → ℤ) → List Shape → ℤ
greatest f [] = pos 0
greatest f (s ∷ ss) = int_max (f s) (greatest f ss)

abbrev pub total : (Shape → ℤ) → List Shape → ℤ
total f [] = pos 0
total f (s ∷ ss) = f s +ℤ total f ss

-- what a row or a column takes: its greatest view and the gap to the next one, or nothing where it holds no view
abbrev pub stride : List Shape → Band → ℤ
stride shapes band = greatest (part_of band) shapes

abbrev pub row_stride : List Shape → ℕ → ℤ
row_stride shapes row = stride shapes (Row row)

abbrev pub column_stride : List Shape → ℕ → ℤ
column_stride shapes column = stride shapes (Column column)

-- what the views of the lower row take, with a gap after each
abbrev pub lower_strides : List Shape → ℤ
lower_strides shapes = total lower_part_of shapes

-- the sum of the first n values
abbrev pub sum_below : (ℕ → ℤ) → ℕ → ℤ
sum_below f zero = pos 0
sum_below f (suc n) = sum_below f n +ℤ f n

-- strides without the last gap, if there are any
abbrev pub without_gap : ℤ → ℤ
without_gap n = int_max (pos 0) (n -ℤ gap)

-- how wide and how high the views are together
abbrev pub need_w : List Shape → ℤ
need_w shapes = int_max (without_gap (sum_below (column_stride shapes) 4)) (without_gap (lower_strides shapes))

abbrev pub need_h : List Shape → ℤ
need_h shapes = without_gap (sum_below (row_stride shapes) 4)

-- from where on the i-th view's box stands, whose cell is this one, from the left and from above
abbrev pub cell_x : List Shape → ℕ → Cell → ℤ
cell_x shapes i (Grid row column) = margin +ℤ sum_below (column_stride shapes) column
cell_x shapes i Lower = margin +ℤ lower_strides (take i shapes)

abbrev pub cell_y : List Shape → Cell → ℤ
cell_y shapes (Grid row column) = margin +ℤ sum_below (row_stride shapes) row
cell_y shapes Lower = margin +ℤ sum_below (row_stride shapes) 3

-- the i-th view, which has this shape, stands in its cell
pub record StandsInCell (shapes : List Shape) (i : ℕ) (s : Shape) (place : Spread) : Type 0 where
  pub x : place.x0 ≡ cell_x shapes i s.cell -ℤ s.left
  pub y : place.y0 ≡ cell_y shapes s.cell +ℤ s.top

-- each view stands in its cell, at this scale
pub record AreInPlace (shapes : List Shape) (extents : List Extent) (places : List Spread) : Type 0 where
  pub count : length places ≡ length shapes
  pub direction : (i : ℕ) (e : Extent) (place : Spread) → slice_get extents i ≡ Some e → slice_get places i ≡ Some place → of_dir place.d ≡ of_dir e.d
  pub each : (i : ℕ) (s : Shape) (place : Spread) → slice_get shapes i ≡ Some s → slice_get places i ≡ Some place → StandsInCell shapes i s place

-- what is left of a sheet beside its margins and its title
abbrev pub have_w : ℤ → ℤ
have_w width = width -ℤ pos 4000

abbrev pub have_h : ℤ → ℤ
have_h height = height -ℤ pos 6000

-- so much is there of what is needed
pub record HaveRoom (need_width need_height width height : ℤ) : Type 0 where
  pub across : need_width ≤ℤ have_w width
  pub down : need_height ≤ℤ have_h height

-- the views fit the sheet
abbrev pub Fit : List Shape → ℤ → ℤ → Type 0
Fit shapes width height = HaveRoom (need_w shapes) (need_h shapes) width height
