-- How large the numbers of a layout are.
use Rattle.std.specs.Prelude.{◌≡◌, ◌≤◌, ◌^◌, Bool, ℤ, pos, ◌≤ℤ◌, unsigned_abs, List}
use Rattle.std.specs.List.{All}
use Rattle.job_file.specs.declared.view.JobView.{JobView}
use Rattle.sheet_plan.specs.declared.bounds.Extent.{Extent}
use Rattle.sheet_plan.specs.declared.cells.Cell.{Cell}
use Rattle.sheet_plan.specs.declared.cells.Cell.TheVariants.{Grid, Lower}
use Rattle.sheet_plan.specs.declared.cells.Shape.{Shape}
use Rattle.sheet_plan.specs.declared.layout.Starts.{Starts}
use Rattle.sheet_plan.specs.Layout.{shapes_of}
use Rattle.sheet_plan.specs.Numbers.{Measure}

-- there are three rows and four columns
abbrev pub IsInGrid : Cell → Type 0
IsInGrid (Grid row column) = (row ≤ 2) × (column ≤ 3)
IsInGrid Lower = Unit {0}

-- a view's box, as a job's scale and units make it
pub record IsSmall (s : Shape) : Type 0 where
  pub cell : IsInGrid s.cell
  pub left : unsigned_abs s.left ≤ 2 ^ 45
  pub top : unsigned_abs s.top ≤ 2 ^ 45
  pub width_least : pos 0 ≤ℤ s.width
  pub width_greatest : s.width ≤ℤ pos (2 ^ 46)
  pub height_least : pos 0 ≤ℤ s.height
  pub height_greatest : s.height ≤ℤ pos (2 ^ 46)

-- the shapes of the views
pub record AreShapes (third : Bool) (m : Measure) (views : List JobView) (extents : List Extent) (shapes : List Shape) : Type 0 where
  pub value : shapes ≡ shapes_of third m views extents
  pub small : All IsSmall shapes

-- what one row or column takes
pub record IsStride (n : ℤ) : Type 0 where
  pub least : pos 0 ≤ℤ n
  pub greatest : n ≤ℤ pos (2 ^ 47)

-- what several of them take
pub record IsLength (n : ℤ) : Type 0 where
  pub least : pos 0 ≤ℤ n
  pub greatest : n ≤ℤ pos (2 ^ 52)

pub record AreLengths (starts : Starts) : Type 0 where
  pub second : IsLength starts.second
  pub third : IsLength starts.third
  pub fourth : IsLength starts.fourth
