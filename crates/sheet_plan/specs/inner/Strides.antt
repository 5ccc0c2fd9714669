-- What rows and columns take, by one name for both, and where they begin.
use Rattle.std.specs.Prelude.{◌≡◌, ℕ, ℤ, List}
use Rattle.sheet_plan.specs.declared.cells.Band.{Band}
use Rattle.sheet_plan.specs.declared.cells.Band.TheVariants.{Row, Column}
use Rattle.sheet_plan.specs.declared.cells.Bands.{Bands}
use Rattle.sheet_plan.specs.declared.cells.Bands.TheVariants.{Rows, Columns}
use Rattle.sheet_plan.specs.declared.cells.Shape.{Shape}
use Rattle.sheet_plan.specs.declared.layout.Starts.{Starts}
use Rattle.sheet_plan.specs.Layout.{row_stride, column_stride, sum_below}

abbrev pub band_at : Bands → ℕ → Band
band_at Rows number = Row number
band_at Columns number = Column number

abbrev pub stride_in : Bands → List Shape → ℕ → ℤ
stride_in Rows shapes = row_stride shapes
stride_in Columns shapes = column_stride shapes

-- rows or columns that take so much begin there
pub record AreStarts (stride : ℕ → ℤ) (starts : Starts) : Type 0 where
  pub second : starts.second ≡ sum_below stride 1
  pub third : starts.third ≡ sum_below stride 2
  pub fourth : starts.fourth ≡ sum_below stride 3
