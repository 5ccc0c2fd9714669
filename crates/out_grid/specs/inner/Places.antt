-- Corners and edges of a view in whole numbers, from the least U and V on.
use Rattle.std.specs.Prelude.{◌≡◌, ◌⊎◌, ℕ, pos, ◌-ℤ◌, ◌/◌, ◌<◌, ◌+◌, ◌*◌}
use Rattle.lattice.specs.declared.points.Corner.{Corner}
use Rattle.lattice.specs.Triple.{Triple}
use Rattle.lattice.specs.Points.{point_of, across_of, upward_of}
use Rattle.out_grid.specs.declared.raster.Raster as given
use Rattle.out_grid.specs.declared.course.Course as walked
use Rattle.out_grid.specs.Cells.{Raster}
use Rattle.out_grid.specs.inner.Courses.{Course, last_column}

abbrev pub raster_of : given.Raster → Raster
raster_of r = record { left = r.left; bottom = r.bottom; width = r.width; height = r.height }

abbrev pub course_of : walked.Course → Course
course_of c = record { from_u = c.from_u; from_v = c.from_v; to_u = c.to_u; to_v = c.to_v; width = c.width; height = c.height }

-- so far to the right and upward, counted from the raster's least U and V
pub record IsAt (d : Triple) (r : Raster) (c : Corner) (u v : ℕ) : Type 0 where
  pub across : pos u ≡ across_of d (point_of c) -ℤ r.left
  pub upward : pos v ≡ upward_of d (point_of c) -ℤ r.bottom

-- the number of the cell that the corner is in
pub record IsCellOf (d : Triple) (r : Raster) (columns : ℕ) (c : Corner) (cell : ℕ) : Type 0 where
  pub u : ℕ
  pub v : ℕ
  pub at : IsAt d r c u v
  pub in_column : (u / r.width) < columns
  pub in_row : (v / r.height) < columns
  pub cell_is : cell ≡ ((u / r.width) * columns) + (v / r.height)

-- the course goes between the two corners, from the one of lesser U
pub record IsCourseOf (d : Triple) (r : Raster) (a b : Corner) (c : Course) : Type 0 where
  pub width : c.width ≡ r.width
  pub height : c.height ≡ r.height
  pub ends : (IsAt d r a c.from_u c.from_v × IsAt d r b c.to_u c.to_v) ⊎ (IsAt d r b c.from_u c.from_v × IsAt d r a c.to_u c.to_v)

-- it goes from the one place to the other, or back
abbrev pub AreEnds : ℕ → ℕ → ℕ → ℕ → Course → Type 0
AreEnds u v u' v' c =
    ((c.from_u ≡ u) × (c.from_v ≡ v) × (c.to_u ≡ u') × (c.to_v ≡ v')) ⊎ ((c.from_u ≡ u') × (c.from_v ≡ v') × (c.to_u ≡ u) × (c.to_v ≡ v))

-- all its cells are in so many columns and rows
pub record IsInside (columns : ℕ) (c : Course) : Type 0 where
  pub last : last_column c < columns
  pub from : c.from_v / c.height < columns
  pub to : c.to_v / c.height < columns
