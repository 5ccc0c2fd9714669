-- The cells of a view, and which of them a point of the part is in.
use Rattle.std.specs.Prelude.{◌≡◌, ℕ, ◌+◌, ◌*◌, ◌/◌, ℤ, pos, ◌+ℤ◌, ◌-ℤ◌, ◌*ℤ◌, ◌<ℤ◌, ◌≤ℤ◌, List, unsigned_abs}
use Rattle.lattice.specs.declared.points.Corner.{Corner}
use Rattle.lattice.specs.Triple.{Triple}
use Rattle.lattice.specs.Points.{Point, across_of, upward_of}
use Rattle.geometry.specs.Faces.{IsPointOfEdge}
use Rattle.geometry.specs.Parts.{Part, Edge}
use Rattle.sheet_plan.specs.declared.bounds.Extent.{Extent}
use Rattle.sheet_plan.specs.Extents.{IsExtent}

-- where U and V begin, and how wide and how high a cell is
pub record Raster : Type 0 where
  pub left : ℤ
  pub bottom : ℤ
  pub width : ℕ
  pub height : ℕ

-- so many columns, and rows as many, over the range of the corners as they are seen from d
pub record IsRaster (d : Triple) (corners : List Corner) (columns : ℕ) (r : Raster) : Type 0 where
  pub extent : Extent
  pub reaches : IsExtent d corners extent
  pub left : r.left ≡ extent.u_min
  pub bottom : r.bottom ≡ extent.v_min
  pub width : r.width ≡ (unsigned_abs (extent.u_max -ℤ extent.u_min) / columns) + 1
  pub height : r.height ≡ (unsigned_abs (extent.v_max -ℤ extent.v_min) / columns) + 1

-- x / w is in step k of those that begin at least and are so long: a step has its lower end and not its upper one
pub record IsInStep (least : ℤ) (size k : ℕ) (x w : ℤ) : Type 0 where
  pub from : ((least +ℤ pos (k * size)) *ℤ w) ≤ℤ x
  pub below : x <ℤ ((least +ℤ pos ((k + 1) * size)) *ℤ w)

abbrev pub IsInColumn : Triple → Raster → ℕ → Point → Type 0
IsInColumn d r column p = IsInStep r.left r.width column (across_of d p) p.w

abbrev pub IsInRow : Triple → Raster → ℕ → Point → Type 0
IsInRow d r row p = IsInStep r.bottom r.height row (upward_of d p) p.w

-- the edge between a and b has a point in that column; in that row
abbrev pub HasPointInColumn : Triple → Raster → Corner → Corner → ℕ → Type 0
HasPointInColumn d r a b column = (p : Point) × IsPointOfEdge a b p × IsInColumn d r column p

abbrev pub HasPointInRow : Triple → Raster → Corner → Corner → ℕ → Type 0
HasPointInRow d r a b row = (p : Point) × IsPointOfEdge a b p × IsInRow d r row p

-- the edge has a point in the cell of that column and that row
abbrev pub HasPointIn : Triple → Raster → {s : Part} → Edge s → ℕ → ℕ → Type 0
HasPointIn d r e column row = (p : Point) × IsPointOfEdge e.a e.b p × IsInColumn d r column p × IsInRow d r row p

-- some cell has a point of each of the two
abbrev pub ShareCell : Triple → Raster → {s : Part} → Edge s → Edge s → Type 0
ShareCell d r e o = (column : ℕ) × (row : ℕ) × HasPointIn d r e column row × HasPointIn d r o column row
