-- How many cells a grid may be asked for while it is made.
use Rattle.std.specs.Prelude.{◌≡◌, ◌↔◌, ℕ, ◌+◌, ◌≤◌, ◌<◌, List, sum}
use Rattle.std.specs.List.{AllZip}
use Rattle.lattice.specs.declared.points.Corner.{Corner}
use Rattle.lattice.specs.Triple.{Triple}
use Rattle.geometry.specs.Parts.{Part, Edge, IsNumbered}
use Rattle.edge_pick.specs.declared.Picked.{Picked}
use Rattle.out_grid.specs.Cells.{Raster, IsRaster, HasPointInColumn, HasPointInRow}

-- P holds of so many numbers, which follow one another
pub record AreInTurn (P : ℕ → Type 0) (count : ℕ) : Type 0 where
  pub first : ℕ
  pub exactly : (k : ℕ) → P k ↔ ((first ≤ k) × (k < first + count))

-- the span of the edge between a and b: one less than the columns and the rows together in which it has a point
pub record IsSpan (d : Triple) (r : Raster) (a b : Corner) (span : ℕ) : Type 0 where
  pub columns : ℕ
  pub rows : ℕ
  pub are_columns : AreInTurn (HasPointInColumn d r a b) columns
  pub are_rows : AreInTurn (HasPointInRow d r a b) rows
  pub span_is : span + 1 ≡ columns + rows

-- that of the edge with this number
pub record IsSpanAt (d : Triple) (r : Raster) (s : Part) (halves : List ℕ) (number span : ℕ) : Type 0 where
  pub edge : Edge s
  pub numbered : IsNumbered halves number edge
  pub is_span : IsSpan d r edge.a edge.b span

-- the sum of the spans of all outlines and of all drawn edges
pub record IsCellBound (d : Triple) (s : Part) (halves : List ℕ) (picked : Picked) (columns bound : ℕ) : Type 0 where
  pub raster : Raster
  pub is_raster : IsRaster d s.corners columns raster
  pub of_outlines : List ℕ
  pub of_drawn : List ℕ
  pub are_outlines : AllZip (IsSpanAt d raster s halves) picked.outlines.items of_outlines
  pub are_drawn : AllZip (IsSpanAt d raster s halves) picked.drawn.items of_drawn
  pub bound_is : bound ≡ sum of_outlines + sum of_drawn
