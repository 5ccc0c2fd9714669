-- What a grid over a view holds: the outlines of its cells, of each drawn edge and of each corner.
use Rattle.std.specs.Prelude.{◌≡◌, ◌≢◌, ◌↔◌, ℕ, ◌+◌, ◌*◌, ◌<◌, ◌≤◌, List, [], All, AllPairs, Contains, Some, length, slice_get, slice_index_or}
use Rattle.lattice.specs.declared.points.Corner.{Corner}
use Rattle.lattice.specs.Triple.{Triple}
use Rattle.lattice.specs.Points.{Point, point_of}
use Rattle.geometry.specs.Parts.{Part, Edge, IsNumbered}
use Rattle.edge_pick.specs.declared.Picked.{Picked}
use Rattle.solid_mesh.specs.Stars.{lists_of}
use Rattle.out_grid.specs.declared.grid.GridOutlines.{GridOutlines}
use Rattle.out_grid.specs.Cells.{Raster, IsRaster, IsInColumn, IsInRow, HasPointIn, ShareCell}
use Rattle.out_grid.specs.Near.{near_list}

-- ---- its lists
abbrev pub list_at : List (List ℕ) → ℕ → List ℕ
list_at lists i = slice_index_or lists i []

-- the list of the cell in that column and that row, where lists stand column by column
abbrev pub cell_at : List (List ℕ) → ℕ → ℕ → ℕ → List ℕ
cell_at lists columns column row = list_at lists ((column * columns) + row)

abbrev pub cell_list : GridOutlines → ℕ → ℕ → List ℕ
cell_list g column row = cell_at (lists_of g.cells.items) g.columns column row

-- that of an edge
abbrev pub along_list : GridOutlines → ℕ → List ℕ
along_list g edge = list_at (lists_of g.lists.items) edge

-- that of a corner: its cell's, and none for another number
abbrev pub over_list : GridOutlines → ℕ → List ℕ
over_list g corner = list_at (lists_of g.cells.items) (slice_index_or g.corner_cells.items corner (length g.cells.items))

-- the triangle is listed as near the corner
abbrev pub is_listed_near : GridOutlines → ℕ → ℕ → Type 0
is_listed_near g corner = Contains (near_list g.triangles corner)

-- the corner's cell is that in this column and this row
abbrev pub IsCornerIn : GridOutlines → ℕ → ℕ → ℕ → Type 0
IsCornerIn g corner column row = slice_get g.corner_cells.items corner ≡ Some ((column * g.columns) + row)

-- ---- what they hold
-- those of these outlines of which P holds, each once
pub record HoldsThose {s : Part} (halves outlines : List ℕ) (P : Edge s → Type 0) (list : List ℕ) : Type 0 where
  pub within : All (Contains outlines) list
  pub once : AllPairs ◌≢◌ list
  pub exactly : (k : ℕ) (o : Edge s) → Contains outlines k → IsNumbered halves k o → Contains list k ↔ P o

-- the point is in the cell of that column and that row
pub record IsInCell (d : Triple) (r : Raster) (column row : ℕ) (p : Point) : Type 0 where
  pub in_column : IsInColumn d r column p
  pub in_row : IsInRow d r row p

-- The outlines that have a point in a cell; for a drawn edge those that share a cell with it; for a corner those of its cell.
pub record IsGridOf (d : Triple) (s : Part) (halves : List ℕ) (p : Picked) (columns : ℕ) (g : GridOutlines) : Type 0 where
  pub raster : Raster
  pub is_raster : IsRaster d s.corners columns raster
  pub columns_are : g.columns ≡ columns
  pub cells : (column row : ℕ) → column < columns → row < columns →
      HoldsThose {s = s} halves p.outlines.items (λ o. HasPointIn d raster o column row) (cell_list g column row)
  pub along : (i : ℕ) (e : Edge s) → Contains p.drawn.items i → IsNumbered halves i e →
      HoldsThose {s = s} halves p.outlines.items (ShareCell d raster e) (along_list g i)
  pub along_others : (i : ℕ) → ¬ Contains p.drawn.items i → along_list g i ≡ []
  pub corners : (number column row : ℕ) (c : Corner) → slice_get s.corners number ≡ Some c → IsInCell d raster column row (point_of c) → IsCornerIn g number column row
  pub over : (number column row : ℕ) (c : Corner) → slice_get s.corners number ≡ Some c → IsInCell d raster column row (point_of c) →
      HoldsThose {s = s} halves p.outlines.items (λ o. HasPointIn d raster o column row) (over_list g number)
  pub over_others : (number : ℕ) → length s.corners ≤ number → over_list g number ≡ []
  pub others_in_none : (number column row : ℕ) → length s.corners ≤ number → ¬ IsCornerIn g number column row
