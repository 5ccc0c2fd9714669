-- Triangles that are put into the cells which the boxes of their corners' cells hold.
use Rattle.std.specs.Prelude.{◌≡◌, ◌⊎◌, ℕ, ◌+◌, ◌-◌, ◌*◌, ◌/◌, ◌%◌, ◌<◌, ◌≤◌, ◌≤ℤ◌, List, All, Contains, Some, length, slice_get, slice_index_or, min, max}
use Rattle.std.specs.List.{AllZip, sum_by}
use Rattle.std.specs.List.Sorted.{IsNonDecreasing}
use Rattle.lattice.specs.declared.points.Corner.{Corner}
use Rattle.lattice.specs.declared.soup.Tri.{Tri}
use Rattle.lattice.specs.Triple.{Triple}
use Rattle.lattice.specs.Points.{point_of, across_of, upward_of}
use Rattle.geometry.specs.Parts.{Part}
use Rattle.out_grid.specs.Grids.{cell_at}

-- ---- the cells of corners
-- The cell of each corner, by its number, in so many columns and rows as many: what is not further to the right is in no later column, and
-- what is not higher in no higher row.
pub record AreCellsOf (d : Triple) (s : Part) (columns : ℕ) (cells : List ℕ) : Type 0 where
  pub for_each : length cells ≡ length s.corners
  pub within : All (λ cell. cell < columns * columns) cells
  pub across : (i j x y : ℕ) (a b : Corner) → slice_get cells i ≡ Some x → slice_get cells j ≡ Some y → slice_get s.corners i ≡ Some a → slice_get s.corners j ≡ Some b →
      across_of d (point_of a) ≤ℤ across_of d (point_of b) → (x / columns) ≤ (y / columns)
  pub upward : (i j x y : ℕ) (a b : Corner) → slice_get cells i ≡ Some x → slice_get cells j ≡ Some y → slice_get s.corners i ≡ Some a → slice_get s.corners j ≡ Some b →
      upward_of d (point_of a) ≤ℤ upward_of d (point_of b) → (x % columns) ≤ (y % columns)

-- the cell that a cell is part of where two columns and two rows are made one
abbrev pub IsHalfOf : ℕ → ℕ → ℕ → Type 0
IsHalfOf columns cell half = half ≡ (((cell / columns) / 2) * ((columns + 1) / 2)) + ((cell % columns) / 2)

abbrev pub AreHalved : ℕ → List ℕ → List ℕ → Type 0
AreHalved columns cells halves = AllZip (IsHalfOf columns) cells halves

-- ---- the boxes of triangles
-- from the least of three numbers to the greatest
pub record IsAmong (a b c k : ℕ) : Type 0 where
  pub from : (a ≤ k) ⊎ (b ≤ k) ⊎ (c ≤ k)
  pub to : (k ≤ a) ⊎ (k ≤ b) ⊎ (k ≤ c)

-- the column and the row are among those of the triangle's corners
pub record IsInBox (columns : ℕ) (cells : List ℕ) (t : Tri) (column row : ℕ) : Type 0 where
  pub in_columns : IsAmong (slice_index_or cells t.a 0 / columns) (slice_index_or cells t.b 0 / columns) (slice_index_or cells t.c 0 / columns) column
  pub in_rows : IsAmong (slice_index_or cells t.a 0 % columns) (slice_index_or cells t.b 0 % columns) (slice_index_or cells t.c 0 % columns) row

-- how many numbers there are from the least of three to the greatest
abbrev pub reach_of : ℕ → ℕ → ℕ → ℕ
reach_of a b c = (max (max a b) c - min (min a b) c) + 1

-- how many cells a triangle's box has
abbrev pub box_size : ℕ → List ℕ → Tri → ℕ
box_size columns cells t =
    reach_of (slice_index_or cells t.a 0 / columns) (slice_index_or cells t.b 0 / columns) (slice_index_or cells t.c 0 / columns)
    * reach_of (slice_index_or cells t.a 0 % columns) (slice_index_or cells t.b 0 % columns) (slice_index_or cells t.c 0 % columns)

-- how many those of these triangles have together
abbrev pub box_sizes : ℕ → List ℕ → List Tri → ℕ
box_sizes columns cells triangles = sum_by (box_size columns cells) triangles

-- they have at most eight times as many as there are triangles
abbrev pub AreRoomy : ℕ → List ℕ → List Tri → Type 0
AreRoomy columns cells triangles = box_sizes columns cells triangles ≤ 8 * length triangles

-- each cell holds, in ascending order, some of the first triangles, and among them those whose boxes it is in
pub record AreFilled (columns : ℕ) (corner_cells : List ℕ) (triangles : List Tri) (count : ℕ) (lists : List (List ℕ)) : Type 0 where
  pub first : (column row : ℕ) → column < columns → row < columns → All (λ i. i < count) (cell_at lists columns column row)
  pub ascending : (column row : ℕ) → column < columns → row < columns → IsNonDecreasing (cell_at lists columns column row)
  pub held : (column row i : ℕ) (t : Tri) → column < columns → row < columns → i < count → slice_get triangles i ≡ Some t → IsInBox columns corner_cells t column row →
      Contains (cell_at lists columns column row) i
