-- How the blocks of a layout fill a room: that of the named views stands first, and the others fill rows below it, in their order.
use Rattle.std.specs.Prelude.{ℕ, zero, suc, ◌+◌, max, ◌==◌, ◌&&◌, ◌||◌, not, nat_le, Bool, true, false, if◌then◌else◌, List, [], ◌∷◌, ◌++◌, Option, Some, None, slice_get}
use Rattle.std.specs.List.{list_any}
use Rattle.lattice.specs.Points.{of_dir}
use Rattle.lattice.specs.Triple.{Triple, up_axis}
use Rattle.sheet_layout.specs.Anchors.{is_same}
use Rattle.sheet_layout.specs.Blocks.{across_middle, block_width, block_height, column_before, down_middle, in_block, left_of, row_before, seat_x, seat_y, top_of}
use Rattle.sheet_layout.specs.Cells.{middle}
use Rattle.sheet_layout.specs.declared.cells.Line.{Line}
use Rattle.sheet_layout.specs.declared.cells.Line.TheVariants.{Center, Row, Column}
use Rattle.sheet_layout.specs.declared.rows.Spot.{Spot}
use Rattle.sheet_layout.specs.declared.rows.Stood.{Stood}
use Rattle.sheet_layout.specs.declared.seats.Seat.{Seat}

-- ---- boxes in line that don't belong together
-- A view that stands already has its left side at x, and is in another row; or its top at y, and is in the same row or in the block of the
-- named views, which is row 0, but doesn't share V.
abbrev pub is_left_at : ℕ → ℕ → Stood → Bool
is_left_at row x t = not (t.row == row) && (t.left == x)

abbrev pub is_top_at : ℕ → Triple → ℕ → Stood → Bool
is_top_at row up y t = if (t.row == row) || (t.row == 0) then not (is_same (up_axis (of_dir t.d)) up) && (t.top == y) else false

-- From x in steps of 3 mm, so many at most, to where no such view has its left side; `offset` is how far a box's left side is in its block.
abbrev pub clear_left : List Stood → (row offset tries x : ℕ) → ℕ
clear_left stood row offset zero x = x
clear_left stood row offset (suc n) x = if list_any (is_left_at row (x + offset)) stood then clear_left stood row offset n (x + 300) else x

abbrev pub clear_top : List Stood → ℕ → Triple → (offset tries y : ℕ) → ℕ
clear_top stood row up offset zero y = y
clear_top stood row up offset (suc n) y = if list_any (is_top_at row up (y + offset)) stood then clear_top stood row up offset n (y + 300) else y

-- ---- rows
-- What stands so far: the upper left corners of the blocks of the views so far, where these stand, in which row the next block stands and how
-- much of it is taken, where that row begins and where it ends, from above, how wide the widest row is, and where rows begin, from the left.
pub record Rows : Type 0 where
  pub spots : List Spot
  pub stood : List Stood
  pub row : ℕ
  pub x : ℕ
  pub y : ℕ
  pub bottom : ℕ
  pub width : ℕ
  pub from : ℕ

-- where a view stands the corner of whose block is there, and where those of a block do
abbrev pub stood_at : List Seat → Spot → Seat → Stood
stood_at seats spot s = record { row = spot.row; left = spot.x + seat_x seats s; top = spot.y + seat_y seats s; d = s.d }

abbrev pub stood_in : List Seat → ℕ → Spot → List Seat → List Stood
stood_in seats block spot [] = []
stood_in seats block spot (s ∷ ss) =
    if in_block block s then stood_at seats spot s ∷ stood_in seats block spot ss else stood_in seats block spot ss

-- the block stands there
abbrev pub with_block : List Seat → ℕ → Spot → Rows → Rows
with_block seats block spot r = record {
  spots = r.spots ++ spot ∷ [];
  stood = r.stood ++ stood_in seats block spot seats;
  row = spot.row;
  x = spot.x + block_width seats block;
  y = r.y;
  bottom = max r.bottom (spot.y + block_height seats block);
  width = max r.width (spot.x + block_width seats block);
  from = r.from;
}

-- a block begins at x in the row; its box of the view that is in its middle is in line with no other
abbrev pub left_in : List Seat → (tries block row x : ℕ) → Rows → ℕ
left_in seats tries block row x r = clear_left r.stood row (row_before seats block middle + left_of seats block) tries x

abbrev pub top_in : List Seat → (tries block : ℕ) → Triple → Rows → ℕ
top_in seats tries block up r = clear_top r.stood r.row up (column_before seats block middle + top_of seats block) tries r.y

abbrev pub spot_at : List Seat → (tries block : ℕ) → Triple → (x : ℕ) → Rows → Spot
spot_at seats tries block up x r = record { row = r.row; x = x; y = top_in seats tries block up r }

-- the next row
abbrev pub next_row : Rows → Rows
next_row r = record { spots = r.spots; stood = r.stood; row = r.row + 1; x = r.from; y = r.bottom; bottom = r.bottom; width = r.width; from = r.from }

-- a block has room in the row, or it is the first there
abbrev pub has_place : (room x width begun from : ℕ) → Bool
has_place room x width begun from = (begun == from) || nat_le (x + width) room

-- the row in which the next block stands
abbrev pub row_for : ℕ → List Seat → (tries block : ℕ) → Rows → Rows
row_for room seats tries block r = if has_place room (left_in seats tries block r.row r.x r) (block_width seats block) r.x r.from then r else next_row r

abbrev pub block_in : List Seat → (tries block : ℕ) → Triple → Rows → Rows
block_in seats tries block up r = with_block seats block (spot_at seats tries block up (left_in seats tries block r.row r.x r) r) r

-- a view that stands in the middle of a block of its own
abbrev pub is_center : Line → Bool
is_center Center = true
is_center Row = false
is_center Column = false

abbrev pub is_own : ℕ → Seat → Bool
is_own number s = is_center s.cell.line && (s.cell.block == number + 1)

abbrev pub no_spot : Spot
no_spot = record { row = 0; x = 0; y = 0 }

abbrev pub passed_by : Rows → Rows
passed_by r = record { spots = r.spots ++ no_spot ∷ []; stood = r.stood; row = r.row; x = r.x; y = r.y; bottom = r.bottom; width = r.width; from = r.from }

abbrev pub with_next : ℕ → List Seat → ℕ → Rows → ℕ → Seat → Rows
with_next room seats tries r number s =
    if is_own number s then block_in seats tries (number + 1) (up_axis (of_dir s.d)) (row_for room seats tries (number + 1) r) else passed_by r

-- Other views stand in rows below all named views; or in the corner below the row of these and to the right of their column.
abbrev pub begin_x : Bool → List Seat → ℕ
begin_x corner seats = if corner then row_before seats 0 middle + across_middle seats 0 else 0

abbrev pub begin_y : Bool → List Seat → ℕ
begin_y corner seats = if corner then column_before seats 0 middle + down_middle seats 0 else block_height seats 0

-- the block of the named views alone
abbrev pub first_rows : Bool → List Seat → Rows
first_rows corner seats = record {
  spots = [];
  stood = stood_in seats 0 no_spot seats;
  row = 1;
  x = begin_x corner seats;
  y = begin_y corner seats;
  bottom = block_height seats 0;
  width = block_width seats 0;
  from = begin_x corner seats;
}

abbrev pub rows_from : ℕ → List Seat → ℕ → Rows → ℕ → List Seat → Rows
rows_from room seats tries r number [] = r
rows_from room seats tries r number (s ∷ ss) = rows_from room seats tries (with_next room seats tries r number s) (number + 1) ss

-- all blocks in a room of this width
abbrev pub rows_of : Bool → ℕ → ℕ → List Seat → Rows
rows_of corner tries room seats = rows_from room seats tries (first_rows corner seats) 0 seats

-- the upper left corner of a block: that of the named views is in the corner
abbrev pub spot_or_none : Option Spot → Spot
spot_or_none (Some spot) = spot
spot_or_none None = no_spot

abbrev pub spot_of : List Spot → ℕ → Spot
spot_of spots zero = no_spot
spot_of spots (suc view) = spot_or_none (slice_get spots view)
