-- Where the views of a block stand in it. A block is a row and a column of views that cross; what is in both is its middle.
use Rattle.std.specs.Prelude.{ℕ, ◌+◌, max, ◌==◌, ◌&&◌, nat_lt, Bool, true, false, if◌then◌else◌, List, [], ◌∷◌}
use Rattle.sheet_layout.specs.Cells.{middle}
use Rattle.sheet_layout.specs.declared.cells.Line.{Line}
use Rattle.sheet_layout.specs.declared.cells.Line.TheVariants.{Center, Row, Column}
use Rattle.sheet_layout.specs.declared.seats.Seat.{Seat}

-- how wide and how high a box is with its sides
abbrev pub outer_width : Seat → ℕ
outer_width s = s.left + s.width + s.right

abbrev pub outer_height : Seat → ℕ
outer_height s = s.top + s.height + s.bottom

-- what a view takes along each line: those of the row stand side by side, and so do those of the column; the middle is beside none
abbrev pub in_row : Line → Bool
in_row Center = false
in_row Row = true
in_row Column = false

abbrev pub in_column : Line → Bool
in_column Center = false
in_column Row = false
in_column Column = true

-- the sum over the views of a block's row of lower rank, and over those of its column
abbrev pub part_if : Bool → ℕ → ℕ
part_if stands n = if stands then n else 0

abbrev pub stands_before : ℕ → ℕ → Seat → Bool
stands_before block rank s = (s.cell.block == block) && nat_lt s.cell.rank rank

abbrev pub row_part : ℕ → ℕ → Seat → ℕ
row_part block rank s = part_if (stands_before block rank s && in_row s.cell.line) (outer_width s)

abbrev pub column_part : ℕ → ℕ → Seat → ℕ
column_part block rank s = part_if (stands_before block rank s && in_column s.cell.line) (outer_height s)

abbrev pub sum_of : (Seat → ℕ) → List Seat → ℕ
sum_of f [] = 0
sum_of f (s ∷ ss) = f s + sum_of f ss

abbrev pub row_before : List Seat → ℕ → ℕ → ℕ
row_before seats block rank = sum_of (row_part block rank) seats

abbrev pub column_before : List Seat → ℕ → ℕ → ℕ
column_before seats block rank = sum_of (column_part block rank) seats

-- all of a line has a lower rank than this
abbrev pub last : ℕ
last = 2000

-- The views of the column and of the middle have their left sides in one line: so far it is from where they begin, and so far to where they
-- end. Those of the row and of the middle have their tops in one line.
abbrev pub in_block : ℕ → Seat → Bool
in_block block s = s.cell.block == block

abbrev pub left_part : ℕ → Seat → ℕ
left_part block s = if in_row s.cell.line then 0 else part_if (in_block block s) s.left

abbrev pub right_part : ℕ → Seat → ℕ
right_part block s = if in_row s.cell.line then 0 else part_if (in_block block s) (s.width + s.right)

abbrev pub top_part : ℕ → Seat → ℕ
top_part block s = if in_column s.cell.line then 0 else part_if (in_block block s) s.top

abbrev pub bottom_part : ℕ → Seat → ℕ
bottom_part block s = if in_column s.cell.line then 0 else part_if (in_block block s) (s.height + s.bottom)

abbrev pub greatest_of : (Seat → ℕ) → List Seat → ℕ
greatest_of f [] = 0
greatest_of f (s ∷ ss) = max (f s) (greatest_of f ss)

abbrev pub left_of : List Seat → ℕ → ℕ
left_of seats block = greatest_of (left_part block) seats

abbrev pub top_of : List Seat → ℕ → ℕ
top_of seats block = greatest_of (top_part block) seats

-- how wide the middle is, and how high
abbrev pub across_middle : List Seat → ℕ → ℕ
across_middle seats block = left_of seats block + greatest_of (right_part block) seats

abbrev pub down_middle : List Seat → ℕ → ℕ
down_middle seats block = top_of seats block + greatest_of (bottom_part block) seats

abbrev pub block_width : List Seat → ℕ → ℕ
block_width seats block = row_before seats block last + across_middle seats block

abbrev pub block_height : List Seat → ℕ → ℕ
block_height seats block = column_before seats block last + down_middle seats block

-- where a view's box begins in its block, from the left and from above
abbrev pub past_middle : ℕ → ℕ → ℕ
past_middle rank length = if nat_lt middle rank then length else 0

abbrev pub seat_x : List Seat → Seat → ℕ
seat_x seats s =
    if in_row s.cell.line then row_before seats s.cell.block s.cell.rank + past_middle s.cell.rank (across_middle seats s.cell.block) + s.left
    else row_before seats s.cell.block middle + left_of seats s.cell.block

abbrev pub seat_y : List Seat → Seat → ℕ
seat_y seats s =
    if in_column s.cell.line then column_before seats s.cell.block s.cell.rank + past_middle s.cell.rank (down_middle seats s.cell.block) + s.top
    else column_before seats s.cell.block middle + top_of seats s.cell.block
