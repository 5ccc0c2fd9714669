-- Whether a layout has room on a sheet, and where its views stand there.
use Rattle.std.specs.Prelude.{ℕ, ◌+◌, ◌-◌, ◌/◌, ◌==◌, ◌&&◌, ◌||◌, not, nat_le, Bool, true, false, ℤ, pos, ◌+ℤ◌, ◌-ℤ◌, List, [], ◌∷◌, Option, Some, None, slice_get}
use Rattle.std.specs.List.{list_all}
use Rattle.sheet_layout.specs.Anchors.{is_equal}
use Rattle.sheet_layout.specs.Blocks.{in_row, in_column, seat_x, seat_y}
use Rattle.sheet_layout.specs.Rows.{Rows, spot_of}
use Rattle.sheet_layout.specs.declared.cells.Beside.{Beside}
use Rattle.sheet_layout.specs.declared.cells.Side.{Side}
use Rattle.sheet_layout.specs.declared.cells.Side.TheVariants.{Left, Right, Top, Bottom}
use Rattle.sheet_layout.specs.declared.rects.Rect.{Rect}
use Rattle.sheet_layout.specs.declared.rooms.Room.{Room}
use Rattle.sheet_layout.specs.declared.rects.Standing.{Standing}
use Rattle.sheet_layout.specs.declared.seats.Seat.{Seat}

-- ---- rectangles
-- what is left of a room in one direction is divided
abbrev pub half_left : ℕ → ℕ → ℕ
half_left room need = (room - need) / 2

-- where a view's box begins on the sheet, from the left and from above: the rows are in the middle of the room
abbrev pub standing_of : Room → List Seat → Rows → Seat → Standing
standing_of room seats r s =
    let spot = spot_of r.spots s.cell.block in
    record {
      x = room.left + half_left (room.right - room.left) r.width + (spot.x + seat_x seats s);
      y = room.top + half_left (room.bottom - room.top) r.bottom + (spot.y + seat_y seats s);
      seat = s;
    }

abbrev pub standings_in : Room → List Seat → Rows → List Seat → List Standing
standings_in room seats r [] = []
standings_in room seats r (s ∷ ss) = standing_of room seats r s ∷ standings_in room seats r ss

-- a box with its sides
abbrev pub rect_of : Standing → Rect
rect_of t = record {
  left = t.x - t.seat.left;
  right = t.x + (t.seat.width + t.seat.right);
  top = t.y - t.seat.top;
  bottom = t.y + (t.seat.height + t.seat.bottom);
}

-- ---- what is asked of them
abbrev pub is_inside : Room → Standing → Bool
is_inside room t = nat_le room.left (rect_of t).left && (nat_le (rect_of t).right room.right && (nat_le room.top (rect_of t).top && nat_le (rect_of t).bottom room.bottom))

abbrev pub are_apart : Standing → Standing → Bool
are_apart t u =
    nat_le (rect_of t).right (rect_of u).left || (nat_le (rect_of u).right (rect_of t).left || (nat_le (rect_of t).bottom (rect_of u).top || nat_le (rect_of u).bottom (rect_of t).top))

-- if both stand in the row of one block their origins have one y, and if both stand in its column one x
abbrev pub share_block : Standing → Standing → Bool
share_block t u = t.seat.cell.block == u.seat.cell.block

abbrev pub are_level : Standing → Standing → Bool
are_level t u = (in_column t.seat.cell.line || in_column u.seat.cell.line) || ((t.y == u.y) && is_equal t.seat.above u.seat.above)

abbrev pub are_upright : Standing → Standing → Bool
are_upright t u = (in_row t.seat.cell.line || in_row u.seat.cell.line) || ((t.x == u.x) && is_equal t.seat.from_left u.seat.from_left)

abbrev pub are_in_line : Standing → Standing → Bool
are_in_line t u = not (share_block t u) || (are_level t u && are_upright t u)

abbrev pub are_well : Standing → Standing → Bool
are_well t u = are_apart t u && are_in_line t u

abbrev pub all_pairs_well : List Standing → Bool
all_pairs_well [] = true
all_pairs_well (t ∷ ts) = list_all (are_well t) ts && all_pairs_well ts

-- the second view is on that side of the first
abbrev pub is_on_side : Side → Standing → Standing → Bool
is_on_side Left t u = nat_le (rect_of u).right (rect_of t).left
is_on_side Right t u = nat_le (rect_of t).right (rect_of u).left
is_on_side Top t u = nat_le (rect_of u).bottom (rect_of t).top
is_on_side Bottom t u = nat_le (rect_of t).bottom (rect_of u).top

abbrev pub is_side_of : Side → Option Standing → Standing → Bool
is_side_of side (Some t) u = is_on_side side t u
is_side_of side None u = false

abbrev pub is_beside : List Standing → Option Beside → Standing → Bool
is_beside all None u = true
is_beside all (Some at) u = is_side_of at.side (slice_get all at.view) u

abbrev pub stands_beside : List Standing → Standing → Bool
stands_beside all u = is_beside all u.seat.cell.beside u

-- the rows have room; each box with its sides is in it, no two of them overlap, views of one row or column are in line, and each cut in
-- projection is on its side
abbrev pub has_room : Room → Rows → Bool
has_room room r = nat_le r.width (room.right - room.left) && nat_le r.bottom (room.bottom - room.top)

abbrev pub stand_well : Room → List Standing → Bool
stand_well room all = list_all (is_inside room) all && (all_pairs_well all && list_all (stands_beside all) all)

-- ---- origins
abbrev pub origin_x : Standing → ℤ
origin_x t = pos t.x -ℤ t.seat.from_left

abbrev pub origin_y : Standing → ℤ
origin_y t = pos t.y +ℤ t.seat.above
