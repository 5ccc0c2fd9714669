-- The labels of a title block.
use Rattle.std.specs.Prelude.{ℕ, zero, suc, ◌*◌, ◌/◌, nat_le, nat_lt, if◌then◌else◌, List, [], ◌∷◌, ◌++◌, length, Option, Some, None, encode_utf8_all}
use Rattle.std.specs.Str.{chars}
use Rattle.text_fit.specs.Fits.{size_in, least_of, with_points}
use Rattle.text_fit.specs.Widths.{chars_width, text_width}
use Rattle.text_fit.specs.declared.fit.Fitted.{Fitted}
use Rattle.text_fit.specs.declared.fit.Room.{Room}
use Rattle.sheet_page.specs.declared.cells.Cell.{Cell}
use Rattle.sheet_page.specs.declared.cells.Space.{Space}
use Rattle.sheet_page.specs.declared.page.Item.{Item}
use Rattle.sheet_page.specs.declared.page.Item.TheVariants as item
use Rattle.stroke_paths.specs.declared.path.Point.{Point}
use Rattle.sheet_page.specs.Rules.{point_from}

-- the room of a space; no letters are smaller than 1.8 mm
abbrev pub room_of : Space → Room
room_of s = record { width = s.width; most = s.most; least = 180 }

-- of the first n characters of a text as many as fit with three points behind them, or nothing if not even the points fit
abbrev pub cut_within : ℕ → ℕ → List ℕ → ℕ → List ℕ
cut_within room size text zero =
    if nat_le (chars_width (with_points zero text) * size) (1000 * room) then encode_utf8_all (with_points zero text) else []
cut_within room size text (suc n) =
    if nat_le (chars_width (with_points (suc n) text) * size) (1000 * room) then encode_utf8_all (with_points (suc n) text) else cut_within room size text n

-- a text in the greatest size in which it fits its room, or cut, in the least
unfoldable pub fitted_in : Room → List ℕ → Fitted
fitted_in room text =
    if nat_le (least_of room) (size_in room.width room.most (text_width text)) then record { size = size_in room.width room.most (text_width text); text = text }
    else record { size = least_of room; text = cut_within room.width (least_of room) text (length (chars text)) }

-- how wide a viewer is to set a text, which may have another font: as wide as it is in Helvetica, if that is over eight tenths of its space
abbrev pub set_width : ℕ → ℕ → Option ℕ
set_width room wide = if nat_lt (8 * room) (10 * wide) then Some wide else None

abbrev pub label_in : Point → Space → Fitted → Item
label_in corner s f = item.Label (record {
  x = (point_from corner s.x s.y).x;
  y = (point_from corner s.x s.y).y;
  size = f.size;
  width = set_width s.width (text_width f.text * f.size / 1000);
  text = f.text;
})

-- a text in its space; an empty one is left out
abbrev pub text_in : Point → Space → List ℕ → List Item
text_in corner s [] = []
text_in corner s (b ∷ text) = label_in corner s (fitted_in (room_of s) (b ∷ text)) ∷ []

-- what a cell says: its caption, and its text
pub record Said : Type 0 where
  pub cell : Cell
  pub caption : List ℕ
  pub text : List ℕ

abbrev pub says : Cell → List ℕ → List ℕ → Said
says cell caption text = record { cell = cell; caption = caption; text = text }

abbrev pub cell_items : Point → Said → List Item
cell_items corner said = text_in corner said.cell.caption said.caption ++ text_in corner said.cell.text said.text
