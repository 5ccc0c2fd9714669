-- A label in its space is in the cell that the space is in.
use Rattle.std.proofs.Common.{ℕ, ◌+◌, ◌*◌, ◌≤◌, ◌≡◌, List, arith}
use Rattle.std.specs.Prelude.{ℤ, pos, ◌+ℤ◌, ◌-ℤ◌, ◌*ℤ◌, ◌≤ℤ◌}
use Rattle.std.specs.List.{All}
use Rattle.std.proofs.lemmas.Int.{ints}
use Rattle.std.proofs.lemmas.List.Elements.{All-append, All-weaker}
use Rattle.text_fit.specs.Widths.{text_width}
use Rattle.stroke_paths.specs.declared.path.Point.{Point}
use Rattle.sheet_page.specs.declared.cells.Cell.{Cell}
use Rattle.sheet_page.specs.declared.cells.Space.{Space}
use Rattle.sheet_page.specs.declared.page.Item.{Item}
use Rattle.sheet_page.specs.declared.page.Item.TheVariants as item
use Rattle.sheet_page.specs.Cells.{IsSpaceIn, IsCell}
use Rattle.sheet_page.specs.Corners.{IsInCell}
use Rattle.sheet_page.specs.Labels.{says, text_in, cell_items}
use Rattle.sheet_page.specs.inner.Spaces.{IsInSpace}

left_of : (corner x : ℤ) (cell space : ℕ) → x ≡ corner +ℤ pos space → cell ≤ space → (corner +ℤ pos cell) ≤ℤ x
left_of corner x cell space at h = omega (arith, ints)

right_of : (corner x : ℤ) (end space width used : ℕ) → x ≡ corner +ℤ pos space → space + width ≤ end → used ≤ 1000 * width → pos used ≤ℤ (pos 1000 *ℤ (corner +ℤ pos end -ℤ x))
right_of corner x end space width used at h fits = omega (arith, ints)

top_of : (corner y : ℤ) (cell space size most : ℕ) → y ≡ corner +ℤ pos space → cell + most ≤ space → size ≤ most → (corner +ℤ pos cell) ≤ℤ (y -ℤ pos size)
top_of corner y cell space size most at h small = omega (arith, ints)

bottom_of : (corner y : ℤ) (end space size most : ℕ) → y ≡ corner +ℤ pos space → 4 * space + most ≤ 4 * end → size ≤ most → pos size ≤ℤ (pos 4 *ℤ (corner +ℤ pos end -ℤ y))
bottom_of corner y end space size most at h small = omega (arith, ints)

in_cell : (corner : Point) (c : Cell) (s : Space) → IsSpaceIn c s → (one : Item) → IsInSpace corner s one → IsInCell corner c one
in_cell corner c s is (item.Frame frame) inside = absurd inside
in_cell corner c s is (item.Rule rule) inside = absurd inside
in_cell corner c s is (item.Circle circle) inside = absurd inside
in_cell corner c s is (item.Label l) inside = record {
  left = left_of corner.x l.x c.x s.x inside.x is.left;
  right = right_of corner.x l.x (c.x + c.width) s.x s.width (text_width l.text * l.size) inside.x is.right inside.fits;
  top = top_of corner.y l.y c.y s.y l.size s.most inside.y is.top inside.small;
  bottom = bottom_of corner.y l.y (c.y + c.height) s.y l.size s.most inside.y is.bottom inside.small;
}
in_cell corner c s is (item.Path path) inside = absurd inside
in_cell corner c s is (item.Fill fill) inside = absurd inside
in_cell corner c s is (item.ArrowHead arrow) inside = absurd inside

-- so is what a cell says
pub all_in_cell : (corner : Point) (c : Cell) (caption text : List ℕ) → IsCell c → All (IsInSpace corner c.caption) (text_in corner c.caption caption) → All (IsInSpace corner c.text) (text_in corner c.text text)
    → All (IsInCell corner c) (cell_items corner (says c caption text))
all_in_cell corner c caption text is first second =
    All-append (IsInCell corner c) (text_in corner c.caption caption) (text_in corner c.text text)
    (All-weaker (IsInSpace corner c.caption) (IsInCell corner c) (in_cell corner c c.caption is.caption) (text_in corner c.caption caption) first)
    (All-weaker (IsInSpace corner c.text) (IsInCell corner c) (in_cell corner c c.text is.text) (text_in corner c.text text) second)
