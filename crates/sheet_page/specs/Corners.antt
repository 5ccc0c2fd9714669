-- The corner of a sheet that its title block takes, and the cells there.
use Rattle.std.specs.Prelude.{◌⊎◌, ◌+◌, ◌*◌, ℤ, pos, ◌+ℤ◌, ◌-ℤ◌, ◌*ℤ◌, ◌≤ℤ◌, List}
use Rattle.std.specs.List.{Contains}
use Rattle.text_fit.specs.Widths.{text_width}
use Rattle.sheet_page.specs.declared.cells.Cell.{Cell}
use Rattle.sheet_page.specs.declared.page.Item.{Item}
use Rattle.sheet_page.specs.declared.page.Item.TheVariants as item
use Rattle.sheet_page.specs.declared.page.Label.{Label}
use Rattle.sheet_plan.specs.Boxes.{Box}
use Rattle.stroke_paths.specs.declared.path.Point.{Point}
use Rattle.sheet_page.specs.Labels.{Said}

-- what goes across from x to x_end and downward from y to y_end is in the corner, 180 mm wide and 22 mm high, within the frame
pub record IsWithinCorner (width height : ℤ) (x x_end y y_end : ℤ) : Type 0 where
  pub left : (width -ℤ pos 19000) ≤ℤ x
  pub right : x_end ≤ℤ (width -ℤ pos 1000)
  pub top : (height -ℤ pos 3200) ≤ℤ y
  pub bottom : y_end ≤ℤ (height -ℤ pos 1000)

abbrev pub IsPointInCorner : ℤ → ℤ → Point → Type 0
IsPointInCorner width height p = IsWithinCorner width height p.x p.x p.y p.y

-- A text is within a rectangle that goes across from x to x_end and downward from y to y_end: it is as wide as in Helvetica, where widths
-- are in thousandths of the size, and it goes up by its size and down by a quarter of it.
pub record IsLabelWithin (x x_end y y_end : ℤ) (l : Label) : Type 0 where
  pub left : x ≤ℤ l.x
  pub right : pos (text_width l.text * l.size) ≤ℤ (pos 1000 *ℤ (x_end -ℤ l.x))
  pub top : y ≤ℤ (l.y -ℤ pos l.size)
  pub bottom : pos l.size ≤ℤ (pos 4 *ℤ (y_end -ℤ l.y))

-- all that an item takes is in the corner; a block has no frame, no path, no area and no arrow
abbrev pub IsInCorner : ℤ → ℤ → Item → Type 0
IsInCorner width height (item.Frame frame) = ⊥
IsInCorner width height (item.Rule rule) = IsPointInCorner width height rule.from × IsPointInCorner width height rule.to
IsInCorner width height (item.Circle c) = IsWithinCorner width height (c.x -ℤ pos c.radius) (c.x +ℤ pos c.radius) (c.y -ℤ pos c.radius) (c.y +ℤ pos c.radius)
IsInCorner width height (item.Label label) = IsLabelWithin (width -ℤ pos 19000) (width -ℤ pos 1000) (height -ℤ pos 3200) (height -ℤ pos 1000) label
IsInCorner width height (item.Path path) = ⊥
IsInCorner width height (item.Fill fill) = ⊥
IsInCorner width height (item.ArrowHead arrow) = ⊥

-- a text is in a cell of the block with this upper left corner
abbrev pub IsLabelInCell : Point → Cell → Label → Type 0
IsLabelInCell corner c l = IsLabelWithin (corner.x +ℤ pos c.x) (corner.x +ℤ pos (c.x + c.width)) (corner.y +ℤ pos c.y) (corner.y +ℤ pos (c.y + c.height)) l

-- an item is a text in this cell
abbrev pub IsInCell : Point → Cell → Item → Type 0
IsInCell corner c (item.Frame frame) = ⊥
IsInCell corner c (item.Rule rule) = ⊥
IsInCell corner c (item.Circle circle) = ⊥
IsInCell corner c (item.Label label) = IsLabelInCell corner c label
IsInCell corner c (item.Path path) = ⊥
IsInCell corner c (item.Fill fill) = ⊥
IsInCell corner c (item.ArrowHead arrow) = ⊥

-- if an item is a text, it is in one of these cells
abbrev pub KeepsToCells : Point → List Said → Item → Type 0
KeepsToCells corner cells (item.Frame frame) = Unit {0}
KeepsToCells corner cells (item.Rule rule) = Unit {0}
KeepsToCells corner cells (item.Circle circle) = Unit {0}
KeepsToCells corner cells (item.Label label) = (e : Said) × Contains cells e × IsLabelInCell corner e.cell label
KeepsToCells corner cells (item.Path path) = Unit {0}
KeepsToCells corner cells (item.Fill fill) = Unit {0}
KeepsToCells corner cells (item.ArrowHead arrow) = Unit {0}

-- a rectangle ends to the left of the corner or above it
abbrev pub EndsBefore : ℤ → ℤ → Box → Type 0
EndsBefore width height box = (box.right ≤ℤ (width -ℤ pos 19000)) ⊎ (box.bottom ≤ℤ (height -ℤ pos 3200))

-- all that an item takes is to the right of this place, or below this height
abbrev pub IsRightOf : ℤ → Item → Type 0
IsRightOf place (item.Frame frame) = ⊥
IsRightOf place (item.Rule rule) = (place ≤ℤ rule.from.x) × (place ≤ℤ rule.to.x)
IsRightOf place (item.Circle c) = place ≤ℤ (c.x -ℤ pos c.radius)
IsRightOf place (item.Label label) = place ≤ℤ label.x
IsRightOf place (item.Path path) = ⊥
IsRightOf place (item.Fill fill) = ⊥
IsRightOf place (item.ArrowHead arrow) = ⊥

abbrev pub IsBelow : ℤ → Item → Type 0
IsBelow level (item.Frame frame) = ⊥
IsBelow level (item.Rule rule) = (level ≤ℤ rule.from.y) × (level ≤ℤ rule.to.y)
IsBelow level (item.Circle c) = level ≤ℤ (c.y -ℤ pos c.radius)
IsBelow level (item.Label label) = level ≤ℤ (label.y -ℤ pos label.size)
IsBelow level (item.Path path) = ⊥
IsBelow level (item.Fill fill) = ⊥
IsBelow level (item.ArrowHead arrow) = ⊥

-- it is clear of a rectangle
abbrev pub IsClearOf : Box → Item → Type 0
IsClearOf box one = IsRightOf box.right one ⊎ IsBelow box.bottom one
