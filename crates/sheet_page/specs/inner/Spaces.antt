-- Labels in their spaces, and what cells say in them.
use Rattle.std.specs.Prelude.{◌≡◌, ◌≤◌, List, ◌++◌}
use Rattle.std.specs.List.{All, flat_map}
use Rattle.text_fit.specs.Fits.{Fits}
use Rattle.text_fit.specs.Widths.{text_width}
use Rattle.stroke_paths.specs.declared.path.Point.{Point}
use Rattle.sheet_page.specs.declared.cells.Space.{Space}
use Rattle.sheet_page.specs.declared.page.Item.{Item}
use Rattle.sheet_page.specs.declared.page.Item.TheVariants as item
use Rattle.sheet_page.specs.declared.page.Label.{Label}
use Rattle.sheet_page.specs.Cells.{IsCell}
use Rattle.sheet_page.specs.Corners.{IsInCell}
use Rattle.sheet_page.specs.Labels.{Said, cell_items}
use Rattle.sheet_page.specs.Rules.{point_from}

-- a label begins where its space does, is no wider, and has no larger letters
pub record IsLabelInSpace (corner : Point) (s : Space) (l : Label) : Type 0 where
  pub x : l.x ≡ (point_from corner s.x s.y).x
  pub y : l.y ≡ (point_from corner s.x s.y).y
  pub fits : Fits s.width l.size (text_width l.text)
  pub small : l.size ≤ s.most

abbrev pub IsInSpace : Point → Space → Item → Type 0
IsInSpace corner s (item.Frame frame) = ⊥
IsInSpace corner s (item.Rule rule) = ⊥
IsInSpace corner s (item.Circle circle) = ⊥
IsInSpace corner s (item.Label label) = IsLabelInSpace corner s label
IsInSpace corner s (item.Path path) = ⊥
IsInSpace corner s (item.Fill fill) = ⊥
IsInSpace corner s (item.ArrowHead arrow) = ⊥

-- a cell is one of the block, and what it says is in it
pub record SaysInside (corner : Point) (e : Said) : Type 0 where
  pub is_cell : IsCell e.cell
  pub inside : All (IsInCell corner e.cell) (cell_items corner e)

abbrev pub AreInCells : Point → List Said → Type 0
AreInCells corner cells = All (SaysInside corner) cells

-- what these cells say is added to some items, and is in them
pub record AddsCells (corner : Point) (before : List Item) (cells : List Said) (after : List Item) : Type 0 where
  pub items : after ≡ before ++ flat_map (cell_items corner) cells
  pub inside : AreInCells corner cells
