-- The cells of a title block, by how far they are to the right of its upper left corner and below it.
use Rattle.std.specs.Prelude.{ℕ, ◌+◌, ◌-◌, ◌*◌, ◌≤◌}
use Rattle.sheet_page.specs.declared.cells.Cell.{Cell}
use Rattle.sheet_page.specs.declared.cells.Space.{Space}

-- a low cell has its caption on the left, in a column so wide, and its text beside it
abbrev pub low_cell : ℕ → ℕ → ℕ → ℕ → ℕ → Cell
low_cell x y width height column = record {
  x = x;
  y = y;
  width = width;
  height = height;
  caption = record { x = x + 80; y = y + height - 100; width = column - 80; most = 180 };
  text = record { x = x + column; y = y + height - 100; width = width - column - 80; most = height - 110 };
}

-- a tall cell has its caption above its text, whose letters are at most so large
abbrev pub tall_cell : ℕ → ℕ → ℕ → ℕ → ℕ → Cell
tall_cell x y width height most = record {
  x = x;
  y = y;
  width = width;
  height = height;
  caption = record { x = x + 80; y = y + 200; width = width - 160; most = 180 };
  text = record { x = x + 80; y = y + height - 130; width = width - 160; most = most };
}

-- a space is in a cell, with room above its base line for its largest letters and below it for a quarter of them
pub record IsSpaceIn (c : Cell) (s : Space) : Type 0 where
  pub left : c.x ≤ s.x
  pub right : s.x + s.width ≤ c.x + c.width
  pub top : c.y + s.most ≤ s.y
  pub bottom : 4 * s.y + s.most ≤ 4 * (c.y + c.height)

-- a cell is in the block, which is 180 mm wide and 22 mm high, and its spaces are in the cell
pub record IsCell (c : Cell) : Type 0 where
  pub right : c.x + c.width ≤ 18000
  pub bottom : c.y + c.height ≤ 2200
  pub caption : IsSpaceIn c c.caption
  pub text : IsSpaceIn c c.text
