-- What a layout keeps: boxes with their sides are apart, within the frame and clear of the title block; views of one row or column are in line;
-- and a cut in projection is on the side of its direction.
use Rattle.std.specs.Prelude.{◌≡◌, ◌≢◌, ◌⊎◌, ℕ, Bool, false, pos, ◌+ℤ◌, ◌-ℤ◌, ◌≤ℤ◌, unsigned_abs, List, length, Some, slice_get}
use Rattle.lattice.specs.declared.points.Corner.{Corner}
use Rattle.lattice.specs.Points.{of_dir}
use Rattle.job_file.specs.Seen.{direction_seen}
use Rattle.job_file.specs.declared.view.JobView.{JobView}
use Rattle.sheet_plan.specs.Boxes.{Box, TakesBox}
use Rattle.sheet_plan.specs.Sheets.{IsPlaceOf}
use Rattle.sheet_plan.specs.declared.sheet.Sheet.{Sheet}
use Rattle.sheet_plan.specs.declared.sheet.Spread.{Spread}
use Rattle.sheet_layout.specs.Blocks.{in_column, in_row}
use Rattle.sheet_layout.specs.Seats.{level_side, side_or_least}
use Rattle.sheet_layout.specs.declared.cells.Beside.{Beside}
use Rattle.sheet_layout.specs.declared.cells.Side.{Side}
use Rattle.sheet_layout.specs.declared.cells.Side.TheVariants.{Left, Right, Top, Bottom}
use Rattle.sheet_layout.specs.declared.seats.Seat.{Seat}
use Rattle.sheet_layout.specs.declared.layout.Layout.{Layout}
use Rattle.sheet_layout.specs.declared.sides.Sides.{Sides}

-- a box with its sides
abbrev pub with_sides : Bool → Sides → Box → Box
with_sides shrunk s box =
    let width = unsigned_abs (box.right -ℤ box.left) in
    record {
      left = box.left -ℤ pos (level_side shrunk s.left s.width width);
      right = box.right +ℤ pos (level_side shrunk s.right s.width width);
      top = box.top -ℤ pos (side_or_least shrunk s.top);
      bottom = box.bottom +ℤ pos (side_or_least shrunk s.bottom);
    }

-- the view with this number takes this box with the sides that it asks for
pub record TakesRoom (layout : Layout) (corners : List Corner) (sides : List Sides) (view : ℕ) (room : Box) : Type 0 where
  pub box : Box
  pub asked : Sides
  pub taken : TakesBox layout.sheet corners view box
  pub listed : slice_get sides view ≡ Some asked
  pub is : room ≡ with_sides layout.shrunk asked box

-- no two such boxes overlap
abbrev pub AreApart : Box → Box → Type 0
AreApart a b = (a.right ≤ℤ b.left) ⊎ (b.right ≤ℤ a.left) ⊎ (a.bottom ≤ℤ b.top) ⊎ (b.bottom ≤ℤ a.top)

abbrev pub KeepsApart : List Corner → List Sides → Layout → Type 0
KeepsApart corners sides layout = (i j : ℕ) (a b : Box) → i ≢ j → TakesRoom layout corners sides i a → TakesRoom layout corners sides j b → AreApart a b

-- a box is within the frame, 10 mm from the edges, and above the title block or beside it
pub record IsInFrame (sheet : Sheet) (box : Box) : Type 0 where
  pub left : pos 1000 ≤ℤ box.left
  pub right : box.right ≤ℤ (sheet.width -ℤ pos 1000)
  pub top : pos 1000 ≤ℤ box.top
  pub bottom : box.bottom ≤ℤ (sheet.height -ℤ pos 1000)
  pub clear : (box.right ≤ℤ (sheet.width -ℤ pos 19000)) ⊎ (box.bottom ≤ℤ (sheet.height -ℤ pos 3200))

abbrev pub StandsInFrame : List Corner → List Sides → Layout → Type 0
StandsInFrame corners sides layout = (view : ℕ) (room : Box) → TakesRoom layout corners sides view room → IsInFrame layout.sheet room

-- ---- in line
-- two views of one block: if neither is in its column alone their origins have one y, and if neither is in its row alone one x
pub record AreInLine (s t : Seat) (a b : Spread) : Type 0 where
  pub level : in_column s.cell.line ≡ false → in_column t.cell.line ≡ false → a.y0 ≡ b.y0
  pub upright : in_row s.cell.line ≡ false → in_row t.cell.line ≡ false → a.x0 ≡ b.x0

abbrev pub KeepsInLine : List Seat → Layout → Type 0
KeepsInLine seats layout =
    (i j : ℕ) (s t : Seat) (a b : Spread) → i ≢ j → slice_get seats i ≡ Some s → slice_get seats j ≡ Some t → s.cell.block ≡ t.cell.block
    → IsPlaceOf layout.sheet i a → IsPlaceOf layout.sheet j b → AreInLine s t a b

-- the second is on that side of the first
abbrev pub IsOnSide : Side → Box → Box → Type 0
IsOnSide Left a b = b.right ≤ℤ a.left
IsOnSide Right a b = a.right ≤ℤ b.left
IsOnSide Top a b = b.bottom ≤ℤ a.top
IsOnSide Bottom a b = a.bottom ≤ℤ b.top

-- a view that stands beside another is on that side of it
abbrev pub KeepsSides : List Corner → List Sides → List Seat → Layout → Type 0
KeepsSides corners sides seats layout =
    (i : ℕ) (s : Seat) (at : Beside) (a b : Box) → slice_get seats i ≡ Some s → s.cell.beside ≡ Some at → TakesRoom layout corners sides at.view a → TakesRoom layout corners sides i b
    → IsOnSide at.side a b

-- ---- places
-- each view of the job has its place, along its direction
pub record HasPlaceForEach (views : List JobView) (layout : Layout) : Type 0 where
  pub count : length layout.sheet.places.items ≡ length views
  pub direction : (n : ℕ) (view : JobView) (place : Spread) → slice_get views n ≡ Some view → IsPlaceOf layout.sheet n place → of_dir place.d ≡ direction_seen view.spec
