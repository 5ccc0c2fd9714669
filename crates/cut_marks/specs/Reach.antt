-- That marks and headings stay within the sides of their view, and that marks touch neither it nor one another.
use Rattle.std.specs.Prelude.{◌≡◌, ◌⊎◌, ℕ, ◌/◌, Bool, ℤ, pos, ◌+ℤ◌, ◌-ℤ◌, ◌<ℤ◌, ◌≤ℤ◌, List, All, AllPairs, Some, IfSome, slice_get}
use Rattle.lattice.specs.declared.points.Corner.{Corner}
use Rattle.sheet_plan.specs.declared.sheet.Sheet.{Sheet}
use Rattle.sheet_plan.specs.Boxes.{Box, TakesBox, box_of}
use Rattle.sheet_layout.specs.Keeps.{with_sides}
use Rattle.sheet_layout.specs.declared.sides.Sides.{Sides}
use Rattle.cut_marks.specs.Areas.{area_of, areas_of}
use Rattle.cut_marks.specs.declared.areas.Area.{Area}
use Rattle.sheet_plan.specs.declared.boxes.ViewBox.{ViewBox}
use Rattle.cut_marks.specs.declared.figures.Heading.{Heading}
use Rattle.cut_marks.specs.declared.figures.CutMark.{CutMark}
use Rattle.cut_marks.specs.declared.views.ViewMarks.{ViewMarks}

-- what goes across from x to x_end and downward from y to y_end ends within a box
pub record IsInside (around : Box) (x x_end y y_end : ℤ) : Type 0 where
  pub left : around.left <ℤ x
  pub right : x_end <ℤ around.right
  pub top : around.top <ℤ y
  pub bottom : y_end <ℤ around.bottom

-- of two figures one ends before the other begins, across or downward
abbrev pub AreClear : (x x_end y y_end : ℤ) → (other_x other_x_end other_y other_y_end : ℤ) → Type 0
AreClear x x_end y y_end other_x other_x_end other_y other_y_end = (x_end <ℤ other_x) ⊎ (other_x_end <ℤ x) ⊎ (y_end <ℤ other_y) ⊎ (other_y_end <ℤ y)

-- ---- marks
abbrev pub IsWithin : Box → Area → Type 0
IsWithin room a = IsInside room a.left a.right a.top a.bottom

abbrev pub IsClearOf : Area → Area → Type 0
IsClearOf a c = AreClear a.left a.right a.top a.bottom c.left c.right c.top c.bottom

-- all that a mark takes at its ends is within the box with its sides and clear of the box itself, which only the chain line crosses
pub record IsMarkPlaced (own room : Box) (m : CutMark) : Type 0 where
  pub within : All (IsWithin room) (areas_of m)
  pub off_view : All (λ a. IsClearOf a (area_of own)) (areas_of m)

-- the strong ends, the arrows and the letters of each mark are clear of the other's
abbrev pub AreApart : CutMark → CutMark → Type 0
AreApart m n = All (λ a. All (IsClearOf a) (areas_of n)) (areas_of m)

-- in no view two marks touch
abbrev pub NoneTouch : List ViewMarks → Type 0
NoneTouch all = All (λ view. AllPairs AreApart view.marks.items) all

-- ---- headings
-- where the room of a heading begins, whose middle is that of the heading's base line
abbrev pub room_start : Heading → ℤ
room_start h = h.x -ℤ pos (h.room / 2)

abbrev pub room_end : Heading → ℤ
room_end h = room_start h +ℤ pos h.room

-- a heading, which takes its room across, 5 mm above its base line and 1.5 mm beneath, is within a box, with 2.5 mm left on both sides
pub record IsHeadingWithin (around : Box) (h : Heading) : Type 0 where
  pub left : (around.left +ℤ pos 250) ≤ℤ room_start h
  pub right : room_end h ≤ℤ (around.right -ℤ pos 250)
  pub top : around.top <ℤ (h.y -ℤ pos 500)
  pub bottom : (h.y +ℤ pos 150) <ℤ around.bottom

-- the marks of the view with this number are placed well, and its heading is within the box with its sides
pub record IsViewInReach (sheet : Sheet) (corners : List Corner) (sides : List Sides) (shrunk : Bool) (view : ℕ) (m : ViewMarks) : Type 0 where
  pub box : ViewBox
  pub is_box : TakesBox sheet corners view (box_of box)
  pub asked : Sides
  pub listed : slice_get sides view ≡ Some asked
  pub heading : IfSome m.heading (IsHeadingWithin (with_sides shrunk asked (box_of box)))
  pub marks : All (IsMarkPlaced (box_of box) (with_sides shrunk asked (box_of box))) m.marks.items

-- and so in each view
abbrev pub AreInReach : Sheet → List Corner → List Sides → Bool → List ViewMarks → Type 0
AreInReach sheet corners sides shrunk all = (view : ℕ) (m : ViewMarks) → slice_get all view ≡ Some m → IsViewInReach sheet corners sides shrunk view m
