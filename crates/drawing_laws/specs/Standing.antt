-- What stands in the box of a view.
use Rattle.std.specs.Prelude.{ℤ, ◌≤ℤ◌}
use Rattle.sheet_plan.specs.Boxes.{Box}
use Rattle.sheet_plan.specs.declared.sheet.Stroke.{Stroke}

-- the point of the sheet is in the box, or on its sides
pub record IsInBox (box : Box) (x y : ℤ) : Type 0 where
  pub left : box.left ≤ℤ x
  pub right : x ≤ℤ box.right
  pub top : box.top ≤ℤ y
  pub bottom : y ≤ℤ box.bottom

-- both ends of the stroke are
pub record StandsInBox (box : Box) (s : Stroke) : Type 0 where
  pub first : IsInBox box s.x1 s.y1
  pub second : IsInBox box s.x2 s.y2
