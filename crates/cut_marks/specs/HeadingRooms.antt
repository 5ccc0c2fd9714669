-- How wide a heading may be.
use Rattle.std.specs.Prelude.{ℕ, ◌+◌, ◌-◌, ◌*◌, min, Bool, ◌-ℤ◌, unsigned_abs}
use Rattle.sheet_layout.specs.Seats.{level_side}
use Rattle.sheet_layout.specs.declared.sides.Sides.{Sides}
use Rattle.sheet_plan.specs.declared.boxes.ViewBox.{ViewBox}

-- how wide a box is
abbrev pub box_width : ViewBox → ℕ
box_width b = unsigned_abs (b.right -ℤ b.left)

-- the narrower of the sides to the left and to the right of a box
abbrev pub narrow_side : Bool → Sides → ℕ → ℕ
narrow_side shrunk s width = min (level_side shrunk s.left s.width width) (level_side shrunk s.right s.width width)

-- A heading stands over the middle of its view's box: it is as wide as the box and such a side on both sides, less 5 mm, so that 5 mm are left
-- between headings, but no wider than the widest sheet.
abbrev pub room_over : Bool → Sides → ViewBox → ℕ
room_over shrunk s b = min 118900 ((box_width b + 2 * narrow_side shrunk s (box_width b)) - 500)
