-- A heading's label is within its view's box with its sides; and no two such boxes overlap.
use Rattle.std.proofs.Common.{◌≡◌, inl, inr, ℕ, ◌*◌, ◌/◌, ◌≤◌, max, Bool, true, false, arith}
use Rattle.std.specs.Prelude.{ℤ, pos, ◌+ℤ◌, ◌-ℤ◌, ◌<ℤ◌, ◌≤ℤ◌}
use Rattle.std.proofs.lemmas.Int.{ints}
use Rattle.sheet_layout.specs.Keeps.{AreApart}
use Rattle.sheet_layout.specs.Seats.{half_lacking, level_side, side_or_least}
use Rattle.sheet_plan.specs.Boxes.{Box}
use Rattle.text_fit.specs.Widths.{text_width}
use Rattle.sheet_page.specs.declared.page.Label.{Label}
use Rattle.cut_marks.specs.Items.{IsLabelInRoom}
use Rattle.cut_marks.specs.Reach.{AreClear, IsHeadingWithin, IsInside, room_start, room_end}
use Rattle.cut_marks.specs.declared.figures.Heading.{Heading}

-- ---- no side is narrower than 7.5 mm
pub side_least : (shrunk : Bool) (asked : ℕ) → 750 ≤ side_or_least shrunk asked
side_least true asked = omega arith
side_least false asked = omega arith

pub level_least : (shrunk : Bool) (asked whole width : ℕ) → 750 ≤ level_side shrunk asked whole width
level_least shrunk asked whole width = side_least shrunk (max asked (half_lacking whole width))

-- ---- the label of a heading is within them
pub label_inside : (around : Box) (h : Heading) (l : Label) → IsHeadingWithin around h → IsLabelInRoom h l → IsInside around l.x (l.x +ℤ pos (text_width l.text * l.size / 1000)) (l.y -ℤ pos l.size) (l.y +ℤ pos 150)
label_inside around h l within room = record {
  left = starts around.left (room_start h) l.x within.left room.left;
  right = ends (l.x +ℤ pos (text_width l.text * l.size / 1000)) (room_end h) around.right room.right within.right;
  top = above around.top h.y l.y l.size within.top room.base room.small;
  bottom = beneath around.bottom h.y l.y within.bottom room.base;
}
  where
    starts : (a b c : ℤ) → (a +ℤ pos 250) ≤ℤ b → b ≤ℤ c → a <ℤ c
    starts a b c h k = omega (arith, ints)

    ends : (a b c : ℤ) → a ≤ℤ b → b ≤ℤ (c -ℤ pos 250) → a <ℤ c
    ends a b c h k = omega (arith, ints)

    above : (top y at : ℤ) (size : ℕ) → top <ℤ (y -ℤ pos 500) → at ≡ y → size ≤ 500 → top <ℤ (at -ℤ pos size)
    above top y at size h same small = omega (arith, ints, same)

    beneath : (bottom y at : ℤ) → (y +ℤ pos 150) <ℤ bottom → at ≡ y → (at +ℤ pos 150) <ℤ bottom
    beneath bottom y at h same = omega (arith, ints, same)

-- ---- what is within two boxes that don't overlap is clear of one another
between : (m n p q : ℤ) → m <ℤ n → n ≤ℤ p → p <ℤ q → m <ℤ q
between m n p q h i k = omega (arith, ints)

pub clear : (a b : Box) → AreApart a b → (l r t u l' r' t' u' : ℤ) → IsInside a l r t u → IsInside b l' r' t' u' → AreClear l r t u l' r' t' u'
clear a b (inl e) l r t u l' r' t' u' h k = inl (between r a.right b.left l' h.right e k.left)
clear a b (inr (inl e)) l r t u l' r' t' u' h k = inr (inl (between r' b.right a.left l k.right e h.left))
clear a b (inr (inr (inl e))) l r t u l' r' t' u' h k = inr (inr (inl (between u a.bottom b.top t' h.bottom e k.top)))
clear a b (inr (inr (inr e))) l r t u l' r' t' u' h k = inr (inr (inr (between u' b.bottom a.top t k.bottom e h.top)))
