-- Marks that stand well: each is within the box of its view with its sides and clear of the box, and no two touch.
use Rattle.std.proofs.Common.{◌≡◌, ◌⊎◌, inl, inr, Bool, true, false, List, [], ◌∷◌, All, refl, sym, subst, arith}
use Rattle.std.specs.Prelude.{ℕ, ℤ, int_lt, ◌<ℤ◌, ◌||◌, AllPairs}
use Rattle.std.specs.List.{list_all}
use Rattle.std.proofs.lemmas.Int.{ints}
use Rattle.std.proofs.lemmas.List.Elements.{All-nil, All-push, All-weaker}
use Rattle.std.proofs.lemmas.List.Kept.{AllPairs-cons}
use Rattle.std.proofs.lemmas.List.Sums.{AllPass-from_list_all}
use Rattle.job_file.specs.declared.view.JobView.{JobView}
use Rattle.lattice.specs.declared.cuts.Cut.{Cut}
use Rattle.lattice.specs.declared.pieces.ViewSpec.{ViewSpec}
use Rattle.lattice.specs.declared.pieces.ViewSpec.TheVariants.{Plain, Section}
use Rattle.geometry.specs.Parts.{Part}
use Rattle.sheet_layout.specs.Keeps.{with_sides}
use Rattle.sheet_layout.specs.declared.sides.Sides.{Sides}
use Rattle.sheet_plan.specs.Boxes.{Box, box_of}
use Rattle.sheet_plan.specs.declared.sheet.Sheet.{Sheet}
use Rattle.cut_marks.specs.Areas.{area_of, areas_of, are_apart, are_separate, is_between, is_clear, is_inside, is_off, is_placed_well, none_touch, stand_well}
use Rattle.cut_marks.specs.Figures.{marks_in}
use Rattle.cut_marks.specs.Marks.{IsMarked, AreMarked}
use Rattle.cut_marks.specs.Marks.AreMarked.{none, more}
use Rattle.cut_marks.specs.Reach.{AreApart, IsClearOf, IsMarkPlaced, IsWithin, NoneTouch}
use Rattle.cut_marks.specs.declared.areas.Area.{Area}
use Rattle.cut_marks.specs.declared.figures.CutMark.{CutMark}
use Rattle.cut_marks.specs.declared.views.ViewMarks.{ViewMarks}
use Rattle.cut_marks.proofs.Placed.{both, told_well}

either : (p q : Bool) → (p || q) ≡ true → (p ≡ true) ⊎ (q ≡ true)
either true q e = inl refl
either false q e = inr e

less : (m n : ℤ) → int_lt m n ≡ true → m <ℤ n
less m n e = omega (arith, ints, e)

clear : (a c : Area) → is_clear a c ≡ true → IsClearOf a c
clear a c e = either_way (either (are_separate a.left a.right c.left c.right) (are_separate a.top a.bottom c.top c.bottom) e)
  where
    across : (int_lt a.right c.left ≡ true) ⊎ (int_lt c.right a.left ≡ true) → IsClearOf a c
    across (inl h) = inl (less a.right c.left h)
    across (inr h) = inr (inl (less c.right a.left h))

    down : (int_lt a.bottom c.top ≡ true) ⊎ (int_lt c.bottom a.top ≡ true) → IsClearOf a c
    down (inl h) = inr (inr (inl (less a.bottom c.top h)))
    down (inr h) = inr (inr (inr (less c.bottom a.top h)))

    either_way : (are_separate a.left a.right c.left c.right ≡ true) ⊎ (are_separate a.top a.bottom c.top c.bottom ≡ true) → IsClearOf a c
    either_way (inl h) = across (either (int_lt a.right c.left) (int_lt c.right a.left) h)
    either_way (inr h) = down (either (int_lt a.bottom c.top) (int_lt c.bottom a.top) h)

apart : (m n : CutMark) → are_apart m n ≡ true → AreApart m n
apart m n e =
    All-weaker (λ a. list_all (is_clear a) (areas_of n) ≡ true) (λ a. All (IsClearOf a) (areas_of n))
    (λ a h. All-weaker (λ c. is_clear a c ≡ true) (IsClearOf a) (clear a) (areas_of n) (AllPass-from_list_all (is_clear a) (areas_of n) h))
    (areas_of m) (AllPass-from_list_all (λ a. list_all (is_clear a) (areas_of n)) (areas_of m) e)

all_apart : (marks : List CutMark) → none_touch marks ≡ true → AllPairs AreApart marks
all_apart [] e = λ i j d before within. absurd (omega arith)
all_apart (m ∷ rest) e =
    let (here, later) = both (list_all (are_apart m) rest) (none_touch rest) e in
    AllPairs-cons AreApart m rest (All-weaker (λ n. are_apart m n ≡ true) (AreApart m) (apart m) rest (AllPass-from_list_all (are_apart m) rest here)) (all_apart rest later)

-- ---- within the room, and off the view
module _ (own room : Box) where
  within : (a : Area) → is_inside (area_of room) a ≡ true → IsWithin room a
  within a e =
      let (across, down) = both (is_between room.left room.right a.left a.right) (is_between room.top room.bottom a.top a.bottom) e in
      let (left, right) = both (int_lt room.left a.left) (int_lt a.right room.right) across in
      let (top, bottom) = both (int_lt room.top a.top) (int_lt a.bottom room.bottom) down in
      record { left = less room.left a.left left; right = less a.right room.right right; top = less room.top a.top top; bottom = less a.bottom room.bottom bottom }

  parts : (a : Area) → is_off (area_of own) (area_of room) a ≡ true → (is_inside (area_of room) a ≡ true) × (is_clear a (area_of own) ≡ true)
  parts a e = both (is_inside (area_of room) a) (is_clear a (area_of own)) e

  mark_placed : (m : CutMark) → is_placed_well (area_of own) (area_of room) m ≡ true → IsMarkPlaced own room m
  mark_placed m e =
      let all = AllPass-from_list_all (is_off (area_of own) (area_of room)) (areas_of m) e in
      record {
        within = All-weaker (λ a. is_off (area_of own) (area_of room) a ≡ true) (IsWithin room) (λ a h. within a (parts a h).0) (areas_of m) all;
        off_view = All-weaker (λ a. is_off (area_of own) (area_of room) a ≡ true) (λ a. IsClearOf a (area_of own)) (λ a h. clear a (area_of own) (parts a h).1) (areas_of m) all;
      }

  pub all_placed : (marks : List CutMark) → stand_well (area_of own) (area_of room) marks ≡ true → All (IsMarkPlaced own room) marks
  all_placed marks e =
      All-weaker (λ m. is_placed_well (area_of own) (area_of room) m ≡ true) (IsMarkPlaced own room) mark_placed marks
      (AllPass-from_list_all (is_placed_well (area_of own) (area_of room)) marks (both (list_all (is_placed_well (area_of own) (area_of room)) marks) (none_touch marks) e).0)

pub none_touching : (own room : Area) (marks : List CutMark) → stand_well own room marks ≡ true → AllPairs AreApart marks
none_touching own room marks e = all_apart marks (both (list_all (is_placed_well own room) marks) (none_touch marks) e).1

-- ---- a job
module _ (sheet : Sheet) (sides : List Sides) (shrunk : Bool) (s : Part) (cuts : List Cut) where
  of_view : (view number : ℕ) (spec : ViewSpec) (m : ViewMarks) → IsMarked sheet sides shrunk s cuts view number spec m → AllPairs AreApart m.marks.items
  of_view view number (Plain d) m h =
      let room = area_of (with_sides shrunk h.asked (box_of h.box)) in
      subst (AllPairs AreApart) (sym h.marks) (none_touching (area_of (box_of h.box)) room (marks_in h.box h.laned) (told_well h.box room h.traces h.laned m.left_out.items h.are_laned))
  of_view view number (Section c) m h = subst (AllPairs AreApart) (sym h.no_marks) (all_apart [] refl)

  pub marked_apart : (views : List JobView) (all : List ViewMarks) → AreMarked sheet sides shrunk s cuts views all → NoneTouch all
  marked_apart _ _ none = All-nil (λ view. AllPairs AreApart view.marks.items)
  marked_apart _ _ (more views v all m are is) =
      All-push (λ view. AllPairs AreApart view.marks.items) all m (marked_apart views all are) (of_view _ _ v.spec m is)
