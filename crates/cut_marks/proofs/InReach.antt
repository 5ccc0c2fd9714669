-- What tells the cuts of a job is within the sides of the views; and headings are far within the range of numbers.
use Rattle.std.proofs.Common.{◌≡◌, ◌⊎◌, inl, inr, ◌+◌, ◌-◌, ◌*◌, ◌<◌, ◌≤◌, ◌/◌, ◌^◌, min, ℕ, Bool, List, [], ◌∷◌, Option, Some, IfSome, length, slice_get, unsigned_abs, refl, sym, subst, ◌∙◌, length-append, arith}
use Rattle.std.specs.Prelude.{ℤ, pos, ◌+ℤ◌, ◌-ℤ◌, ◌*ℤ◌, ◌<ℤ◌, ◌≤ℤ◌}
use Rattle.std.proofs.lemmas.Int.{ints}
use Rattle.std.proofs.lemmas.List.Elements.{All-nil, All-same}
use Rattle.integers.specs.Floors.{floor_of}
use Rattle.integers.proofs.Floors.{floor_of-is}
use Rattle.integers.proofs.Lists.{slice_get_push}
use Rattle.job_file.specs.declared.view.JobView.{JobView}
use Rattle.lattice.specs.declared.cuts.Cut.{Cut}
use Rattle.lattice.specs.declared.pieces.ViewSpec.{ViewSpec}
use Rattle.lattice.specs.declared.pieces.ViewSpec.TheVariants.{Plain, Section}
use Rattle.geometry.specs.Parts.{Part}
use Rattle.sheet_plan.specs.declared.sheet.Sheet.{Sheet}
use Rattle.sheet_plan.specs.Boxes.{box_of}
use Rattle.cut_marks.specs.Areas.{area_of}
use Rattle.cut_marks.specs.Figures.{marks_in, heading_over}
use Rattle.cut_marks.specs.HeadingRooms.{room_over, box_width}
use Rattle.lattice.specs.Cuts.{Plane, plane_of}
use Rattle.job_file.specs.ShownCuts.{cuts_in}
use Rattle.cut_marks.specs.Marks.{IsHeaded, ArePlainMarks, IsCutView, IsMarked, AreMarked}
use Rattle.cut_marks.specs.Marks.AreMarked.{none as none_marked, more as more_marked}
use Rattle.cut_marks.specs.Ranges.{IsHeadingInRange}
use Rattle.cut_marks.specs.Reach.{IsMarkPlaced, IsHeadingWithin, IsViewInReach, AreInReach}
use Rattle.sheet_layout.specs.Keeps.{with_sides}
use Rattle.sheet_layout.specs.Seats.{level_side, side_or_least}
use Rattle.sheet_layout.specs.declared.sides.Sides.{Sides}
use Rattle.sheet_plan.specs.declared.boxes.ViewBox.{ViewBox}
use Rattle.cut_marks.specs.declared.figures.Heading.{Heading}
use Rattle.cut_marks.specs.declared.views.ViewMarks.{ViewMarks}
use Rattle.cut_marks.proofs.Apart.{all_placed}
use Rattle.cut_marks.proofs.BoxOrder.{box_across, box_down}
use Rattle.cut_marks.proofs.Placed.{told_well}
use Rattle.cut_marks.proofs.WithSides.{level_least, side_least}

-- ---- a heading
module _ (shrunk : Bool) (s : Sides) (b : ViewBox) (across : b.left ≤ℤ b.right) (down : b.top ≤ℤ b.bottom) where
  abbrev to_left : ℕ
  to_left = level_side shrunk s.left s.width (box_width b)

  abbrev to_right : ℕ
  to_right = level_side shrunk s.right s.width (box_width b)

  narrower : (l r : ℤ) (left right room : ℕ) → l ≤ℤ r → 750 ≤ left → 750 ≤ right → room ≡ min 118900 ((unsigned_abs (r -ℤ l) + 2 * min left right) - 500)
      → (pos (room + 500) ≤ℤ (r -ℤ l +ℤ pos (left + left))) × (pos (room + 500) ≤ℤ (r -ℤ l +ℤ pos (right + right)))
  narrower l r left right room ordered wide wide_too is = (omega (arith, ints, is), omega (arith, ints, is))

  start : (l r x : ℤ) (side room : ℕ) → pos (room + 500) ≤ℤ (r -ℤ l +ℤ pos (side + side)) → (l +ℤ r) <ℤ (x *ℤ pos 2 +ℤ pos 2) → (l -ℤ pos side +ℤ pos 250) ≤ℤ (x -ℤ pos (room / 2))
  start l r x side room wide high = omega (arith, ints)

  end : (l r x : ℤ) (side room : ℕ) → pos (room + 500) ≤ℤ (r -ℤ l +ℤ pos (side + side)) → (x *ℤ pos 2) ≤ℤ (l +ℤ r) → (x -ℤ pos (room / 2) +ℤ pos room) ≤ℤ (r +ℤ pos side -ℤ pos 250)
  end l r x side room wide low = omega (arith, ints)

  over_middle : (letter : ℕ) (c : Plane) (has : Bool) → IsHeadingWithin (with_sides shrunk s (box_of b)) (heading_over b (room_over shrunk s b) letter c has)
  over_middle letter c has =
      let f = floor_of-is (b.left +ℤ b.right) (pos 2) (omega (arith, ints)) in
      let (left, right) = narrower b.left b.right to_left to_right (room_over shrunk s b) across (level_least shrunk s.left s.width (box_width b)) (level_least shrunk s.right s.width (box_width b)) refl in
      record {
        left = start b.left b.right (floor_of (b.left +ℤ b.right) (pos 2)) to_left (room_over shrunk s b) left f.rest_below;
        right = end b.left b.right (floor_of (b.left +ℤ b.right) (pos 2)) to_right (room_over shrunk s b) right f.at_most;
        top = above b.top (side_or_least shrunk s.top) (side_least shrunk s.top);
        bottom = beneath b.top b.bottom (side_or_least shrunk s.bottom) down (side_least shrunk s.bottom);
      }
    where
      above : (t : ℤ) (side : ℕ) → 750 ≤ side → (t -ℤ pos side) <ℤ (t -ℤ pos 200 -ℤ pos 500)
      above t side h = omega (arith, ints)

      beneath : (t u : ℤ) (side : ℕ) → t ≤ℤ u → 750 ≤ side → (t -ℤ pos 200 +ℤ pos 150) <ℤ (u +ℤ pos side)
      beneath t u side ordered h = omega (arith, ints)

module _ (sheet : Sheet) (sides : List Sides) (shrunk : Bool) (s : Part) where
  heading_within : (view number : ℕ) (c : Cut) (h : Heading) → (is : IsHeaded sheet sides shrunk s view number c h) → IsHeadingWithin (with_sides shrunk is.asked (box_of is.box)) h
  heading_within view number c h is =
      subst (IsHeadingWithin (with_sides shrunk is.asked (box_of is.box))) (sym is.over)
      (over_middle shrunk is.asked is.box (box_across sheet s.corners view is.box is.is_box) (box_down sheet s.corners view is.box is.is_box) h.letter (plane_of c) h.has_section)

-- ---- what is over a view's box is in range
over_in_range : (b : ViewBox) (room letter : ℕ) (c : Plane) (has : Bool) → unsigned_abs c.at ≤ 2 ^ 20 → IsHeadingInRange (heading_over b room letter c has)
over_in_range b room letter c has small =
    let f = floor_of-is (b.left +ℤ b.right) (pos 2) (omega (arith, ints)) in
    record {
      x = middle b.left b.right (floor_of (b.left +ℤ b.right) (pos 2)) b.left_in_range b.right_in_range f.at_most f.rest_below;
      y = higher b.top b.top_in_range;
      at = small;
    }
  where
    middle : (l r x : ℤ) → unsigned_abs l < 2 ^ 61 → unsigned_abs r < 2 ^ 61 → (x *ℤ pos 2) ≤ℤ (l +ℤ r) → (l +ℤ r) <ℤ (x *ℤ pos 2 +ℤ pos 2) → unsigned_abs x < 2 ^ 62
    middle l r x f g low high = omega (arith, ints)

    higher : (t : ℤ) → unsigned_abs t < 2 ^ 61 → unsigned_abs (t -ℤ pos 200) < 2 ^ 62
    higher t h = omega (arith, ints)

pub headed_in_range : (sheet : Sheet) (sides : List Sides) (shrunk : Bool) (s : Part) (view number : ℕ) (c : Cut) (h : Heading) → IsHeaded sheet sides shrunk s view number c h → IsHeadingInRange h
headed_in_range sheet sides shrunk s view number c h is =
    subst IsHeadingInRange (sym is.over) (over_in_range is.box (room_over shrunk is.asked is.box) h.letter (plane_of c) h.has_section c.in_range)

-- ---- a job
module _ (sheet : Sheet) (sides : List Sides) (shrunk : Bool) (s : Part) (cuts : List Cut) where
  as_many : (views : List JobView) (all : List ViewMarks) → AreMarked sheet sides shrunk s cuts views all → length all ≡ length views
  as_many _ _ none_marked = refl
  as_many _ _ (more_marked views v all m are is) = omega (arith, length-append all (m ∷ []), length-append views (v ∷ []), as_many views all are)

  of_plain : (view : ℕ) (m : ViewMarks) → ArePlainMarks sheet sides shrunk s cuts view m → IsViewInReach sheet s.corners sides shrunk view m
  of_plain view m h =
      let own = box_of h.box in
      let room = with_sides shrunk h.asked own in
      record {
        box = h.box;
        is_box = h.is_box;
        asked = h.asked;
        listed = h.listed;
        heading = subst (λ (o : Option Heading). IfSome o (IsHeadingWithin (with_sides shrunk h.asked (box_of h.box)))) (sym h.unheaded) tt;
        marks = All-same (IsMarkPlaced own room) m.marks.items (marks_in h.box h.laned) h.marks
            (all_placed own room (marks_in h.box h.laned) (told_well h.box (area_of room) h.traces h.laned m.left_out.items h.are_laned));
      }

  of_cut : (view number : ℕ) (c : Cut) (m : ViewMarks) → IsCutView sheet sides shrunk s view number c m → IsViewInReach sheet s.corners sides shrunk view m
  of_cut view number c m h = record {
    box = h.is.box;
    is_box = h.is.is_box;
    asked = h.is.asked;
    listed = h.is.listed;
    heading = subst (λ (o : Option Heading). IfSome o (IsHeadingWithin (with_sides shrunk h.is.asked (box_of h.is.box)))) (sym h.headed) (heading_within sheet sides shrunk s view number c h.heading h.is);
    marks = All-same (IsMarkPlaced (box_of h.is.box) (with_sides shrunk h.is.asked (box_of h.is.box))) m.marks.items [] h.no_marks (All-nil (IsMarkPlaced (box_of h.is.box) (with_sides shrunk h.is.asked (box_of h.is.box))));
  }

  of_view : (view number : ℕ) (spec : ViewSpec) (m : ViewMarks) → IsMarked sheet sides shrunk s cuts view number spec m → IsViewInReach sheet s.corners sides shrunk view m
  of_view view number (Plain d) m h = of_plain view m h
  of_view view number (Section c) m h = of_cut view number c m h

  pub marked_in_reach : (views : List JobView) (all : List ViewMarks) → AreMarked sheet sides shrunk s cuts views all → AreInReach sheet s.corners sides shrunk all
  marked_in_reach _ _ none_marked view m at = absurd (cc)
  marked_in_reach _ _ (more_marked views v all n are is) view m at = go (slice_get_push all n view m at) (λ e. marked_in_reach views all are view m e)
    where
      go : (slice_get all view ≡ Some m) ⊎ ((view ≡ length all) × (n ≡ m)) → (slice_get all view ≡ Some m → IsViewInReach sheet s.corners sides shrunk view m) → IsViewInReach sheet s.corners sides shrunk view m
      go (inl e) before = before e
      go (inr (e, same)) before =
          subst (λ (k : ℕ). IsViewInReach sheet s.corners sides shrunk k m) (sym (e ∙ as_many views all are))
          (subst (IsViewInReach sheet s.corners sides shrunk (length views)) same (of_view (length views) (length (cuts_in views)) v.spec n is))
