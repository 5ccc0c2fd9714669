use Rattle.std.proofs.Common.{◌≡◌, inl, inr, ℕ, ◌<◌, ◌≤◌, ◌^◌, List, length, slice_get, Some, get_or, sym, subst, ap, ◌∙◌, arith, to_z, of_z}
use Rattle.std.specs.Prelude.{◌≢◌, ℤ, pos, ◌+ℤ◌, ◌-ℤ◌, ◌*ℤ◌, unsigned_abs}
use Rattle.std.specs.Int.{w8, w128}
use Rattle.std.proofs.lemmas.Int.{ints}
use Rattle.std.proofs.lemmas.List.Elements.{All-get_or}
use Rattle.std.proofs.lemmas.Option.{get_or_from_slice_get}
use lib.Signed.{mag}
use Rattle.exact_frac.specs.declared.Frac.{Frac}
use Rattle.lattice.specs.declared.points.Corner.{Corner}
use Rattle.lattice.specs.Points.{Point, of_spot}
use Rattle.lattice.specs.Cuts.{Plane, plane_of, toward_of}
use Rattle.geometry.specs.Parts.{Part, Face, Edge, IsNumbered}
use Rattle.geometry.specs.Cuts.{IsBorderOf}
use Rattle.geometry.specs.Places.{IsPlace}
use Rattle.hiding_laws.specs.Values.{side_of}
use Rattle.solid_mesh.specs.Solids.{solid_part, edge_halves}
use Rattle.solid_mesh.proofs.Facts.{closed, edge_there}
use Rattle.geometry.specs.Counts.{Side, to_left, to_right}
use Rattle.geometry.specs.Shares.{mark}
use Rattle.cut_plane.specs.declared.segments.Segment.{Segment}
use Rattle.cut_plane.specs.Loops.{IsSegmentOf, AreBorders}
use Rattle.cut_plane.proofs.Lists.{not_true}
use Rattle.cut_plane.specs.Crossings.{IsShort}
use Rattle.cut_count_laws.specs.BorderShares.{HasSectionLeft, IsTurnedBy}
use Rattle.cross_find.specs.declared.cross.CountChanges.{CountChanges}
use Rattle.cut_count.specs.inner.Borders.{IsInnerBeyond}
use Rattle.cut_count.proofs.SegmentEnds.{small_ends}
use Rattle.cut_count.proofs.BorderAcross.{unchanged, nowhere, outside, crosses_there, segment_ends, IsTaken, taken_along, taken_back, none_taken, taken_there}
use Rattle.cut_count.proofs.border.border_cross.Goals.{then-section_is_left, else-section_is_left, else-left-eq0-via-then-left-eq0+else-right-eq0, else-left-eq0-via-else-left-eq0}
use Rattle.cut_count.proofs.border.border_cross.Goals as goal

-- ---- numbers that pass through the machine's
whole : (r : ℤ) → mag r < 2 ^ 127 → to_z w128 (of_z w128 r) ≡ r
whole r h = omega (arith, ints)

alike : (x y : ℤ) → unsigned_abs x ≤ 1 → unsigned_abs y ≤ 1 → of_z w8 x ≡ of_z w8 y → x ≡ y
alike x y h k e = omega (arith, ints)

short : (x : ℤ) → unsigned_abs x ≤ 4 → to_z w8 (of_z w8 x) ≡ x
short x h = omega (arith, ints)

none : (x : ℤ) → unsigned_abs x ≤ 4 → of_z w8 x ≡ 0 → x ≡ pos 0
none x h e = omega (arith, ints)

some : (x : ℤ) → unsigned_abs x ≤ 4 → (of_z w8 x ≡ 0 → ⊥) → to_z w8 (of_z w8 x) ≢ pos 0
some x h f e = f (ap (λ (z : ℤ). of_z w8 z) (sym (short x h) ∙ e))

less : (t : ℤ) → unsigned_abs t ≤ 1 → to_z w8 (of_z w8 (pos 1 -ℤ to_z w8 (of_z w8 t))) ≡ pos 1 -ℤ t
less t h = omega (arith, ints)

more : (t : ℤ) → unsigned_abs t ≤ 1 → to_z w8 (of_z w8 (pos 1 +ℤ to_z w8 (of_z w8 t))) ≡ pos 1 +ℤ t
more t h = omega (arith, ints)

mark_same : (k : Side) (r t m n v w : ℤ) → mag r < 2 ^ 127 → mag t < 2 ^ 127 → m ≡ mark k (to_z w128 (of_z w128 r)) → n ≡ mark k (to_z w128 (of_z w128 t)) → unsigned_abs m ≤ 1 → unsigned_abs n ≤ 1
    → of_z w8 m ≡ of_z w8 n → r ≡ v → t ≡ w → mark k v ≡ mark k w
mark_same k r t m n v w r_fits t_fits m_is n_is m_small n_small e r_is t_is =
    sym (ap (mark k) (whole r r_fits ∙ r_is)) ∙ sym m_is ∙ alike m n m_small n_small e ∙ n_is ∙ ap (mark k) (whole t t_fits ∙ t_is)

-- ---- the segment that is looked at
segment_here : (c : Plane) (s : Part) (xs ys : List Segment) (places : List ℕ) → AreBorders c s xs places → (i : ℕ) → i < length xs → (y : Segment) → ys ≡ xs → y ≡ get_or ys i y → IsSegmentOf c s y
segment_here c s xs ys places borders i within y value is =
    subst (IsSegmentOf c s) (sym (is ∙ (λ t. get_or (value t) i y))) (All-get_or (IsSegmentOf c s) xs i y within borders.each)

same_here : (xs ys : List Segment) (i : ℕ) (x y : Segment) → ys ≡ xs → y ≡ get_or ys i y → slice_get xs i ≡ Some x → x ≡ y
same_here xs ys i x y value is listed = sym (is ∙ (λ t. get_or (value t) i y) ∙ get_or_from_slice_get xs i x y listed)

side_here : (p d : Plane) (a b k l : Corner) (q : Point) (r : ℤ) → r ≡ side_of (toward_of p) a b q → p ≡ d → k ≡ a → l ≡ b → r ≡ side_of (toward_of d) k l q
side_here p d a b k l q r e plane first second = e ∙ (λ i. side_of (toward_of (plane i)) (sym first i) (sym second i) q)

inner_here : (p d : Plane) (a b k l : Corner) (r : Frac) → p ≡ d → k ≡ a → l ≡ b → IsInnerBeyond p a b r → IsInnerBeyond d k l r
inner_here p d a b k l r plane first second h = subst (λ t. t) (λ i. IsInnerBeyond (plane i) (sym first i) (sym second i) r) h

inner_back : (p d : Plane) (a b k l : Corner) (r : Frac) → p ≡ d → k ≡ a → l ≡ b → IsInnerBeyond d k l r → IsInnerBeyond p a b r
inner_back p d a b k l r plane first second h = subst (λ t. t) (λ i. IsInnerBeyond (sym plane i) (first i) (second i) r) h

place_short : (r : Frac) → IsShort r → IsPlace r
place_short r h = record { least = h.least; most = h.most; small = less_than h.small }
  where
    less_than : unsigned_abs r.den ≤ 2 ^ 66 → unsigned_abs r.den < 2 ^ 69
    less_than h = omega arith

numbered_here : {s : Part} (halves : List ℕ) (i j : ℕ) (e : Edge s) → i ≡ j → IsNumbered halves j e → IsNumbered halves i e
numbered_here halves i j e same h = subst (λ (n : ℕ). IsNumbered halves n e) (sym same) h

-- ---- the changes, the way that the segment goes and the other way
module _ (c : Plane) {s : Part} (y : Segment) (at : IsSegmentOf c s y) (e : Edge s) (f : Face s) (number : f.number ≡ y.tri) (t : ℤ) (size : unsigned_abs t ≤ 1) (turned : IsTurnedBy c f (of_spot y.a) (of_spot y.b) t)
    (from to : ℤ) (from_fits : mag from < 2 ^ 127) (to_fits : mag to < 2 ^ 127) (sides : (from ≡ side_of (toward_of c) e.a e.b (of_spot y.a)) × (to ≡ side_of (toward_of c) e.a e.b (of_spot y.b)))
    (changed found : CountChanges) (same : changed ≡ found) where
  border : IsBorderOf c f (of_spot y.a) (of_spot y.b)
  border = segment_ends c s y at f number e

  from_is : to_z w128 (of_z w128 from) ≡ side_of (toward_of c) e.a e.b (of_spot y.a)
  from_is = whole from from_fits ∙ sides.0

  to_is : to_z w128 (of_z w128 to) ≡ side_of (toward_of c) e.a e.b (of_spot y.b)
  to_is = whole to to_fits ∙ sides.1

  along : HasSectionLeft c s (of_spot y.a) (of_spot y.b)
      → found.left ≡ to_z w8 (of_z w8 (pos 1 -ℤ to_z w8 (of_z w8 t))) *ℤ (mark to_left (to_z w128 (of_z w128 from)) -ℤ mark to_left (to_z w128 (of_z w128 to)))
      → found.right ≡ to_z w8 (of_z w8 (pos 1 -ℤ to_z w8 (of_z w8 t))) *ℤ (mark to_right (to_z w128 (of_z w128 from)) -ℤ mark to_right (to_z w128 (of_z w128 to)))
      → IsTaken c e f changed.left changed.right
  along section l r =
      taken_along c e f (of_spot y.a) (of_spot y.b) border t turned _ _ from_is to_is _ changed.left changed.right section (less t size) (ap (λ (x : CountChanges). x.left) same ∙ l) (ap (λ (x : CountChanges). x.right) same ∙ r)

  back : HasSectionLeft c s (of_spot y.b) (of_spot y.a)
      → found.left ≡ to_z w8 (of_z w8 (pos 1 +ℤ to_z w8 (of_z w8 t))) *ℤ (mark to_left (to_z w128 (of_z w128 to)) -ℤ mark to_left (to_z w128 (of_z w128 from)))
      → found.right ≡ to_z w8 (of_z w8 (pos 1 +ℤ to_z w8 (of_z w8 t))) *ℤ (mark to_right (to_z w128 (of_z w128 to)) -ℤ mark to_right (to_z w128 (of_z w128 from)))
      → IsTaken c e f changed.left changed.right
  back section l r =
      taken_back c e f (of_spot y.a) (of_spot y.b) border t turned _ _ from_is to_is _ changed.left changed.right section (more t size) (ap (λ (x : CountChanges). x.left) same ∙ l) (ap (λ (x : CountChanges). x.right) same ∙ r)

pub side-from-requires : goal.side-from-requires
side-from-requires c =
    let section = c.args.section.now in
    let s = solid_part c.args.solid.now in
    let y = c.index-as_slice-segment.result in
    (small_ends section.cut s y (segment_here (plane_of section.cut) s section.segments.items c.as_slice.result.now section.loops.items c.requires.borders c.args.segment c.requires.segment_in_range y c.as_slice.ensures.value c.index-as_slice-segment.is)).0

pub side-to-requires : goal.side-to-requires
side-to-requires c =
    let section = c.args.section.now in
    let s = solid_part c.args.solid.now in
    let y = c.index-as_slice-segment.result in
    (small_ends section.cut s y (segment_here (plane_of section.cut) s section.segments.items c.as_slice.result.now section.loops.items c.requires.borders c.args.segment c.requires.segment_in_range y c.as_slice.ensures.value c.index-as_slice-segment.is)).1

pub returns-then-right_mark-clause-answer : goal.returns-then-right_mark-clause-answer
returns-then-right_mark-clause-answer c e f x numbered listed number =
    let section = c.args.section.now in
    let plane = plane_of section.cut in
    let s = solid_part c.args.solid.now in
    let y = c.index-as_slice-segment.result in
    let seen = c.new-seen in
    let ends = seen.ensures.ends e numbered in
    let at = segment_here plane s section.segments.items c.as_slice.result.now section.loops.items c.requires.borders c.args.segment c.requires.segment_in_range y c.as_slice.ensures.value c.index-as_slice-segment.is in
    let same = same_here section.segments.items c.as_slice.result.now c.args.segment x y c.as_slice.ensures.value c.index-as_slice-segment.is listed in
    let from = side_here (plane_of seen.result.cut) plane seen.result.at.a seen.result.at.b e.a e.b (of_spot y.a) c.side-from.result c.side-from.ensures seen.ensures.plane ends.0 ends.1 in
    let to = side_here (plane_of seen.result.cut) plane seen.result.at.a seen.result.at.b e.a e.b (of_spot y.b) c.side-to.result c.side-to.ensures seen.ensures.plane ends.0 ends.1 in
    unchanged plane f e (of_spot y.a) (of_spot y.b) (inl (segment_ends plane s y at f (number ∙ ap (λ (z : Segment). z.tri) same) e))
    (mark_same to_left c.side-from.result c.side-to.result _ _ _ _ c.side-from.type_inv c.side-to.type_inv c.left_mark.ensures.value c.left_mark-2.ensures.value c.left_mark.ensures.size c.left_mark-2.ensures.size c.if-left_mark.true from to)
    (mark_same to_right c.side-from.result c.side-to.result _ _ _ _ c.side-from.type_inv c.side-to.type_inv c.right_mark.ensures.value c.right_mark-then-left_mark.ensures.value c.right_mark.ensures.size c.right_mark-then-left_mark.ensures.size c.if-right_mark.true from to)

pub is_inner_beyond-requires : goal.is_inner_beyond-requires
is_inner_beyond-requires c =
    let section = c.args.section.now in
    let plane = plane_of section.cut in
    let s = solid_part c.args.solid.now in
    let y = c.index-as_slice-segment.result in
    let seen = c.new-seen in
    let at = segment_here plane s section.segments.items c.as_slice.result.now section.loops.items c.requires.borders c.args.segment c.requires.segment_in_range y c.as_slice.ensures.value c.index-as_slice-segment.is in
    let (e, numbered) = edge_there c.args.solid.now c.args.edge c.requires.edge_in_range in
    let ends = seen.ensures.ends e numbered in
    let numbered_too = numbered_here (edge_halves c.args.solid.now) seen.result.at.number c.args.edge e seen.ensures.number numbered in
    place_short c.in-Some.at (c.in-Some.ensures e numbered_too ends.0 ends.1 at).found_is.0

pub returns-in-None-clause-answer : goal.returns-in-None-clause-answer
returns-in-None-clause-answer c e f x numbered listed number =
    let section = c.args.section.now in
    let plane = plane_of section.cut in
    let s = solid_part c.args.solid.now in
    let y = c.index-as_slice-segment.result in
    let seen = c.new-seen in
    let at = segment_here plane s section.segments.items c.as_slice.result.now section.loops.items c.requires.borders c.args.segment c.requires.segment_in_range y c.as_slice.ensures.value c.index-as_slice-segment.is in
    let same = same_here section.segments.items c.as_slice.result.now c.args.segment x y c.as_slice.ensures.value c.index-as_slice-segment.is listed in
    let face = number ∙ ap (λ (z : Segment). z.tri) same in
    let ends = seen.ensures.ends e numbered in
    let numbered_too = numbered_here (edge_halves c.args.solid.now) seen.result.at.number c.args.edge e seen.ensures.number numbered in
    nowhere plane s y at f face e (c.in-None.ensures e numbered_too ends.0 ends.1 at)

pub returns-then-not-is_inner_beyond-clause-answer : goal.returns-then-not-is_inner_beyond-clause-answer
returns-then-not-is_inner_beyond-clause-answer c e f x numbered listed number =
    let section = c.args.section.now in
    let plane = plane_of section.cut in
    let s = solid_part c.args.solid.now in
    let y = c.index-as_slice-segment.result in
    let seen = c.new-seen in
    let at = segment_here plane s section.segments.items c.as_slice.result.now section.loops.items c.requires.borders c.args.segment c.requires.segment_in_range y c.as_slice.ensures.value c.index-as_slice-segment.is in
    let same = same_here section.segments.items c.as_slice.result.now c.args.segment x y c.as_slice.ensures.value c.index-as_slice-segment.is listed in
    let face = number ∙ ap (λ (z : Segment). z.tri) same in
    let ends = seen.ensures.ends e numbered in
    let numbered_too = numbered_here (edge_halves c.args.solid.now) seen.result.at.number c.args.edge e seen.ensures.number numbered in
    outside plane s y at f face e c.in-Some.at (c.in-Some.ensures e numbered_too ends.0 ends.1 at)
    (λ inner. not_true c.is_inner_beyond.result c.if-not-is_inner_beyond.true (c.is_inner_beyond.ensures.1
    (inner_back (plane_of seen.result.cut) plane seen.result.at.a seen.result.at.b e.a e.b c.in-Some.at seen.ensures.plane ends.0 ends.1 inner)))

pub turned_by-turned-requires : goal.turned_by-turned-requires
turned_by-turned-requires c =
    let section = c.args.section.now in
    let s = solid_part c.args.solid.now in
    let y = c.index-as_slice-segment.result in
    segment_here (plane_of section.cut) s section.segments.items c.as_slice.result.now section.loops.items c.requires.borders c.args.segment c.requires.segment_in_range y c.as_slice.ensures.value c.index-as_slice-segment.is

pub section_is_left-requires : goal.section_is_left-requires
section_is_left-requires c =
    let section = c.args.section.now in
    let s = solid_part c.args.solid.now in
    let y = c.index-as_slice-segment.result in
    (s, c.requires.borders, segment_here (plane_of section.cut) s section.segments.items c.as_slice.result.now section.loops.items c.requires.borders c.args.segment c.requires.segment_in_range y c.as_slice.ensures.value c.index-as_slice-segment.is)

at_most : (r u t : ℤ) → r ≡ u → (unsigned_abs t ≤ 1 → unsigned_abs u ≤ 2) → unsigned_abs t ≤ 1 → unsigned_abs r ≤ 2
at_most r u t e f h = subst (λ (z : ℤ). unsigned_abs z ≤ 2) (sym e) (f h)

pub count_changes-requires : goal.count_changes-requires
count_changes-requires c = at_most _ _ c.turned_by-turned.result (less c.turned_by-turned.result c.turned_by-turned.ensures.size) (bound c.turned_by-turned.result) c.turned_by-turned.ensures.size
  where
    bound : (t : ℤ) → unsigned_abs t ≤ 1 → unsigned_abs (pos 1 -ℤ t) ≤ 2
    bound t h = omega (arith, ints)

pub count_changes-requires-else-section_is_left : goal.count_changes-requires-else-section_is_left
count_changes-requires-else-section_is_left c = at_most _ _ c.turned_by-turned.result (more c.turned_by-turned.result c.turned_by-turned.ensures.size) (bound c.turned_by-turned.result) c.turned_by-turned.ensures.size
  where
    bound : (t : ℤ) → unsigned_abs t ≤ 1 → unsigned_abs (pos 1 +ℤ t) ≤ 2
    bound t h = omega (arith, ints)

pub returns-then-right-eq0-clause-answer : goal.returns-then-right-eq0-clause-answer
returns-then-right-eq0-clause-answer c e f x numbered listed number =
    let section = c.args.section.now in
    let plane = plane_of section.cut in
    let s = solid_part c.args.solid.now in
    let y = c.index-as_slice-segment.result in
    let seen = c.new-seen in
    let at = segment_here plane s section.segments.items c.as_slice.result.now section.loops.items c.requires.borders c.args.segment c.requires.segment_in_range y c.as_slice.ensures.value c.index-as_slice-segment.is in
    let same = same_here section.segments.items c.as_slice.result.now c.args.segment x y c.as_slice.ensures.value c.index-as_slice-segment.is listed in
    let face = number ∙ ap (λ (z : Segment). z.tri) same in
    let ends = seen.ensures.ends e numbered in
    let from = side_here (plane_of seen.result.cut) plane seen.result.at.a seen.result.at.b e.a e.b (of_spot y.a) c.side-from.result c.side-from.ensures seen.ensures.plane ends.0 ends.1 in
    let to = side_here (plane_of seen.result.cut) plane seen.result.at.a seen.result.at.b e.a e.b (of_spot y.b) c.side-to.result c.side-to.ensures seen.ensures.plane ends.0 ends.1 in
    let changed = c.if-section_is_left.left in
    let taken : IsTaken plane e f changed.left changed.right =
    elim c.if-section_is_left.branch [
      | then-section_is_left w ↦
          along plane y at e f face c.turned_by-turned.result c.turned_by-turned.ensures.size (c.turned_by-turned.ensures.turned f face) c.side-from.result c.side-to.result c.side-from.type_inv c.side-to.type_inv (from, to)
          changed w.count_changes.result w.left-is (w.if-section_is_left.ensures s (closed c.args.solid.now).none_flat c.requires.borders at) w.count_changes.ensures.left w.count_changes.ensures.right
      | else-section_is_left w ↦
          back plane y at e f face c.turned_by-turned.result c.turned_by-turned.ensures.size (c.turned_by-turned.ensures.turned f face) c.side-from.result c.side-to.result c.side-from.type_inv c.side-to.type_inv (from, to)
          changed w.count_changes-else-section_is_left.result w.left-is (w.if-section_is_left.ensures s (closed c.args.solid.now).none_flat c.requires.borders at) w.count_changes-else-section_is_left.ensures.left w.count_changes-else-section_is_left.ensures.right
    ] in
    none_taken plane e f changed.left changed.right taken (none changed.left changed.left_small c.if-left-eq0.true) (none changed.right changed.right_small c.if-right-eq0.true)

pub invariant_of-result : goal.invariant_of-result
invariant_of-result c =
    let section = c.args.section.now in
    let plane = plane_of section.cut in
    let s = solid_part c.args.solid.now in
    let y = c.index-as_slice-segment.result in
    let seen = c.new-seen in
    let at = segment_here plane s section.segments.items c.as_slice.result.now section.loops.items c.requires.borders c.args.segment c.requires.segment_in_range y c.as_slice.ensures.value c.index-as_slice-segment.is in
    let (e, numbered) = edge_there c.args.solid.now c.args.edge c.requires.edge_in_range in
    let ends = seen.ensures.ends e numbered in
    let numbered_too = numbered_here (edge_halves c.args.solid.now) seen.result.at.number c.args.edge e seen.ensures.number numbered in
    record { at_place = place_short c.in-Some.at (c.in-Some.ensures e numbered_too ends.0 ends.1 at).found_is.0 }

pub returns-clause-answer : goal.returns-clause-answer
returns-clause-answer c e f x numbered listed number =
    let section = c.args.section.now in
    let plane = plane_of section.cut in
    let s = solid_part c.args.solid.now in
    let y = c.index-as_slice-segment.result in
    let seen = c.new-seen in
    let at = segment_here plane s section.segments.items c.as_slice.result.now section.loops.items c.requires.borders c.args.segment c.requires.segment_in_range y c.as_slice.ensures.value c.index-as_slice-segment.is in
    let same = same_here section.segments.items c.as_slice.result.now c.args.segment x y c.as_slice.ensures.value c.index-as_slice-segment.is listed in
    let face = number ∙ ap (λ (z : Segment). z.tri) same in
    let ends = seen.ensures.ends e numbered in
    let numbered_too = numbered_here (edge_halves c.args.solid.now) seen.result.at.number c.args.edge e seen.ensures.number numbered in
    let from = side_here (plane_of seen.result.cut) plane seen.result.at.a seen.result.at.b e.a e.b (of_spot y.a) c.side-from.result c.side-from.ensures seen.ensures.plane ends.0 ends.1 in
    let to = side_here (plane_of seen.result.cut) plane seen.result.at.a seen.result.at.b e.a e.b (of_spot y.b) c.side-to.result c.side-to.ensures seen.ensures.plane ends.0 ends.1 in
    let changed = c.if-section_is_left.left in
    let taken : IsTaken plane e f changed.left changed.right =
    elim c.if-section_is_left.branch [
      | then-section_is_left w ↦
          along plane y at e f face c.turned_by-turned.result c.turned_by-turned.ensures.size (c.turned_by-turned.ensures.turned f face) c.side-from.result c.side-to.result c.side-from.type_inv c.side-to.type_inv (from, to)
          changed w.count_changes.result w.left-is (w.if-section_is_left.ensures s (closed c.args.solid.now).none_flat c.requires.borders at) w.count_changes.ensures.left w.count_changes.ensures.right
      | else-section_is_left w ↦
          back plane y at e f face c.turned_by-turned.result c.turned_by-turned.ensures.size (c.turned_by-turned.ensures.turned f face) c.side-from.result c.side-to.result c.side-from.type_inv c.side-to.type_inv (from, to)
          changed w.count_changes-else-section_is_left.result w.left-is (w.if-section_is_left.ensures s (closed c.args.solid.now).none_flat c.requires.borders at) w.count_changes-else-section_is_left.ensures.left w.count_changes-else-section_is_left.ensures.right
    ] in
    let crossing = c.in-Some.ensures e numbered_too ends.0 ends.1 at in
    let inner = inner_here (plane_of seen.result.cut) plane seen.result.at.a seen.result.at.b e.a e.b c.in-Some.at seen.ensures.plane ends.0 ends.1 (c.is_inner_beyond.ensures.0 c.if-not-is_inner_beyond.false) in
    taken_there plane e f changed.left changed.right taken c.in-Some.at (crosses_there plane s y at f face e c.in-Some.at crossing) inner _ _
    (short changed.left changed.left_small) (short changed.right changed.right_small)
    (elim c.else-left-eq0.branch [
      | else-left-eq0-via-then-left-eq0+else-right-eq0 w ↦ inr (some changed.right changed.right_small w.if-right-eq0.false)
      | else-left-eq0-via-else-left-eq0 w ↦ inl (some changed.left changed.left_small w.if-left-eq0.false)
    ])
