-- The spans that are carried along an edge's part beyond the plane are right in the view of a cut.
use Rattle.std.proofs.Common.{◌≡◌, inl, inr, ℕ, zero, suc, ◌<◌, ◌≤◌, ◌++◌, Bool, true, false, cond, List, [], ◌∷◌, Contains, length, get_or, refl, sym, ap, subst, ◌∙◌, arith}
use Rattle.std.specs.Prelude.{ℤ, pos, ◌+ℤ◌, ◌-ℤ◌, ◌*ℤ◌, ◌<ℤ◌, ◌≤ℤ◌, IsPermutation}
use Rattle.std.specs.Int.Signed.{lt_z}
use Rattle.std.proofs.lemmas.Int.{ints, by_lt_z}
use Rattle.std.proofs.lemmas.List.Elements.{All-contains, All-head, Contains-append_cases}
use Rattle.std.proofs.lemmas.List.Sorted.{Contains-permutation, IsPermutation-sym}
use Rattle.integers.proofs.Comparisons.{at_most_of_less}
use Rattle.integers.proofs.Lists.{Contains-later}
use Rattle.integers.proofs.Orders.{lt_z_of_less, lt_z_of_at_most}
use Rattle.integers.proofs.Ring.{var, con, ◌⊖◌, ◌⊗◌, ring}
use Rattle.integers.proofs.Signs.{mul_nonneg}
use Rattle.exact_frac.specs.declared.Frac.{Frac}
use Rattle.intervals.specs.declared.interval.Interval.{Interval}
use Rattle.lattice.specs.Points.{point_of}
use Rattle.lattice.specs.Cuts.{Plane, toward_of, IsBeyond, IsBeforePlane}
use Rattle.geometry.specs.Cuts.{IsOrdinaryInCut, over_of}
use Rattle.geometry.specs.Faces.{share_point}
use Rattle.geometry.specs.Parts.{Part, Edge, IsNumbered}
use Rattle.geometry.specs.Places.{IsSame, IsBetween, point_at}
use Rattle.geometry.specs.Sound.{IsSound}
use Rattle.geometry.proofs.Borders.{side_of_corner, over_before, over_beyond, not_both_sides}
use Rattle.geometry.proofs.PlaceOrder.{between_inner, between_last, most_less, less_most, IsNotLater, not_later_self, not_later_not_later, earlier_not_later, mediant_between}
use Rattle.geometry.proofs.SamePlaces.{same, same_back, same_not_later}
use Rattle.hiding_laws.specs.Values.{value_at}
use Rattle.hiding_laws.specs.CutValues.{below_of}
use Rattle.hiding_laws.proofs.CutPlanes.{below-beyond, below-share}
use Rattle.geometry.specs.Counts.{Side, to_left, to_right}
use Rattle.geometry.specs.Turns.{corner_at}
use Rattle.hiding_laws.specs.Sums.{total}
use Rattle.cross_find.specs.declared.meter.Crossing.{Crossing}
use Rattle.cut_plane.specs.declared.segments.Segment.{Segment}
use Rattle.cut_plane.specs.Loops.{IsSegmentOf}
use Rattle.cut_plane.proofs.Xors.{xor}
use Rattle.span_count.specs.declared.span.CountSpan.{CountSpan}
use Rattle.span_count.specs.Carries.{change_before, IsCarried, IsCrossingEnd, AreCarried}
use Rattle.span_count.specs.CountSpans.{Follow}
use Rattle.span_count.proofs.Lists.{zip_some}
use Rattle.span_count.proofs.Sums.{total_permuted}
use Rattle.cut_plane.specs.Beyond.{IsStretch, IsPartEnd, IsPartBeyond}
use Rattle.cut_count_laws.specs.CutCounts.{AreCutCounted}
use Rattle.cut_count_laws.proofs.CutEndsApart.{outline_apart, border_apart, part_end_apart}
use Rattle.cut_count_laws.proofs.HiddenInCut.{hidden_in_cut}
use Rattle.cut_count_laws.proofs.Laws.{HasCornersInRange, IsValid}
use Rattle.cut_count.specs.declared.found.CrossingBorder.{CrossingBorder}
use Rattle.cut_count.specs.Crossings.{IsCutCrossing}
use Rattle.cut_count.specs.CutSpans.{IsRightInCut, AreCutCountSpans}
use Rattle.cut_count.specs.inner.Borders.{IsFound}
use Rattle.cut_count.specs.inner.Walks.{IsOddAhead, AreCoverCounts, AreSectionCrossings, IsBorderAnswer, IsOutlineAnswer, odd_turns, turn_left, turn_right}
use Rattle.cut_count.proofs.CutCounted.{counts_in_cut, counts_in_cut_few}
use Rattle.cut_count.proofs.WalkLaws.{HasWalked, change_to, odd_to}
use Rattle.cut_count.proofs.Walked.{walked}
use Rattle.cut_count.proofs.WalkedBack.{walked_back}

-- ---- spans that follow one another
-- one place is not after the other, and so are the spans within
follow_up : (from : Frac) (spans : List CountSpan) (to : Frac) → Follow from spans to → IsNotLater from to
follow_up from [] to h = same_not_later from from from to (same from) h (not_later_self from)
follow_up from (x ∷ xs) to (begins, up, rest) =
    same_not_later x.from to from to begins (same to) (at_most_of_less (x.from.num *ℤ to.den) (to.num *ℤ x.from.den) (earlier_not_later x.from x.to to up (follow_up x.to xs to rest)))

span_within : (from : Frac) (spans : List CountSpan) (to : Frac) → Follow from spans to → (k : ℕ) (d : CountSpan) → k < length spans
    → IsNotLater from (get_or spans k d).from × IsNotLater (get_or spans k d).to to
span_within from [] to h k d short = absurd (omega arith)
span_within from (x ∷ xs) to (begins, up, rest) zero d short = (same_not_later from from from x.from (same from) (same_back x.from from begins) (not_later_self from), follow_up x.to xs to rest)
span_within from (x ∷ xs) to (begins, up, rest) (suc k) d short =
    let r = span_within x.to xs to rest k d (omega arith) in
    (not_later_not_later from x.to (get_or xs k d).from (same_not_later x.from x.to from x.to begins (same x.to) (at_most_of_less (x.from.num *ℤ x.to.den) (x.to.num *ℤ x.from.den) up)) r.0, r.1)

between_wider : (from a b to : Frac) (n m : ℤ) → pos 0 <ℤ m → IsNotLater from a → IsNotLater b to → IsBetween a b n m → IsBetween from to n m
between_wider from a b to n m up first last h = (
  most_less from.num from.den a.num a.den n m from.positive a.positive up first h.0,
  less_most n m b.num b.den to.num to.den up b.positive to.positive h.1 last,
)

-- ---- which end is beyond the plane
module _ (c : Plane) {s : Part} (e : Edge s) (part : Interval Frac) (beyond : IsPartBeyond c e (part ∷ [])) where
  stretch : IsStretch part
  stretch = All-head IsStretch part [] beyond.stretches

  -- strictly within the part are inner places beyond the plane
  inner : (n m : ℤ) → pos 0 <ℤ m → IsBetween part.from part.to n m → (pos 0 <ℤ n) × (n <ℤ m) × IsBeyond c (share_point e.a e.b n m)
  inner n m up between =
      let after = between_inner part.from part.to n m up between stretch.from_place.least in
      let before = between_last part.from part.to n m up between stretch.to_place.most in
      (after, before, (beyond.exactly n m after before).1 (part, (0, omega arith, refl), between))

  -- where the first corner is before the plane the second is not
  second_beyond : IsBeforePlane c (point_of e.a) → IsBeyond c (point_of e.b)
  second_beyond before =
      let n = part.from.num +ℤ part.to.num in
      let m = part.from.den +ℤ part.to.den in
      let (after, short, there) = inner n m (up part.from.den part.to.den part.from.positive part.to.positive) (mediant_between part.from part.to stretch.earlier) in
      elim (side_of_corner c e.b) [
        | inl h ↦ h
        | inr h ↦ absurd (below (below_of c (point_of e.a)) (below_of c (point_of e.b)) n m after short (most (below_of c (point_of e.a)) (λ g. not_both_sides c (point_of e.a) ((below-beyond c (point_of e.a)).1 g) before))
            (most (below_of c (point_of e.b)) (λ g. not_both_sides c (point_of e.b) ((below-beyond c (point_of e.b)).1 g) h)) (subst (λ (z : ℤ). pos 0 <ℤ z) (below-share c e.a e.b n m) ((below-beyond c (share_point e.a e.b n m)).0 there)))
      ]
    where
      up : (x y : ℤ) → pos 0 <ℤ x → pos 0 <ℤ y → pos 0 <ℤ (x +ℤ y)
      up x y h l = omega (arith, ints)

      most : (x : ℤ) → ¬ (pos 0 <ℤ x) → pos 0 ≤ℤ (pos 0 -ℤ x)
      most x h = by_lt_z (pos 0) x (λ g. absurd (h g)) (λ g. turned x g)
        where
          turned : (x : ℤ) → x ≤ℤ pos 0 → pos 0 ≤ℤ (pos 0 -ℤ x)
          turned x h = omega (arith, ints)

      below : (f g n m : ℤ) → pos 0 <ℤ n → n <ℤ m → pos 0 ≤ℤ (pos 0 -ℤ f) → pos 0 ≤ℤ (pos 0 -ℤ g) → pos 0 <ℤ value_at f g n m → ⊥
      below f g n m after short f_low g_low h =
          clash ((m -ℤ n) *ℤ f) (n *ℤ g) ((m -ℤ n) *ℤ (pos 0 -ℤ f)) (n *ℤ (pos 0 -ℤ g)) h
          (back (m -ℤ n) f) (back n g) (mul_nonneg (m -ℤ n) (pos 0 -ℤ f) (gap n m short) f_low) (mul_nonneg n (pos 0 -ℤ g) (weak n after) g_low)
        where
          clash : (x y u v : ℤ) → pos 0 <ℤ (x +ℤ y) → u ≡ pos 0 -ℤ x → v ≡ pos 0 -ℤ y → pos 0 ≤ℤ u → pos 0 ≤ℤ v → ⊥
          clash x y u v h e i p q = omega (arith, ints)

          back : (x y : ℤ) → x *ℤ (pos 0 -ℤ y) ≡ pos 0 -ℤ (x *ℤ y)
          back x y = ring (x ∷ y ∷ []) (var 0 ⊗ (con (pos 0) ⊖ var 1)) (con (pos 0) ⊖ (var 0 ⊗ var 1)) refl

          gap : (n m : ℤ) → n <ℤ m → pos 0 ≤ℤ (m -ℤ n)
          gap n m h = omega (arith, ints)

          weak : (n : ℤ) → pos 0 <ℤ n → pos 0 ≤ℤ n
          weak n h = omega (arith, ints)

  -- the counts start at the second corner where the first is before the plane
  pub end_beyond : (at_b : Bool) → at_b ≡ lt_z (pos 0) (over_of c e.a) → IsBeyond c (point_of (corner_at e at_b))
  end_beyond at_b is = elim (side_of_corner c e.a) [
    | inl h ↦ subst (λ (b : Bool). IsBeyond c (point_of (corner_at e b))) (sym (is ∙ lt_z_of_at_most (pos 0) (over_of c e.a) (most (over_of c e.a) (over_beyond c e.a h)))) h
    | inr h ↦ subst (λ (b : Bool). IsBeyond c (point_of (corner_at e b))) (sym (is ∙ lt_z_of_less (pos 0) (over_of c e.a) (over_before c e.a h))) (second_beyond h)
  ]
    where
      most : (x : ℤ) → x <ℤ pos 0 → x ≤ℤ pos 0
      most x h = omega (arith, ints)

-- ---- crossings of the section
-- each is at the place of a border that was found
section_found : (left right : Bool) (found : List CrossingBorder) (crossings : List Crossing) → AreSectionCrossings left right found crossings → (x : Crossing) → Contains crossings x → (y : CrossingBorder) × Contains found y × (x.at ≡ y.at)
section_found left right [] [] h x there = absurd (omega (arith, there.1))
section_found left right [] (z ∷ zs) h x there = absurd h
section_found left right (y ∷ ys) [] h x there = absurd h
section_found left right (y ∷ ys) (z ∷ zs) (at, _, _, rest) x (zero, short, is) = (y, (0, omega arith, refl), ap (λ (w : Crossing). w.at) (sym is) ∙ at)
section_found left right (y ∷ ys) (z ∷ zs) (at, _, _, rest) x (suc k, short, is) =
    let (w, there, same) = section_found (xor left y.left.turns) (xor right y.right.turns) ys zs rest x (k, omega arith, is) in
    (w, Contains-later y ys w there, same)

-- ---- a walk
module _ (c : Plane) (s : Part) (sound : IsSound s) (in_range : HasCornersInRange s) (few : length s.triangles ≤ 20000) (halves : List ℕ) (edge_there : (i : ℕ) → i < length halves → (o : Edge s) × IsNumbered halves i o)
    (edge : ℕ) (e : Edge s) (part : Interval Frac) (segments : List Segment) (at_b left right : Bool) (found : List CrossingBorder) (section outlines sorted : List Crossing)
    (has : HasWalked at_b c s halves edge e part segments (cond at_b (xor left (odd_turns turn_left found)) left) (cond at_b (xor right (odd_turns turn_right found)) right) found section outlines)
    (moved : IsPermutation (section ++ outlines) sorted) (end_there : IsBeyond c (point_of (corner_at e at_b))) where
  -- ---- no span ends at an ordinary point
  same_apart : (r x : Frac) → IsSame r x → ¬ IsOrdinaryInCut c s (point_at e x) → ¬ IsOrdinaryInCut c s (point_at e r)
  same_apart r x is apart ordinary =
      apart (subst (λ d. IsOrdinaryInCut c s (share_point e.a e.b x.num d)) is.1 (subst (λ n. IsOrdinaryInCut c s (share_point e.a e.b n r.den)) is.0 ordinary))

  part_ends : IsPartEnd c e part.from × IsPartEnd c e part.to
  part_ends = All-head (λ (x : Interval Frac). IsPartEnd c e x.from × IsPartEnd c e x.to) part [] has.beyond.ends

  places : IsStretch part
  places = stretch c e part has.beyond

  border_there : (y : CrossingBorder) → Contains found y → ¬ IsOrdinaryInCut c s (point_at e y.at)
  border_there y there =
      let (x, listed, answer) = zip_some (IsBorderAnswer c e part) segments has.are_found.answers has.are_found.each y
      (subst (λ (ys : List CrossingBorder). Contains ys y) has.are_found.all (Contains-permutation found has.listed y (IsPermutation-sym has.listed found has.same) there)) in
      let of_face : IsSegmentOf c s x = All-contains (IsSegmentOf c s) segments x has.borders.each listed in
      let is : IsFound c e of_face.face part _ _ y = answer of_face.face of_face.number in
      let (after, before, beyond) = inner c e part has.beyond y.at.num y.at.den y.at.positive (is.after, is.before) in
      border_apart c s e of_face.face y.at.num y.at.den (record { after = after; before = before; beyond = beyond; crosses = is.crosses })

  outline_there : (x : Crossing) → Contains outlines x → ¬ IsOrdinaryInCut c s (point_at e x.at)
  outline_there x there =
      let (i, listed, answer) = zip_some (IsOutlineAnswer c e halves) has.numbers has.by_outlines.answers has.by_outlines.each x (subst (λ (ys : List Crossing). Contains ys x) has.by_outlines.all there) in
      let (o, numbered) = edge_there i (All-contains (λ i. i < length halves) has.numbers i has.are_listed.within listed) in
      let is : IsCutCrossing c e o x = answer o numbered in
      outline_apart c e o is.changes x.at is.at

  crossing_there : (x : Crossing) → Contains sorted x → ¬ IsOrdinaryInCut c s (point_at e x.at)
  crossing_there x there = elim (Contains-append_cases section outlines x (Contains-permutation sorted (section ++ outlines) x (IsPermutation-sym (section ++ outlines) sorted moved) there)) [
    | inl h ↦ let (y, in_found, is) = section_found _ _ found section has.by_section x h in subst (λ (r : Frac). ¬ IsOrdinaryInCut c s (point_at e r)) (sym is) (border_there y in_found)
    | inr h ↦ outline_there x h
  ]

  end_apart : (r : Frac) → IsCrossingEnd part.from part.to sorted r → ¬ IsOrdinaryInCut c s (point_at e r)
  end_apart r (inl is) = same_apart r part.from is (part_end_apart c s e part.from places.from_place part_ends.0)
  end_apart r (inr (inl is)) = same_apart r part.to is (part_end_apart c s e part.to places.to_place part_ends.1)
  end_apart r (inr (inr (x, there, is))) = same_apart r x.at is (crossing_there x there)

  -- ---- the counts
  module _ (k : Side) (odd : IsOddAhead k at_b (toward_of c) e.a e.b segments (odd_to k left right)) (near first : ℤ) (next : AreCoverCounts k c e at_b near)
      (first_is : first ≡ cond at_b ((near +ℤ cond (odd_to k left right) (pos 1) (pos 0)) -ℤ total (change_to k) sorted) (near +ℤ cond (odd_to k left right) (pos 1) (pos 0))) where
    sum_is_count : (n m : ℤ) → IsValid c e n m → (all : ℕ) → AreCutCounted k c e (share_point e.a e.b n m) all → first +ℤ total (change_before (change_to k) n m) sorted ≡ pos all
    sum_is_count n m valid all are = by at_b has end_there odd next first_is
      where
        onward : (f t u z a : ℤ) → f ≡ z → t ≡ u → a ≡ z +ℤ u → f +ℤ t ≡ a
        onward f t u z a p q r = omega (arith, ints)

        back : (f t u z v w a : ℤ) → f ≡ z -ℤ v → v ≡ w → t ≡ u → a ≡ (z -ℤ w) +ℤ u → f +ℤ t ≡ a
        back f t u z v w a p o q r = omega (arith, ints)

        by : (b : Bool) → HasWalked b c s halves edge e part segments (cond b (xor left (odd_turns turn_left found)) left) (cond b (xor right (odd_turns turn_right found)) right) found section outlines
            → IsBeyond c (point_of (corner_at e b)) → IsOddAhead k b (toward_of c) e.a e.b segments (odd_to k left right) → AreCoverCounts k c e b near
            → first ≡ cond b ((near +ℤ cond (odd_to k left right) (pos 1) (pos 0)) -ℤ total (change_to k) sorted) (near +ℤ cond (odd_to k left right) (pos 1) (pos 0))
            → first +ℤ total (change_before (change_to k) n m) sorted ≡ pos all
        by false walk there ahead near_is is =
            onward first _ (total (change_before (change_to k) n m) (section ++ outlines)) (near +ℤ cond (odd_to k left right) (pos 1) (pos 0)) (pos all) is
            (total_permuted (change_before (change_to k) n m) (section ++ outlines) sorted moved)
            (walked c s sound in_range halves edge e part segments left right found section outlines walk there k ahead near near_is n m valid all are)
        by true walk there ahead near_is is =
            back first _ (total (change_before (change_to k) n m) (section ++ outlines)) (near +ℤ cond (odd_to k left right) (pos 1) (pos 0)) (total (change_to k) sorted) (total (change_to k) (section ++ outlines)) (pos all) is
            (total_permuted (change_to k) (section ++ outlines) sorted moved)
            (total_permuted (change_before (change_to k) n m) (section ++ outlines) sorted moved)
            (walked_back c s sound in_range halves edge e part segments left right found section outlines walk there k ahead near near_is n m valid all are)

    -- a span's number is the count
    span_count : (n m : ℤ) → pos 0 <ℤ m → IsValid c e n m → (from to : Frac) (count : ℕ) → IsBetween from to n m → IsCarried (change_to k) sorted first from to count → AreCutCounted k c e (share_point e.a e.b n m) count
    span_count n m up valid from to count between carried =
        let (all, are) = counts_in_cut k c e (share_point e.a e.b n m) up in_range in
        subst (AreCutCounted k c e (share_point e.a e.b n m)) (sym (carried n m up between all (counts_in_cut_few k c e (share_point e.a e.b n m) all are few) (sum_is_count n m valid all are))) are

  -- ---- the spans
  module _ (odd_left : IsOddAhead to_left at_b (toward_of c) e.a e.b segments left) (odd_right : IsOddAhead to_right at_b (toward_of c) e.a e.b segments right)
      (near_left near_right first_left first_right : ℤ) (next_left : AreCoverCounts to_left c e at_b near_left) (next_right : AreCoverCounts to_right c e at_b near_right)
      (left_is : first_left ≡ cond at_b ((near_left +ℤ cond left (pos 1) (pos 0)) -ℤ total (λ (x : Crossing). x.left) sorted) (near_left +ℤ cond left (pos 1) (pos 0)))
      (right_is : first_right ≡ cond at_b ((near_right +ℤ cond right (pos 1) (pos 0)) -ℤ total (λ (x : Crossing). x.right) sorted) (near_right +ℤ cond right (pos 1) (pos 0)))
      (spans : List CountSpan) (carried : AreCarried part.from part.to sorted first_left first_right spans) where
    span_right : (y : CountSpan) → IsNotLater part.from y.from → IsNotLater y.to part.to → IsCarried (λ (x : Crossing). x.left) sorted first_left y.from y.to y.left
        → IsCarried (λ (x : Crossing). x.right) sorted first_right y.from y.to y.right → IsRightInCut c e y
    span_right y from_is to_is on_left on_right n m up between ordinary free =
        let (after, before, beyond) = inner c e part has.beyond n m up (between_wider part.from y.from y.to part.to n m up from_is to_is between) in
        let valid : IsValid c e n m = record { after = after; before = before; beyond = beyond; ordinary = ordinary; free = free } in
        let left_count = span_count to_left odd_left near_left first_left next_left left_is n m up valid y.from y.to y.left between on_left in
        let right_count = span_count to_right odd_right near_right first_right next_right right_is n m up valid y.from y.to y.right between on_right in
        record { on_left = left_count; on_right = right_count; hidden = hidden_in_cut c s sound in_range e n m y.left y.right has.across valid left_count right_count }

    pub cut_spans_right : AreCutCountSpans c e spans
    cut_spans_right = record {
      covers = (part ∷ [], has.beyond, carried.covers);
      ends = λ k d h.
          let y = get_or spans k d in
          let r = carried.ends k d h in
          (end_apart y.from r.0, end_apart y.to r.1);
      right = λ k d h.
          let r = span_within part.from spans part.to carried.covers k d h in
          span_right (get_or spans k d) r.0 r.1 (carried.on_left k d h) (carried.on_right k d h);
    }

-- no part is beyond the plane, and there is no span
pub no_cut_spans : (c : Plane) {s : Part} (e : Edge s) → IsPartBeyond c e [] → AreCutCountSpans c e []
no_cut_spans c e none = record {
  covers = ([], none, refl);
  ends = λ k d h. absurd (omega (arith, h));
  right = λ k d h. absurd (omega (arith, h));
}
