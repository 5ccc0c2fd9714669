-- The sums that are carried along an edge are the counts at its ordinary points.
use Rattle.std.proofs.Common.{◌≡◌, ◌≢◌, ◌⊎◌, inl, inr, ℕ, ◌<◌, ◌≤◌, ◌^◌, Bool, true, false, not, cond, List, [], ◌∷◌, Contains, Option, Some, None, length, get_or, sum, refl, sym, subst, ap, ◌∙◌, arith}
use Rattle.std.specs.Prelude.{ℤ, pos, ◌+ℤ◌, ◌-ℤ◌, ◌*ℤ◌, ◌<ℤ◌, IsPermutation}
use Rattle.std.proofs.lemmas.Int.{ints, by_lt_z}
use Rattle.std.proofs.lemmas.List.Elements.{All-contains}
use Rattle.std.proofs.lemmas.List.Sorted.{Contains-permutation, IsPermutation-sym}
use Rattle.integers.proofs.Comparisons.{less_not_at_most}
use Rattle.integers.proofs.Ring.{var, ◌⊖◌, ◌⊗◌, ring}
use Rattle.integers.proofs.Signs.{mul_pos, pos_of_mul}
use Rattle.exact_frac.specs.declared.Frac.{Frac}
use Rattle.geometry.specs.Faces.{share_point}
use Rattle.geometry.specs.Parts.{Edge, IsNumbered}
use Rattle.geometry.specs.Places.{IsPlace, IsEarlier, point_at}
use Rattle.geometry.specs.Views.{IsOrdinary}
use Rattle.geometry.proofs.PlaceOrder.{between_inner, between_last}
use Rattle.hiding_laws.proofs.Decisions.{same_or, less_or}
use Rattle.hiding_laws.proofs.FrontEnds.{not-at-start, not-at-finish}
use Rattle.geometry.specs.Counts.{Side, to_left, to_right, AreCounted}
use Rattle.hiding_laws.proofs.Changed.{IsCrossedBefore, HasChanged, HasChangedAlong}
use Rattle.geometry.specs.Shares.{change_of, denominator_of, numerator_of, height_numerator_of, PassesNearer}
use Rattle.hiding_laws.proofs.Changed.HasChanged.{passed, not_passed}
use Rattle.hiding_laws.proofs.Changed.HasChangedAlong.{along}
use Rattle.geometry.specs.inner.CountsNext.{AreCovers, AreCountedNext}
use Rattle.hiding_laws.specs.Sums.{total}
use Rattle.hiding_laws.proofs.CountAlong.{count_listed}
use Rattle.hiding_laws.proofs.Decided.{counts}
use Rattle.hiding_laws.proofs.HiddenCounted.{hidden_counted}
use Rattle.hiding_laws.proofs.NextAlong.{unchanged_along, next_along}
use Rattle.hiding_laws.proofs.NextCounts.{counted_next}
use Rattle.hiding_laws.proofs.CrossingPlaces.{crossing_not_ordinary}
use Rattle.cross_find.specs.declared.meter.Crossing.{Crossing}
use Rattle.cross_find.specs.Sights.{SightState, IsSeen}
use Rattle.cross_find.specs.Crossings.{IsCrossing, IsAcross}
use Rattle.span_count.specs.Carries.{change_before, IsCarried, IsCrossingEnd, AreCarried}
use Rattle.span_count.specs.inner.Rests.{IsCountNext, AreCountsNext}
use Rattle.span_count.specs.inner.Steps.{IsSeenEdge, AreListed, IsOutlineAt, IsAnswer, AreCrossings}
use Rattle.span_count.specs.declared.step.Sides.{Sides}
use Rattle.span_count.specs.declared.span.CountSpan.{CountSpan}
use Rattle.span_count.specs.CountSpans.{IsRight, AreCountSpans}
use Rattle.span_count.proofs.Lists.{all_zip_weaker, zip_some, count_few}
use Rattle.span_count.proofs.Stars.{edge_at}
use Rattle.span_count.proofs.Sums.{of_option, total_permuted, total_of_options}
use Rattle.span_count.proofs.CarriedCounts.{changed, unchanged}

-- ---- a crossing is before n / m exactly where its place, as it is kept, is
module _ (numerator denominator num den n m : ℤ) (up : pos 0 <ℤ den) (some : pos 0 <ℤ (denominator *ℤ denominator)) (same : num *ℤ denominator ≡ numerator *ℤ den) where
  gap : (x y : ℤ) → x <ℤ y → pos 0 <ℤ (y -ℤ x)
  gap x y h = omega (arith, ints)

  by_gap : (x y : ℤ) → pos 0 <ℤ (y -ℤ x) → x <ℤ y
  by_gap x y h = omega (arith, ints)

  products : den *ℤ ((n *ℤ (denominator *ℤ denominator)) -ℤ ((numerator *ℤ denominator) *ℤ m)) ≡ (denominator *ℤ denominator) *ℤ ((n *ℤ den) -ℤ (num *ℤ m))
  products =
      ring (numerator ∷ denominator ∷ den ∷ n ∷ m ∷ [])
      (var 2 ⊗ ((var 3 ⊗ (var 1 ⊗ var 1)) ⊖ ((var 0 ⊗ var 1) ⊗ var 4)))
      (((var 1 ⊗ var 1) ⊗ (var 3 ⊗ var 2)) ⊖ ((var 0 ⊗ var 2) ⊗ (var 1 ⊗ var 4))) refl
      ∙ ap (λ z. ((denominator *ℤ denominator) *ℤ (n *ℤ den)) -ℤ (z *ℤ (denominator *ℤ m))) (sym same)
      ∙ ring (num ∷ denominator ∷ den ∷ n ∷ m ∷ [])
      (((var 1 ⊗ var 1) ⊗ (var 3 ⊗ var 2)) ⊖ ((var 0 ⊗ var 1) ⊗ (var 1 ⊗ var 4)))
      ((var 1 ⊗ var 1) ⊗ ((var 3 ⊗ var 2) ⊖ (var 0 ⊗ var 4))) refl

  before_place : (num *ℤ m) <ℤ (n *ℤ den) → ((numerator *ℤ denominator) *ℤ m) <ℤ (n *ℤ (denominator *ℤ denominator))
  before_place h = by_gap ((numerator *ℤ denominator) *ℤ m) (n *ℤ (denominator *ℤ denominator)) (pos_of_mul den _ up
      (subst (λ z. pos 0 <ℤ z) (sym products) (mul_pos (denominator *ℤ denominator) ((n *ℤ den) -ℤ (num *ℤ m)) some (gap (num *ℤ m) (n *ℤ den) h))))

  place_before : ((numerator *ℤ denominator) *ℤ m) <ℤ (n *ℤ (denominator *ℤ denominator)) → (num *ℤ m) <ℤ (n *ℤ den)
  place_before h = by_gap (num *ℤ m) (n *ℤ den) (pos_of_mul (denominator *ℤ denominator) _ some
      (subst (λ z. pos 0 <ℤ z) products (mul_pos den ((n *ℤ (denominator *ℤ denominator)) -ℤ ((numerator *ℤ denominator) *ℤ m)) up (gap ((numerator *ℤ denominator) *ℤ m) (n *ℤ (denominator *ℤ denominator)) h))))

module _ (x : SightState) (seen : IsSeen x) (edge : ℕ) (on : IsSeenEdge x edge) (e : Edge x.part) (at : IsNumbered x.halves edge e) (outlines : List ℕ) (listed : AreListed x edge outlines)
    (crossings sorted : List Crossing) (found : AreCrossings x e outlines crossings) (moved : IsPermutation crossings sorted) where
  -- ---- what each outline has changed
  square : (o : Edge x.part) → PassesNearer x.direction e o → pos 0 <ℤ (denominator_of x.direction e o *ℤ denominator_of x.direction e o)
  square o p = more _ _ p.after p.before
    where
      more : (a b : ℤ) → pos 0 <ℤ a → a <ℤ b → pos 0 <ℤ b
      more a b h l = omega (arith, ints)

  passed_or : (o : Edge x.part) (n m : ℤ) → (PassesNearer x.direction e o × IsCrossedBefore x.direction e o n m) ⊎ ¬ (PassesNearer x.direction e o × IsCrossedBefore x.direction e o n m)
  passed_or o n m =
      elim (less_or (pos 0) (numerator_of x.direction e o *ℤ denominator_of x.direction e o)) [
        | inr f ↦ inr (λ h. f h.0.after)
        | inl after ↦
            elim (less_or (numerator_of x.direction e o *ℤ denominator_of x.direction e o) (denominator_of x.direction e o *ℤ denominator_of x.direction e o)) [
              | inr f ↦ inr (λ h. f h.0.before)
              | inl before ↦
                  elim (less_or (pos 0) (height_numerator_of e o *ℤ denominator_of x.direction e o)) [
                    | inr f ↦ inr (λ h. f h.0.nearer)
                    | inl nearer ↦
                        elim (less_or ((numerator_of x.direction e o *ℤ denominator_of x.direction e o) *ℤ m) (n *ℤ (denominator_of x.direction e o *ℤ denominator_of x.direction e o))) [
                          | inr f ↦ inr (λ h. f h.1)
                          | inl crossed ↦ inl (record { after = after; before = before; nearer = nearer }, crossed)
                        ]
                  ]
            ]
      ]

  module _ (k : Side) (change : Crossing → ℤ) (is : (o : Edge x.part) (y : Crossing) → IsCrossing x.direction e o y → change y ≡ change_of k x.direction e o)
      (some : (o : Edge x.part) → change_of k x.direction e o ≢ pos 0 → (change_of to_left x.direction e o ≢ pos 0) ⊎ (change_of to_right x.direction e o ≢ pos 0)) where
    value : ℤ → ℤ → Option Crossing → ℤ
    value n m = of_option (change_before change n m)

    has_changed : (n m : ℤ) (o : Edge x.part) (answer : Option Crossing) → IsAcross x.direction e o answer → HasChanged k x.direction e o n m (of_option (change_before change n m) answer)
    has_changed n m o None none = elim (same_or (change_of k x.direction e o) (pos 0)) [
      | inl none_changed ↦ elim (passed_or o n m) [
        | inl h ↦ subst (HasChanged k x.direction e o n m) none_changed (passed h.0 h.1)
        | inr f ↦ not_passed f
      ]
      | inr f ↦ not_passed (λ h. none record { passes = h.0; some = some o f })
    ]
    has_changed n m o (Some y) across =
        let p = across.changes.passes in
        let up = square o p in
        by_lt_z (y.at.num *ℤ m) (n *ℤ y.at.den)
        (λ h. subst (HasChanged k x.direction e o n m) (sym (changed change n m y h ∙ is o y across))
        (passed p (before_place (numerator_of x.direction e o) (denominator_of x.direction e o) y.at.num y.at.den n m y.at.positive up across.at h)))
        (λ h. subst (HasChanged k x.direction e o n m) (sym (unchanged change n m y h))
        (not_passed (λ q. less_not_at_most (y.at.num *ℤ m) (n *ℤ y.at.den) (place_before (numerator_of x.direction e o) (denominator_of x.direction e o) y.at.num y.at.den n m y.at.positive up across.at q.1) h)))

    -- what each outline changes along the whole edge
    has_changed_along : (o : Edge x.part) (answer : Option Crossing) → IsAcross x.direction e o answer → HasChangedAlong k x.direction e o (of_option change answer)
    has_changed_along o None none = unchanged_along x.direction e o k none
    has_changed_along o (Some y) across = subst (HasChangedAlong k x.direction e o) (sym (is o y across)) (along across.changes.passes)

    -- the count next to the one end and the sum over the edge make the count next to the other
    count_over : (at_b : Bool) (z : ℤ) → IsCountNext k x.direction e at_b z → IsCountNext k x.direction e (not at_b) (cond at_b (z -ℤ total change sorted) (z +ℤ total change sorted))
    count_over at_b z next = by at_b next (counted_next k x.direction x.part seen.within e (not at_b))
      where
        same_total : total change sorted ≡ total (of_option change) found.answers
        same_total = total_permuted change crossings sorted moved ∙ ap (total change) found.all ∙ total_of_options change found.answers

        law : (covers covers' : List ℕ) → AreCovers k x.direction e false covers → AreCovers k x.direction e true covers' → pos (sum covers') ≡ pos (sum covers) +ℤ total (of_option change) found.answers
        law = next_along x.direction seen.directed x.part seen.sound seen.within k e x.halves seen.edges outlines
            (λ i d l. (listed.outline i d l).0) listed.once (λ i o there c. listed.changing e o i at there c) (of_option change) found.answers
            (all_zip_weaker (IsAnswer x e) (λ i a. (o : Edge x.part) → IsNumbered x.halves i o → HasChangedAlong k x.direction e o (of_option change a)) (λ i a h o there. has_changed_along o a (h o there)) outlines found.answers found.each)

        onward : (z t u a b : ℤ) → z ≡ a → t ≡ u → b ≡ a +ℤ u → z +ℤ t ≡ b
        onward z t u a b p q r = omega (arith, ints)

        back : (z t u a b : ℤ) → z ≡ a → t ≡ u → a ≡ b +ℤ u → z -ℤ t ≡ b
        back z t u a b p q r = omega (arith, ints)

        by : (at_b : Bool) → IsCountNext k x.direction e at_b z → (n : ℕ) × AreCountedNext k x.direction e (not at_b) n → IsCountNext k x.direction e (not at_b) (cond at_b (z -ℤ total change sorted) (z +ℤ total change sorted))
        by false next (n, there) = record {
          count = n;
          counted = there;
          all = onward z (total change sorted) (total (of_option change) found.answers) (pos (sum next.counted.covers)) (pos n) (next.all ∙ ap (λ (i : ℕ). pos i) next.counted.all) same_total
              (ap (λ (i : ℕ). pos i) there.all ∙ law next.counted.covers there.covers next.counted.next there.next);
        }
        by true next (n, there) = record {
          count = n;
          counted = there;
          all = back z (total change sorted) (total (of_option change) found.answers) (pos (sum next.counted.covers)) (pos n) (next.all ∙ ap (λ (i : ℕ). pos i) next.counted.all) same_total
              (law there.covers next.counted.covers there.next next.counted.next ∙ ap (λ (i : ℕ). pos i +ℤ total (of_option change) found.answers) (sym there.all));
        }

    -- and so that next to the first
    count_first : (at_b : Bool) (z : ℤ) → IsCountNext k x.direction e at_b z → IsCountNext k x.direction e false (cond at_b (z -ℤ total change sorted) z)
    count_first false z next = next
    count_first true z next = count_over true z next

    -- the sum at an ordinary point is the count there
    sum_is_count : (n m : ℤ) → pos 0 <ℤ n → n <ℤ m → IsOrdinary x.direction x.part (share_point e.a e.b n m) → (first : ℤ) → IsCountNext k x.direction e false first
        → (all : ℕ) → AreCounted k x.direction e (share_point e.a e.b n m) all → first +ℤ total (change_before change n m) sorted ≡ pos all
    sum_is_count n m after before ordinary first next all are =
        sums first (pos (sum next.counted.covers)) _ _ (pos all) (next.all ∙ ap (λ (i : ℕ). pos i) next.counted.all) same_total
        (count_listed x.direction seen.directed x.part seen.sound seen.within k e n m after before ordinary x.halves seen.edges outlines
        (λ i d l. (listed.outline i d l).0) listed.once (λ i o there c. listed.changing e o i at there c) (of_option (change_before change n m)) found.answers
        (all_zip_weaker (IsAnswer x e) (λ i a. (o : Edge x.part) → IsNumbered x.halves i o → HasChanged k x.direction e o n m (of_option (change_before change n m) a)) (λ i a h o there. has_changed n m o a (h o there)) outlines found.answers found.each)
        next.counted.covers next.counted.next.long next.counted.next.each all are)
      where
        same_total : total (change_before change n m) sorted ≡ total (of_option (change_before change n m)) found.answers
        same_total = total_permuted (change_before change n m) crossings sorted moved ∙ ap (total (change_before change n m)) found.all ∙ total_of_options (change_before change n m) found.answers

        sums : (f c s t z : ℤ) → f ≡ c → s ≡ t → z ≡ c +ℤ t → f +ℤ s ≡ z
        sums f c s t z p q r = omega (arith, ints)

  -- ---- both counts
  module _ (at_b : Bool) (here change : Sides) (next : AreCountsNext x edge at_b here) (left_is : change.left ≡ total (λ y. y.left) sorted) (right_is : change.right ≡ total (λ y. y.right) sorted) where
    pub left_first : IsCountNext to_left x.direction e false (cond at_b (here.left -ℤ change.left) here.left)
    left_first = subst (λ t. IsCountNext to_left x.direction e false (cond at_b (here.left -ℤ t) here.left)) (sym left_is)
        (count_first to_left (λ (z : Crossing). z.left) (λ o z c. c.left) (λ o f. inl f) at_b here.left (next.on_left e at))

    pub right_first : IsCountNext to_right x.direction e false (cond at_b (here.right -ℤ change.right) here.right)
    right_first = subst (λ t. IsCountNext to_right x.direction e false (cond at_b (here.right -ℤ t) here.right)) (sym right_is)
        (count_first to_right (λ (z : Crossing). z.right) (λ o z c. c.right) (λ o f. inr f) at_b here.right (next.on_right e at))

    pub left_over : IsCountNext to_left x.direction e (not at_b) (cond at_b (here.left -ℤ change.left) (here.left +ℤ change.left))
    left_over = subst (λ t. IsCountNext to_left x.direction e (not at_b) (cond at_b (here.left -ℤ t) (here.left +ℤ t))) (sym left_is)
        (count_over to_left (λ (z : Crossing). z.left) (λ o z c. c.left) (λ o f. inl f) at_b here.left (next.on_left e at))

    pub right_over : IsCountNext to_right x.direction e (not at_b) (cond at_b (here.right -ℤ change.right) (here.right +ℤ change.right))
    right_over = subst (λ t. IsCountNext to_right x.direction e (not at_b) (cond at_b (here.right -ℤ t) (here.right +ℤ t))) (sym right_is)
        (count_over to_right (λ (z : Crossing). z.right) (λ o z c. c.right) (λ o f. inr f) at_b here.right (next.on_right e at))

  -- ---- no span ends at an ordinary point
  outline_at : (i : ℕ) → Contains outlines i → (o : Edge x.part) × IsNumbered x.halves i o
  outline_at i c =
      let there : IsOutlineAt x i = All-contains (IsOutlineAt x) outlines i listed.outline c in
      edge_at x seen i there.0

  pub end_apart : (from to : Frac) → from.num ≡ pos 0 → to.num ≡ to.den → (r : Frac) → IsPlace r → IsCrossingEnd from to sorted r → ¬ IsOrdinary x.direction x.part (point_at e r)
  end_apart from to zero one r place (inl s) = not-at-start x.direction x.part e r.num r.den r.positive place.least place.most (s.0 ∙ zero)
  end_apart from to zero one r place (inr (inl s)) = not-at-finish x.direction x.part e r.num r.den r.positive place.least place.most (s.0 ∙ one ∙ sym s.1)
  end_apart from to zero one r place (inr (inr (y, there, same))) =
      let (i, listed_at, answer) = zip_some (IsAnswer x e) outlines found.answers found.each y (subst (λ (ys : List Crossing). Contains ys y) found.all (Contains-permutation sorted crossings y (IsPermutation-sym crossings sorted moved) there)) in
      let (o, o_at) = outline_at i listed_at in
      let across : IsCrossing x.direction e o y = answer o o_at in
      λ ordinary. crossing_not_ordinary x.direction e o across.changes y.at across.at
      (subst (λ d. IsOrdinary x.direction x.part (share_point e.a e.b y.at.num d)) same.1 (subst (λ n. IsOrdinary x.direction x.part (share_point e.a e.b n r.den)) same.0 ordinary))

  -- ---- the spans are right
  module _ (left right : ℤ) (first_left : IsCountNext to_left x.direction e false left) (first_right : IsCountNext to_right x.direction e false right)
      (from to : Frac) (zero : from.num ≡ pos 0) (one : to.num ≡ to.den) (spans : List CountSpan) (carried : AreCarried from to sorted left right spans) where
    span_right : (y : CountSpan) → IsCarried (λ (z : Crossing). z.left) sorted left y.from y.to y.left → IsCarried (λ (z : Crossing). z.right) sorted right y.from y.to y.right → IsRight x.direction e y
    span_right y l r n m up between ordinary =
        let after = between_inner y.from y.to n m up between y.from_place.least in
        let before = between_last y.from y.to n m up between y.to_place.most in
        let a = counts to_left x.direction x.part seen.within e (share_point e.a e.b n m) up in
        let b = counts to_right x.direction x.part seen.within e (share_point e.a e.b n m) up in
        let a_is : y.left ≡ a.0 = l n m up between a.0 (small a.0 (length x.part.triangles) (count_few x.part.triangles a.0 a.1) seen.few_triangles)
        (sum_is_count to_left (λ (z : Crossing). z.left) (λ o z c. c.left) (λ o f. inl f) n m after before ordinary left first_left a.0 a.1) in
        let b_is : y.right ≡ b.0 = r n m up between b.0 (small b.0 (length x.part.triangles) (count_few x.part.triangles b.0 b.1) seen.few_triangles)
        (sum_is_count to_right (λ (z : Crossing). z.right) (λ o z c. c.right) (λ o f. inr f) n m after before ordinary right first_right b.0 b.1) in
        let on_left = subst (AreCounted to_left x.direction e (share_point e.a e.b n m)) (sym a_is) a.1 in
        let on_right = subst (AreCounted to_right x.direction e (share_point e.a e.b n m)) (sym b_is) b.1 in
        record {
          on_left = on_left;
          on_right = on_right;
          hidden = hidden_counted x.direction seen.directed x.part seen.sound seen.within e (on.seen e at) n m after before ordinary y.left y.right on_left on_right;
        }
      where
        small : (n t : ℕ) → n ≤ t → t ≤ 20000 → n < 2 ^ 32
        small n t h l = omega arith

    pub spans_right : AreCountSpans x.direction e spans
    spans_right = record {
      covers = (from, to, zero, one, carried.covers);
      ends = λ k d h.
          let y = get_or spans k d in
          let z = carried.ends k d h in
          (end_apart from to zero one y.from y.from_place z.0, end_apart from to zero one y.to y.to_place z.1);
      right = λ k d h. span_right (get_or spans k d) (carried.on_left k d h) (carried.on_right k d h);
    }

-- ---- along an edge, from one of its ends
-- 0 is before 1
pub whole_edge : (from to : Frac) → from.num ≡ pos 0 → to.num ≡ to.den → IsEarlier from to
whole_edge from to zero one = subst (λ n. (n *ℤ to.den) <ℤ (to.num *ℤ from.den)) (sym zero) (subst (λ n. (pos 0 *ℤ to.den) <ℤ (n *ℤ from.den)) (sym one)
    (more to.den (to.den *ℤ from.den) (mul_pos to.den from.den to.positive from.positive)))
  where
    more : (x y : ℤ) → pos 0 <ℤ y → (pos 0 *ℤ x) <ℤ y
    more x y h = omega (arith, ints)

module _ (x : SightState) (seen : IsSeen x) (edge : ℕ) (on : IsSeenEdge x edge) (outlines : List ℕ) (listed : AreListed x edge outlines) (crossings sorted : List Crossing)
    (found : (e : Edge x.part) → IsNumbered x.halves edge e → AreCrossings x e outlines crossings) (moved : IsPermutation crossings sorted)
    (at_b : Bool) (here change : Sides) (next : AreCountsNext x edge at_b here) (left_is : change.left ≡ total (λ y. y.left) sorted) (right_is : change.right ≡ total (λ y. y.right) sorted) where
  -- the counts next to the other end
  pub counts_over : (far : Sides) → far.left ≡ cond at_b (here.left -ℤ change.left) (here.left +ℤ change.left) → far.right ≡ cond at_b (here.right -ℤ change.right) (here.right +ℤ change.right)
      → AreCountsNext x edge (not at_b) far
  counts_over far l r = record {
    on_left = λ e at. subst (IsCountNext to_left x.direction e (not at_b)) (sym l) (left_over x seen edge on e at outlines listed crossings sorted (found e at) moved at_b here change next left_is right_is);
    on_right = λ e at. subst (IsCountNext to_right x.direction e (not at_b)) (sym r) (right_over x seen edge on e at outlines listed crossings sorted (found e at) moved at_b here change next left_is right_is);
  }

  module _ (first : Sides) (l : first.left ≡ cond at_b (here.left -ℤ change.left) here.left) (r : first.right ≡ cond at_b (here.right -ℤ change.right) here.right) where
    -- those next to the first end
    pub counts_first : AreCountsNext x edge false first
    counts_first = record {
      on_left = λ e at. subst (IsCountNext to_left x.direction e false) (sym l) (left_first x seen edge on e at outlines listed crossings sorted (found e at) moved at_b here change next left_is right_is);
      on_right = λ e at. subst (IsCountNext to_right x.direction e false) (sym r) (right_first x seen edge on e at outlines listed crossings sorted (found e at) moved at_b here change next left_is right_is);
    }

    -- and the spans
    pub spans_carried : (e : Edge x.part) → IsNumbered x.halves edge e → (from to : Frac) → from.num ≡ pos 0 → to.num ≡ to.den → (spans : List CountSpan) → AreCarried from to sorted first.left first.right spans
        → AreCountSpans x.direction e spans
    spans_carried e at from to zero one spans carried =
        spans_right x seen edge on e at outlines listed crossings sorted (found e at) moved first.left first.right (counts_first.on_left e at) (counts_first.on_right e at) from to zero one spans carried
