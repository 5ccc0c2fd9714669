-- Spans that are right for the united intervals are right for those that were united.
use Rattle.std.proofs.Common.{◌≡◌, inl, inr, ⊎_elim, Bool, List, get_or, sym, ap, subst}
use Rattle.std.specs.Prelude.{ℤ, pos, ◌*ℤ◌, ◌<ℤ◌, ◌≤ℤ◌, All}
use Rattle.std.specs.Int.Signed.{lt_z}
use Rattle.std.specs.Cmp.{int_cmp_is}
use Rattle.std.specs.declared.cmp.Ordering.TheVariants.{Less, Greater}
use Rattle.std.proofs.lemmas.Int.{by_lt_z}
use Rattle.std.proofs.lemmas.List.Elements.{All-contains}
use Rattle.integers.proofs.Comparisons.{at_most_of_less, less_not_same, positive_not_zero}
use Rattle.integers.proofs.Orders.{less_of_cmp, lt_z_of_less, lt_z_of_at_most}
use Rattle.exact_frac.specs.declared.Frac.{Frac}
use Rattle.exact_frac.specs.Frac.{order_of}
use Rattle.intervals.specs.declared.interval.Interval.{Interval}
use Rattle.intervals.specs.Cuts.{IsCut, IsProper, IsEndOf, Crosses, CrossesAny, AreUnited}
use Rattle.intervals.proofs.Lists.{any_of}
use Rattle.geometry.specs.Places.{IsPlace, IsSame, IsValue}
use Rattle.geometry.proofs.PlaceFractions.{strict}
use Rattle.geometry.proofs.PlaceOrder.{most_less, between_inner, between_last, zero_value, one_value}
use Rattle.geometry.proofs.SamePlaces.{same_value}
use Rattle.cut_plane.proofs.Tested.{less_of, most_of}
use Rattle.lattice.specs.declared.spans.Span.{Span}
use Rattle.cut_plane.specs.Beyond.{IsStretch, IsWithinAny}
use Rattle.span_slow.specs.inner.Hidden.{IsAtEnd, IsIntervalEnd, TellsWithin, AreSpansOf}
use Rattle.span_slow.proofs.Same.{same_known}

-- ---- the places before n / m are a cut of the fractions
abbrev is_before : ℤ → ℤ → Frac → Bool
is_before n m r = lt_z (r.num *ℤ m) (n *ℤ r.den)

before_is_cut : (n m : ℤ) → pos 0 <ℤ m → IsCut order_of (is_before n m)
before_is_cut n m up x y at forth =
    lt_z_of_less (x.num *ℤ m) (n *ℤ x.den) (most_less x.num x.den y.num y.den n m x.positive y.positive up first (less_of (y.num *ℤ m) (n *ℤ y.den) at))
  where
    first : (x.num *ℤ y.den) ≤ℤ (y.num *ℤ x.den)
    first = by_lt_z (y.num *ℤ x.den) (x.num *ℤ y.den) (λ less. absurd (forth (sym (int_cmp_is (x.num *ℤ y.den) (y.num *ℤ x.den) Greater less)))) (λ most. most)

-- ---- what is given
pub given_proper : (xs : List (Interval Frac)) → All IsStretch xs → All (IsProper order_of) xs
given_proper xs stretches k d h =
    let x = get_or xs k d in sym (int_cmp_is (x.from.num *ℤ x.to.den) (x.to.num *ℤ x.from.den) Less (stretches k d h).earlier)

-- what holds of the ends of all intervals holds of an end of one
of_end : (P : Frac → Type 0) (xs : List (Interval Frac)) → All (λ x. P x.from × P x.to) xs → (r : Frac) → IsEndOf xs r → P r
of_end P xs all r (k, x, within, at, is) =
    let both = All-contains (λ x. P x.from × P x.to) xs x all (k, within, at) in
    ⊎_elim (λ e. subst P e both.0) (λ e. subst P e both.1) is

-- ---- through the united intervals
module _ (xs united : List (Interval Frac)) (u : AreUnited order_of xs united) where
  pub united_stretches : All IsStretch xs → All IsStretch united
  united_stretches stretches k d h = record {
    from_place = of_end IsPlace xs places (get_or united k d).from (u.ends k d h).0;
    to_place = of_end IsPlace xs places (get_or united k d).to (u.ends k d h).1;
    earlier = less_of_cmp _ _ (u.apart.inside k d h);
  }
    where
      places : All (λ x. IsPlace x.from × IsPlace x.to) xs
      places k d h = ((stretches k d h).from_place, (stretches k d h).to_place)

  known_end : (r : Frac) → IsEndOf xs r → IsIntervalEnd xs r
  known_end r (k, x, within, at, is) = inr (inr (x, (k, within, at), ⊎_elim (λ e. inl (same_of x.from e)) (λ e. inr (same_of x.to e)) is))
    where
      same_of : (q : Frac) → q ≡ r → IsSame r q
      same_of q e = (sym (ap (λ (p : Frac). p.num) e), sym (ap (λ (p : Frac). p.den) e))

  known : All (λ x. IsIntervalEnd xs x.from × IsIntervalEnd xs x.to) united
  known k d h = (known_end (get_or united k d).from (u.ends k d h).0, known_end (get_or united k d).to (u.ends k d h).1)

  known_through : (r : Frac) → IsIntervalEnd united r → IsIntervalEnd xs r
  known_through r h = ⊎_elim (λ z. inl z) (λ k. ⊎_elim (λ z. inr (inl z)) (λ e.
      let ends = All-contains (λ (x : Interval Frac). IsIntervalEnd xs x.from × IsIntervalEnd xs x.to) united e.0 known e.1 in
      ⊎_elim (λ s. same_known xs r e.0.from s ends.0) (λ s. same_known xs r e.0.to s ends.1) e.2) k) h

  -- a place that is not 0 or 1 is at a known place only where it is at an end
  at_known : (r : Frac) (n m : ℤ) → pos 0 <ℤ n → n <ℤ m → IsIntervalEnd xs r → IsValue r n m → IsAtEnd xs n m
  at_known r n m first last known is = ⊎_elim
      (λ z. absurd (positive_not_zero n first (zero_value r n m z is)))
      (λ k. ⊎_elim (λ z. absurd (less_not_same n m last (one_value r n m z is)))
      (λ e. (e.0, e.1, ⊎_elim (λ s. inl (same_value r e.0.from n m s is)) (λ s. inr (same_value r e.0.to n m s is)) e.2)) k) known

  end_through : (n m : ℤ) → pos 0 <ℤ n → n <ℤ m → IsAtEnd united n m → IsAtEnd xs n m
  end_through n m first last h =
      let ends = All-contains (λ (x : Interval Frac). IsIntervalEnd xs x.from × IsIntervalEnd xs x.to) united h.0 known h.1 in
      ⊎_elim (λ is. at_known h.0.from n m first last ends.0 is) (λ is. at_known h.0.to n m first last ends.1 is) h.2

  -- ---- a place that is at no end is within an interval exactly where its cut goes through one
  module _ (n m : ℤ) (up : pos 0 <ℤ m) where
    through : (ys : List (Interval Frac)) → IsWithinAny ys n m → CrossesAny (is_before n m) ys
    through ys (x, listed, between) =
        any_of (Crosses (is_before n m)) ys x listed (lt_z_of_less (x.from.num *ℤ m) (n *ℤ x.from.den) between.0, lt_z_of_at_most (x.to.num *ℤ m) (n *ℤ x.to.den) (at_most_of_less (n *ℤ x.to.den) (x.to.num *ℤ m) between.1))

    within : (ys : List (Interval Frac)) → ¬ IsAtEnd ys n m → CrossesAny (is_before n m) ys → IsWithinAny ys n m
    within ys off (k, x, long, at, crosses) = (
      x,
      (k, long, at),
      (
        less_of (x.from.num *ℤ m) (n *ℤ x.from.den) crosses.0,
        strict (most_of (x.to.num *ℤ m) (n *ℤ x.to.den) crosses.1) (λ e. off (x, (k, long, at), inr e)),
      ),
    )

  tells_through : (x : Span) → TellsWithin united x → TellsWithin xs x
  tells_through x tells n m up between off =
      let first = between_inner x.from x.to n m up between x.from_place.least in
      let last = between_last x.from x.to n m up between x.to_place.most in
      let off_united : ¬ IsAtEnd united n m = λ e. off (end_through n m first last e) in
      let told = tells n m up between off_united in
      let crossed = u.within (is_before n m) (before_is_cut n m up) in (
        λ h. within n m up xs off (crossed.0 (through n m up united (told.0 h))),
        λ h. told.1 (within n m up united off_united (crossed.1 (through n m up xs h))),
      )

  pub spans_through : (spans : List Span) → AreSpansOf united spans → AreSpansOf xs spans
  spans_through spans right = record {
    covers = right.covers;
    ends = λ k d h. (known_through (get_or spans k d).from (right.ends k d h).0, known_through (get_or spans k d).to (right.ends k d h).1);
    tells = λ k d h. tells_through (get_or spans k d) (right.tells k d h);
    alternate = right.alternate;
  }
