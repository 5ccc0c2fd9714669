-- Where something is so along an edge up to a place, and what is added up to the next one.
use Rattle.std.proofs.Common.{◌≡◌, ◌⊎◌, inl, inr, ⊎_elim, List, [], ◌∷◌, ◌++◌, All, get_or, refl, sym, subst, arith}
use Rattle.std.specs.Prelude.{ℤ, pos, ◌-ℤ◌, ◌*ℤ◌, ◌<ℤ◌, ◌≤ℤ◌, ◌↔◌}
use Rattle.std.proofs.lemmas.Int.{ints}
use Rattle.std.proofs.lemmas.List.Elements.{All-nil, All-push, All-contains}
use Rattle.integers.proofs.Comparisons.{less_not_at_most, at_most_of_less, at_most_of_same, positive_of_more}
use Rattle.integers.proofs.Ring.{var, ◌⊖◌, ◌⊗◌, ring, less_by, gap_of_less}
use Rattle.integers.proofs.Signs.{mul_nonneg, mul_pos}
use Rattle.exact_frac.specs.declared.Frac.{Frac}
use Rattle.lattice.specs.Points.{Point}
use Rattle.geometry.specs.Faces.{share_point}
use Rattle.geometry.specs.Parts.{Part, Edge}
use Rattle.intervals.specs.declared.interval.Interval.{Interval}
use Rattle.geometry.specs.Places.{IsPlace, IsEarlier, IsSame, IsBetween, HasNoEndAt}
use Rattle.cut_plane.specs.Beyond.{IsWithinAny, IsStretch}
use Rattle.span_slow.specs.inner.Hidden.{AreWhereAt}
use Rattle.span_slow.specs.inner.Sections.{mediant_point, IsKept, IsStretchAdded, IsApartFrom, AreWhereUpTo}
use Rattle.geometry.proofs.PlaceOrder.{three, less_most, most_most, IsNotLater, between_earlier}
use Rattle.geometry.proofs.SamePlaces.{same_back, same_value, same_between, same_earlier}
use Rattle.span_slow.proofs.Within.{within_old, within_new, within_cases}

module _ (O : Point → Type 0) {s : Part} (e : Edge s) (P : Point → Type 0) where
  -- ---- the ends of the edge
  -- nothing is before 0
  pub up_to_start : (to : Frac) → to.num ≡ pos 0 → IsApartFrom O e to → AreWhereUpTo O e P to []
  up_to_start to zero apart = record {
    stretches = All-nil IsStretch;
    ends = All-nil (λ (x : Interval Frac). HasNoEndAt O e x.from x.to);
    before = All-nil (λ (x : Interval Frac). IsNotLater x.to to);
    apart = apart;
    exactly = λ n m first last less ordinary. absurd (none (n *ℤ to.den) m (mul_nonneg n to.den (at_most_of_less _ _ first) (at_most_of_less _ _ to.positive)) (subst (λ v. (n *ℤ to.den) <ℤ (v *ℤ m)) zero less));
  }
    where
      none : (x m : ℤ) → pos 0 ≤ℤ x → x <ℤ (pos 0 *ℤ m) → ⊥
      none x m h k = omega (arith, ints)

  -- all is before 1
  pub up_to_finish : (to : Frac) → to.num ≡ to.den → (xs : List (Interval Frac)) → AreWhereUpTo O e P to xs → AreWhereAt O e P xs
  up_to_finish to one xs h = record {
    stretches = h.stretches;
    ends = h.ends;
    exactly = λ n m first last. h.exactly n m first last (subst (λ v. (n *ℤ to.den) <ℤ (v *ℤ m)) (sym one) (less n m to.den last to.positive));
  }
    where
      less : (n m l : ℤ) → n <ℤ m → pos 0 <ℤ l → (n *ℤ l) <ℤ (l *ℤ m)
      less n m l h up = less_by (n *ℤ l) (l *ℤ m) (l *ℤ (m -ℤ n)) (ring (n ∷ m ∷ l ∷ []) ((var 2 ⊗ var 1) ⊖ (var 0 ⊗ var 2)) (var 2 ⊗ (var 1 ⊖ var 0)) refl) (mul_pos l (m -ℤ n) up (gap_of_less n m h))

  -- ---- from one place to the next: if P holds at a place between the two, it holds at all of them
  module _ (from to : Frac) (later : IsNotLater from to) (apart : IsApartFrom O e to)
      (alike : IsEarlier from to → (n m : ℤ) → pos 0 <ℤ m → IsBetween from to n m → P (share_point e.a e.b n m) ↔ P (mediant_point e from to))
      (old : List (Interval Frac)) (before : AreWhereUpTo O e P from old) where
    -- n / m is before both, or strictly between them
    side : (n m : ℤ) → pos 0 <ℤ n → n <ℤ m → O (share_point e.a e.b n m) → (n *ℤ to.den) <ℤ (to.num *ℤ m) → ((n *ℤ from.den) <ℤ (from.num *ℤ m)) ⊎ IsBetween from to n m
    side n m first last here less = ⊎_elim
        (λ l. inl l)
        (λ r. ⊎_elim (λ same. absurd (before.apart n m (positive_of_more n m first last) (at_most_of_less _ _ first) (at_most_of_less _ _ last) same here)) (λ g. inr (g, less)) r)
        (three (n *ℤ from.den) (from.num *ℤ m))

    not_both : (n m : ℤ) → (n *ℤ from.den) <ℤ (from.num *ℤ m) → IsBetween from to n m → ⊥
    not_both n m less between = less_not_at_most (n *ℤ from.den) (from.num *ℤ m) less (at_most_of_less _ _ between.0)

    old_less : (n m : ℤ) → pos 0 <ℤ m → IsWithinAny old n m → (n *ℤ from.den) <ℤ (from.num *ℤ m)
    old_less n m up (x, listed, between) = less_most n m x.to.num x.to.den from.num from.den up x.to.positive from.positive between.1 (All-contains (λ (x : Interval Frac). IsNotLater x.to from) old x before.before listed)

    still_before : All (λ x. IsNotLater x.to to) old
    still_before k d h = let x = get_or old k d in most_most x.to.num x.to.den from.num from.den to.num to.den x.to.positive from.positive to.positive (before.before k d h) later

    none_kept : ¬ IsKept e P from to → AreWhereUpTo O e P to old
    none_kept not = record {
      stretches = before.stretches;
      ends = before.ends;
      before = still_before;
      apart = apart;
      exactly = λ n m first last less here. ⊎_elim (λ l. before.exactly n m first last l here) (λ b.
          let up = positive_of_more n m first last in
          let earlier = between_earlier from to n m up b in (
            (λ p. absurd (not (earlier, (alike earlier n m up b).0 p))),
            (λ w. absurd (not_both n m (old_less n m up w) b)),
          )) (side n m first last here less);
    }

    one_kept : IsKept e P from to → (x : Interval Frac) → IsSame x.from from → IsSame x.to to → IsPlace x.from × IsPlace x.to → AreWhereUpTo O e P to (old ++ x ∷ [])
    one_kept kept x same_from same_to places = record {
      stretches = All-push IsStretch old x before.stretches (record { from_place = places.0; to_place = places.1; earlier = same_earlier from to x.from x.to back_from back_to kept.0 });
      ends = All-push (λ (x : Interval Frac). HasNoEndAt O e x.from x.to) old x before.ends (
        before.apart x.from.num x.from.den x.from.positive places.0.least places.0.most (same_value x.from from x.from.num x.from.den same_from refl),
        apart x.to.num x.to.den x.to.positive places.1.least places.1.most at_to,
      );
      before = All-push (λ (x : Interval Frac). IsNotLater x.to to) old x still_before (at_most_of_same _ _ at_to);
      apart = apart;
      exactly = λ n m first last less here. ⊎_elim (λ l.
          let known = before.exactly n m first last l here in (
            (λ p. within_old old x n m (known.0 p)),
            (λ w. ⊎_elim (λ h. known.1 h) (λ b. absurd (not_both n m l (same_between x.from x.to from to n m same_from same_to b))) (within_cases old x n m w)),
          )) (λ b. (
            (λ p. within_new old x n m (same_between from to x.from x.to n m back_from back_to b)),
            (λ w. (alike kept.0 n m (positive_of_more n m first last) b).1 kept.1),
          )) (side n m first last here less);
    }
      where
        back_from : IsSame from x.from
        back_from = same_back x.from from same_from

        back_to : IsSame to x.to
        back_to = same_back x.to to same_to

        at_to : x.to.num *ℤ to.den ≡ to.num *ℤ x.to.den
        at_to = same_value x.to to x.to.num x.to.den same_to refl

    pub up_to_next : IsPlace from → IsPlace to → (new : List (Interval Frac)) → IsStretchAdded e P from to old new → AreWhereUpTo O e P to new
    up_to_next from_place to_place new added = ⊎_elim
        (λ h. subst (λ xs. AreWhereUpTo O e P to xs) (sym h.1) (one_kept h.0 (record { from = from; to = to }) (refl, refl) (refl, refl) (from_place, to_place)))
        (λ h. subst (λ xs. AreWhereUpTo O e P to xs) (sym h.1) (none_kept h.0)) added
