-- Intervals in the order of their beginnings, put together where they overlap or touch.
use Rattle.std.proofs.Common.{◌≡◌, ℕ, ◌+◌, ◌<◌, ◌≤◌, List, [], ◌∷◌, ◌++◌, length, get_or, refl, Bool, is_lt, sym, subst, ◌∙◌, arith, ◌⊎◌, inl, inr, ⊎_elim, ◌↔◌}
use Rattle.std.specs.Prelude.{All, Contains}
use Rattle.std.specs.List.Sorted.{IsSortedByKey}
use Rattle.std.specs.declared.cmp.Ordering.{Ordering}
use Rattle.std.specs.declared.cmp.Ordering.TheVariants.{Less}
use Rattle.std.specs.Cmp.{IsTotalOrder}
use Rattle.std.proofs.lemmas.List.{get_or_default}
use Rattle.std.proofs.lemmas.List.MinMax.{ranks_by}
use Rattle.std.proofs.lemmas.List.Sorted.{sorted_far}
use Rattle.std.proofs.lemmas.List.Elements.{All-nil, All-push, All-weaker, Contains-append_right, Contains-append_cases, Contains-push_cases}
use Rattle.std.proofs.lemmas.List.Quantifiers.{all_pairs_push}
use Rattle.intervals.specs.declared.interval.Interval.{Interval}
use Rattle.intervals.specs.Cuts.{IsNotAfter, IsCut, IsProper, AreApart, Crosses, CrossesAny, IsEndOf, AreUnited}
use Rattle.intervals.proofs.Lists.{any_of, any_left, any_push, any_last, none, one, of_one}
use Rattle.intervals.proofs.Orders.{either, not_less, not_after, less, not_after_less, cut_false}

abbrev pub AreEndsOf : {T : Type 0} → List (Interval T) → Interval T → Type 0
AreEndsOf xs u = IsEndOf xs u.from × IsEndOf xs u.to

-- the intervals that are done are in the closed ones and in the one that is open
pub record AreJoined {T : Type 0} (cmp : T → T → Ordering) (done closed : List (Interval T)) (open' : Interval T) : Type 0 where
  pub apart : AreApart cmp closed
  pub before : All (λ x. cmp x.to open'.from ≡ Less) closed
  pub proper : IsProper cmp open'
  pub within : (cut : T → Bool) → IsCut cmp cut → (CrossesAny cut closed ⊎ Crosses cut open') ↔ CrossesAny cut done
  pub ends : All (AreEndsOf done) closed
  pub own_ends : AreEndsOf done open'

-- no interval from number k on begins before the value
abbrev pub BeginsBeforeRest : {T : Type 0} → (T → T → Ordering) → List (Interval T) → ℕ → T → Type 0
BeginsBeforeRest {T} cmp xs k t = (j : ℕ) (d : Interval T) → k ≤ j → j < length xs → IsNotAfter cmp t (get_or xs j d).from

module _ {T : Type 0} (cmp : T → T → Ordering) where
  apart_none : AreApart cmp []
  apart_none = record { inside = All-nil (IsProper cmp); apart = λ i j d h k. absurd (omega arith) }

  pub united_none : AreUnited cmp [] []
  united_none = record {
    apart = apart_none;
    within = λ cut is. (λ h. h, λ h. h);
    ends = All-nil (AreEndsOf []);
  }

  pub joined_first : (x : Interval T) → IsProper cmp x → AreJoined cmp (x ∷ []) [] x
  joined_first x proper = record {
    apart = apart_none;
    before = All-nil (λ (y : Interval T). cmp y.to x.from ≡ Less);
    proper = proper;
    within = λ cut is. (λ h. one (Crosses cut) x (⊎_elim (λ n. absurd (none (Crosses cut) n)) (λ c. c) h), λ h. inr (of_one (Crosses cut) x h));
    ends = All-nil (AreEndsOf (x ∷ []));
    own_ends = (one (λ y. (y.from ≡ x.from) ⊎ (y.to ≡ x.from)) x (inl refl), one (λ y. (y.from ≡ x.to) ⊎ (y.to ≡ x.to)) x (inr refl));
  }

module _ {T : Type 0} (xs ys : List (Interval T)) where
  pub end_left : (t : T) → IsEndOf xs t → IsEndOf (xs ++ ys) t
  end_left t h = any_left (λ x. (x.from ≡ t) ⊎ (x.to ≡ t)) xs ys h

  pub ends_left : (u : Interval T) → AreEndsOf xs u → AreEndsOf (xs ++ ys) u
  ends_left u h = (end_left u.from h.0, end_left u.to h.1)

module _ {T : Type 0} (xs : List (Interval T)) (x : Interval T) where
  from_last : IsEndOf (xs ++ x ∷ []) x.from
  from_last = any_last (λ y. (y.from ≡ x.from) ⊎ (y.to ≡ x.from)) xs x (inl refl)

  to_last : IsEndOf (xs ++ x ∷ []) x.to
  to_last = any_last (λ y. (y.from ≡ x.to) ⊎ (y.to ≡ x.to)) xs x (inr refl)

module _ {T : Type 0} {cmp : T → T → Ordering} (o : IsTotalOrder cmp) (done closed : List (Interval T)) (open' : Interval T) (joined : AreJoined cmp done closed open') where
  pub united : AreUnited cmp done (closed ++ open' ∷ [])
  united = record {
    apart = record {
      inside = All-push (IsProper cmp) closed open' joined.apart.inside joined.proper;
      apart = all_pairs_push (λ x y. cmp x.to y.from ≡ Less) closed open' joined.apart.apart joined.before;
    };
    within = λ cut is. let old = joined.within cut is in (
      λ h. old.0 (any_push (Crosses cut) closed open' h),
      λ h. ⊎_elim (λ c. any_left (Crosses cut) closed (open' ∷ []) c) (λ c. any_last (Crosses cut) closed open' c) (old.1 h),
    );
    ends = All-push (AreEndsOf done) closed open' joined.ends joined.own_ends;
  }

  -- ---- the next interval, x
  module _ (x : Interval T) (proper : IsProper cmp x) (forth : IsNotAfter cmp open'.from x.from) where
    more : List (Interval T)
    more = done ++ x ∷ []

    ends_more : All (AreEndsOf (done ++ x ∷ [])) closed
    ends_more = All-weaker (AreEndsOf done) (AreEndsOf (done ++ x ∷ [])) (ends_left done (x ∷ [])) closed joined.ends

    -- it ends within the open one
    pub joined_inside : IsNotAfter cmp x.to open'.to → AreJoined cmp (done ++ x ∷ []) closed open'
    joined_inside last = record {
      apart = joined.apart;
      before = joined.before;
      proper = joined.proper;
      within = λ cut is. let old = joined.within cut is in (
        λ h. any_left (Crosses cut) done (x ∷ []) (old.0 h),
        λ h. ⊎_elim (λ c. old.1 c) (λ c. inr (is open'.from x.from c.0 forth, cut_false o cut is x.to open'.to c.1 last)) (any_push (Crosses cut) done x h),
      );
      ends = ends_more;
      own_ends = ends_left done (x ∷ []) open' joined.own_ends;
    }

    -- it goes on where the open one is, and ends after it
    pub joined_longer : IsNotAfter cmp x.from open'.to → cmp open'.to x.to ≡ Less → AreJoined cmp (done ++ x ∷ []) closed (record { from = open'.from; to = x.to })
    joined_longer touch later = record {
      apart = joined.apart;
      before = joined.before;
      proper = not_after_less o open'.from x.from x.to forth proper;
      within = λ cut is. let old = joined.within cut is in (
        λ h. ⊎_elim (λ c. any_left (Crosses cut) done (x ∷ []) (old.0 (inl c)))
            (λ c. ⊎_elim
            (λ e. any_last (Crosses cut) done x (is x.from open'.to e touch, c.1))
            (λ e. any_left (Crosses cut) done (x ∷ []) (old.0 (inr (c.0, e)))) (either (cut open'.to))) h,
        λ h. ⊎_elim
            (λ c. ⊎_elim (λ k. inl k) (λ k. inr (k.0, cut_false o cut is open'.to x.to k.1 (less o open'.to x.to later))) (old.1 c))
            (λ c. inr (is open'.from x.from c.0 forth, c.1)) (any_push (Crosses cut) done x h),
      );
      ends = ends_more;
      own_ends = (end_left done (x ∷ []) open'.from joined.own_ends.0, to_last done x);
    }

    -- it begins after the open one, which is closed
    pub joined_next : cmp open'.to x.from ≡ Less → AreJoined cmp (done ++ x ∷ []) (closed ++ open' ∷ []) x
    joined_next after = record {
      apart = united.apart;
      before = All-push (λ (y : Interval T). cmp y.to x.from ≡ Less) closed open'
          (λ k d h. o.trans (get_or closed k d).to open'.to x.from (o.trans (get_or closed k d).to open'.from open'.to (joined.before k d h) joined.proper) after) after;
      proper = proper;
      within = λ cut is. let old = united.within cut is in (
        λ h. ⊎_elim (λ c. any_left (Crosses cut) done (x ∷ []) (old.0 c)) (λ c. any_last (Crosses cut) done x c) h,
        λ h. ⊎_elim (λ c. inl (old.1 c)) (λ c. inr c) (any_push (Crosses cut) done x h),
      );
      ends = All-weaker (AreEndsOf done) (AreEndsOf (done ++ x ∷ [])) (ends_left done (x ∷ [])) (closed ++ open' ∷ []) united.ends;
      own_ends = (from_last done x, to_last done x);
    }

-- ---- the same intervals as another list
module _ {T : Type 0} (cmp : T → T → Ordering) (xs ys us : List (Interval T)) (forth : (x : Interval T) → Contains xs x → Contains ys x) (back : (x : Interval T) → Contains ys x → Contains xs x) where
  end_same : (t : T) → IsEndOf xs t → IsEndOf ys t
  end_same t h = any_of (λ x. (x.from ≡ t) ⊎ (x.to ≡ t)) ys h.1 (forth h.1 (h.0, h.2, h.3)) h.4

  pub united_same : AreUnited cmp xs us → AreUnited cmp ys us
  united_same u = record {
    apart = u.apart;
    within = λ cut is. let old = u.within cut is in (
      λ h. let y = old.0 h in any_of (Crosses cut) ys y.1 (forth y.1 (y.0, y.2, y.3)) y.4,
      λ h. old.1 (any_of (Crosses cut) xs h.1 (back h.1 (h.0, h.2, h.3)) h.4),
    );
    ends = λ k d h. (end_same (get_or us k d).from (u.ends k d h).0, end_same (get_or us k d).to (u.ends k d h).1);
  }

-- the first one given twice
pub united_first : {T : Type 0} (cmp : T → T → Ordering) (first : Interval T) (xs us : List (Interval T)) → Contains xs first → AreUnited cmp (first ∷ xs) us → AreUnited cmp xs us
united_first cmp first xs us there u = united_same cmp (first ∷ xs) xs us
    (λ x h. ⊎_elim (λ c. ⊎_elim (λ n. absurd (omega (arith, n.1))) (λ e. subst (λ y. Contains xs y) e there) (Contains-push_cases [] first x c)) (λ c. c) (Contains-append_cases (first ∷ []) xs x h))
    (λ x h. Contains-append_right (first ∷ []) xs x h) u

-- ---- the order of the intervals
module _ {T : Type 0} {cmp : T → T → Ordering} (o : IsTotalOrder cmp) (xs : List (Interval T)) where
  pub begins_before : IsSortedByKey (λ x. x.from) cmp xs → (k : ℕ) (x : Interval T) → k < length xs → get_or xs k x ≡ x → BeginsBeforeRest cmp xs k x.from
  begins_before up k x within at j d h long =
      let far = sorted_far (λ (x y : Interval T). is_lt (cmp x.from y.from)) (ranks_by o (λ (x : Interval T). x.from)) xs up k j d h long in
      subst (λ (y : Interval T). IsNotAfter cmp y.from (get_or xs j d).from) (sym (get_or_default xs k x d within) ∙ at)
      (not_after o (get_or xs j d).from (get_or xs k d).from (not_less _ far))

  pub begins_less : (k : ℕ) (t : T) → BeginsBeforeRest cmp xs k t → BeginsBeforeRest cmp xs (k + 1) t
  begins_less k t h j d le long = h j d (omega arith) long

  pub begins_at : (k : ℕ) (t : T) (x : Interval T) → BeginsBeforeRest cmp xs k t → k < length xs → get_or xs k x ≡ x → IsNotAfter cmp t x.from
  begins_at k t x h long at = subst (λ (y : Interval T). IsNotAfter cmp t y.from) at (h k x (omega arith) long)
