-- What parts leave of whole intervals, of one after the other.
use Rattle.std.proofs.Common.{◌≡◌, ℕ, ◌+◌, ◌<◌, ◌≤◌, List, [], ◌∷◌, ◌++◌, length, get_or, refl, Bool, true, false, is_lt, sym, ap, subst, ◌∙◌, true≢false, arith, ◌⊎◌, inl, inr, ⊎_elim, ◌↔◌}
use Rattle.std.specs.Prelude.{All, Any, Contains, not}
use Rattle.std.specs.declared.cmp.Ordering.{Ordering}
use Rattle.std.specs.declared.cmp.Ordering.TheVariants.{Less}
use Rattle.std.specs.Cmp.{IsTotalOrder}
use Rattle.std.proofs.lemmas.Bool.{cases_lt, not-true}
use Rattle.std.proofs.lemmas.Cmp.{tied_itself}
use Rattle.std.proofs.lemmas.List.{append_assoc, get_or_default}
use Rattle.std.proofs.lemmas.List.Elements.{All-nil, All-push, All-weaker, All-append, All-contains}
use Rattle.std.proofs.lemmas.List.Quantifiers.{all_pairs_push}
use Rattle.intervals.specs.declared.interval.Interval.{Interval}
use Rattle.intervals.specs.Cuts.{IsNotAfter, IsCut, IsProper, AreApart, Crosses, CrossesAny, IsEndOf, AreRest}
use Rattle.intervals.specs.inner.Steps.{IsAdded, IsRestAdded, EndBefore}
use Rattle.intervals.proofs.Lists.{any_of, any_left, any_right, any_cases, any_push, any_last, none, one, of_one, pairs_append}
use Rattle.intervals.proofs.Orders.{either, not_true, not_less, not_after, less, itself, not_after_less, less_not_after, not_after_not_after, cut_false, before_value, up_to_value}

abbrev pub IsKnown : {T : Type 0} → List (Interval T) → List (Interval T) → T → Type 0
IsKnown whole parts t = IsEndOf whole t ⊎ IsEndOf parts t

abbrev pub AreKnown : {T : Type 0} → List (Interval T) → List (Interval T) → Interval T → Type 0
AreKnown whole parts r = IsKnown whole parts r.from × IsKnown whole parts r.to

-- the first k parts are taken from x as far as the value, and this is added
pub record IsRestUpTo {T : Type 0} (cmp : T → T → Ordering) (x : Interval T) (parts : List (Interval T)) (k : ℕ) (t : T) (added : List (Interval T)) : Type 0 where
  pub apart : AreApart cmp added
  pub before : All (λ r. cmp r.to t ≡ Less) added
  pub forth : IsNotAfter cmp x.from t
  pub inside : cmp t x.to ≡ Less
  pub known : IsKnown (x ∷ []) parts t
  pub passed : (j : ℕ) (d : Interval T) → j < k → j < length parts → IsNotAfter cmp (get_or parts j d).to t
  pub within : (cut : T → Bool) → IsCut cmp cut → CrossesAny cut added ↔ ((cut x.from ≡ true) × (cut t ≡ false) × ¬ CrossesAny cut parts)
  pub ends : All (AreKnown (x ∷ []) parts) added

-- none of the parts from number k on begins before the value
abbrev pub BeginLater : {T : Type 0} → (T → T → Ordering) → List (Interval T) → ℕ → T → Type 0
BeginLater {T} cmp parts k t = (j : ℕ) (d : Interval T) → k ≤ j → j < length parts → IsNotAfter cmp t (get_or parts j d).from

pub added_on : (T : Type 0) (cmp : T → T → Ordering) (from to : T) (start added whole new : List (Interval T)) → whole ≡ start ++ added → IsAdded cmp from to whole new
    → (more : List (Interval T)) × (new ≡ start ++ more) × IsAdded cmp from to added more
added_on T cmp from to start added whole new all h = ⊎_elim
    (λ a. let r : Interval T = record { from = from; to = to } in (added ++ r ∷ [], a.1 ∙ ap (λ (us : List (Interval T)). us ++ r ∷ []) all ∙ append_assoc start added (r ∷ []), inl (a.0, refl)))
    (λ a. (added, a.1 ∙ all, inr (a.0, refl))) h

module _ {T : Type 0} {cmp : T → T → Ordering} (o : IsTotalOrder cmp) where
  pub rest_first : (x : Interval T) (parts : List (Interval T)) (k : ℕ) → IsProper cmp x → EndBefore cmp x.from parts k → IsRestUpTo cmp x parts k x.from []
  rest_first x parts k proper passed = record {
    apart = record { inside = All-nil (IsProper cmp); apart = λ i j d h l. absurd (omega (arith, l)) };
    before = All-nil (λ (r : Interval T). cmp r.to x.from ≡ Less);
    forth = itself o x.from;
    inside = proper;
    known = inl (one (λ y. (y.from ≡ x.from) ⊎ (y.to ≡ x.from)) x (inl refl));
    passed = λ j d h l. less o (get_or parts j d).to x.from (passed j d h l);
    within = λ cut is. (λ h. absurd (none (Crosses cut) h), λ h. absurd (true≢false (sym h.0 ∙ h.1)));
    ends = All-nil (AreKnown (x ∷ []) parts);
  }

  -- the parts begin one after the other
  begin_later : (parts : List (Interval T)) → AreApart cmp parts → (k : ℕ) (p : Interval T) → k < length parts → get_or parts k p ≡ p → (t : T) → IsNotAfter cmp t p.from → BeginLater cmp parts k t
  begin_later parts apart k p long at t before j d le l = ⊎_elim
      (λ h. less o t (get_or parts j d).from
      (o.trans t p.to (get_or parts j d).from (not_after_less o t p.from p.to before proper) (subst (λ (y : Interval T). cmp y.to (get_or parts j d).from ≡ Less) (here d) (apart.apart k j d h l))))
      (λ h. subst (λ (y : Interval T). IsNotAfter cmp t y.from) (sym (ap (λ i. get_or parts i d) (same k j le h) ∙ here d)) before)
      (cases_lt k j)
    where
      proper : IsProper cmp p
      proper = subst (IsProper cmp) at (apart.inside k p long)

      here : (d : Interval T) → get_or parts k d ≡ p
      here d = sym (get_or_default parts k p d long) ∙ at

      same : (k j : ℕ) → k ≤ j → j ≤ k → j ≡ k
      same k j a b = omega arith

-- the value where the part number k begins or x ends
module _ {T : Type 0} {cmp : T → T → Ordering} (o : IsTotalOrder cmp) (x : Interval T) (parts : List (Interval T)) (k : ℕ) (p : Interval T) (long : k < length parts) (at : get_or parts k p ≡ p) (to : T) (which : (to ≡ p.from) ⊎ (to ≡ x.to)) where
  known_first : IsKnown (x ∷ []) parts to
  known_first = ⊎_elim
      (λ e. inr (any_of (λ y. (y.from ≡ to) ⊎ (y.to ≡ to)) parts p (k, long, at) (inl (sym e))))
      (λ e. inl (one (λ y. (y.from ≡ to) ⊎ (y.to ≡ to)) x (inr (sym e)))) which

  -- where the part doesn't end before x
  closed_first : IsNotAfter cmp x.to p.to → (cut : T → Bool) → IsCut cmp cut → cut to ≡ true → cut x.to ≡ false → CrossesAny cut parts
  closed_first past cut is f g = ⊎_elim
      (λ e. any_of (Crosses cut) parts p (k, long, at) (sym (ap cut e) ∙ f, cut_false o cut is x.to p.to g past))
      (λ e. absurd (true≢false (sym f ∙ ap cut e ∙ g))) which

-- the interval from t to the value `to`, which no part meets, is added
module _ {T : Type 0} {cmp : T → T → Ordering} (o : IsTotalOrder cmp) (x : Interval T) (parts : List (Interval T)) (k : ℕ) (t : T) (added : List (Interval T)) (old : IsRestUpTo cmp x parts k t added) where
  module _ (to : T) (to_known : IsKnown (x ∷ []) parts to) (last : IsNotAfter cmp to x.to) (later : BeginLater cmp parts k to) (new : List (Interval T)) (is : IsAdded cmp t to added new) where
    clear : (cut : T → Bool) → IsCut cmp cut → cut t ≡ true → cut to ≡ false → ¬ CrossesAny cut parts
    clear cut is-cut f g h =
        let p = h.1 in
        ⊎_elim
        (λ low. true≢false (sym (is-cut p.to t f (subst (λ (y : Interval T). IsNotAfter cmp y.to t) h.3 (old.passed h.0 p low h.2))) ∙ h.4.1))
        (λ high. true≢false (sym (is-cut to p.from h.4.0 (subst (λ (y : Interval T). IsNotAfter cmp to y.from) h.3 (later h.0 p high h.2))) ∙ g))
        (cases_lt h.0 k)

    new_within : (cut : T → Bool) → IsCut cmp cut → CrossesAny cut new ↔ (CrossesAny cut added ⊎ ((cut t ≡ true) × (cut to ≡ false)))
    new_within cut is-cut = ⊎_elim
        (λ a. let r : Interval T = record { from = t; to = to } in subst (λ ns. CrossesAny cut ns ↔ (CrossesAny cut added ⊎ ((cut t ≡ true) × (cut to ≡ false)))) (sym a.1) (
          λ h. any_push (Crosses cut) added r h,
          λ h. ⊎_elim (λ c. any_left (Crosses cut) added (r ∷ []) c) (λ c. any_last (Crosses cut) added r c) h,
        ))
        (λ a. subst (λ ns. CrossesAny cut ns ↔ (CrossesAny cut added ⊎ ((cut t ≡ true) × (cut to ≡ false)))) (sym a.1) (
          λ h. inl h,
          λ h. ⊎_elim (λ c. c) (λ c. absurd (true≢false (sym (is-cut to t c.0 (not_after o t to a.0)) ∙ c.1))) h,
        )) is

    new_before : (s : T) → IsNotAfter cmp t s → cmp to s ≡ Less → All (λ r. cmp r.to s ≡ Less) new
    new_before s forth short =
        let P : Interval T → Type 0 = λ r. cmp r.to s ≡ Less in
        let kept : All P added = λ i d h. less_not_after o (get_or added i d).to t s (old.before i d h) forth in
        ⊎_elim (λ a. subst (All P) (sym a.1) (All-push P added (record { from = t; to = to }) kept short)) (λ a. subst (All P) (sym a.1) kept) is

    new_apart : AreApart cmp new
    new_apart = ⊎_elim
        (λ a. let r : Interval T = record { from = t; to = to } in subst (AreApart cmp) (sym a.1) (record {
          inside = All-push (IsProper cmp) added r old.apart.inside a.0;
          apart = all_pairs_push (λ x y. cmp x.to y.from ≡ Less) added r old.apart.apart old.before;
        }))
        (λ a. subst (AreApart cmp) (sym a.1) old.apart) is

    new_ends : All (AreKnown (x ∷ []) parts) new
    new_ends = let P = AreKnown (x ∷ []) parts in ⊎_elim
        (λ a. subst (All P) (sym a.1) (All-push P added (record { from = t; to = to }) old.ends (old.known, to_known)))
        (λ a. subst (All P) (sym a.1) old.ends) is

    -- from `to` on a part is in the way as far as x goes
    pub rest_last : ((cut : T → Bool) → IsCut cmp cut → cut to ≡ true → cut x.to ≡ false → CrossesAny cut parts) → AreRest cmp (x ∷ []) parts new
    rest_last closed = record {
      apart = new_apart;
      ends = new_ends;
      within = λ cut is-cut.
          let now = new_within cut is-cut in
          let before = old.within cut is-cut in (
            λ h. ⊎_elim
                (λ c. let b = before.0 c in (one (Crosses cut) x (b.0, cut_false o cut is-cut t x.to b.1 (less o t x.to old.inside)), b.2))
                (λ c. (one (Crosses cut) x (is-cut x.from t c.0 old.forth, cut_false o cut is-cut to x.to c.1 last), clear cut is-cut c.0 c.1)) (now.0 h),
            λ h. let through = of_one (Crosses cut) x h.0 in
                now.1 (⊎_elim
                (λ e. inr (e, not_true (cut to) (λ f. h.1 (closed cut is-cut f through.1))))
                (λ e. inl (before.1 (through.0, e, h.1))) (either (cut t))),
          );
    }

    -- the part number k ends at s or before, and x goes on
    rest_more : (p : Interval T) → k < length parts → get_or parts k p ≡ p → IsProper cmp p → cmp p.to x.to ≡ Less → (to ≡ p.from) ⊎ (to ≡ x.to) → IsNotAfter cmp to p.from →
        (s : T) → (s ≡ t) ⊎ (s ≡ p.to) → IsNotAfter cmp t s → IsNotAfter cmp p.to s → IsRestUpTo cmp x parts (k + 1) s new
    rest_more p long at proper short which first s next forth past = record {
      apart = new_apart;
      before = new_before s forth (less_not_after o to p.to s (not_after_less o to p.from p.to first proper) past);
      forth = not_after_not_after o x.from t s old.forth forth;
      inside = ⊎_elim (λ e. subst (λ v. cmp v x.to ≡ Less) (sym e) old.inside) (λ e. subst (λ v. cmp v x.to ≡ Less) (sym e) short) next;
      known = ⊎_elim (λ e. subst (IsKnown (x ∷ []) parts) (sym e) old.known)
          (λ e. subst (IsKnown (x ∷ []) parts) (sym e) (inr (any_of (λ y. (y.from ≡ p.to) ⊎ (y.to ≡ p.to)) parts p (k, long, at) (inr refl)))) next;
      passed = λ j d h l. ⊎_elim
          (λ low. not_after_not_after o (get_or parts j d).to t s (old.passed j d low l) forth)
          (λ high. subst (λ (y : Interval T). IsNotAfter cmp y.to s) (sym (ap (λ i. get_or parts i d) (same j h high) ∙ sym (get_or_default parts k p d long) ∙ at)) past)
          (cases_lt j k);
      ends = new_ends;
      within = λ cut is-cut.
          let now = new_within cut is-cut in
          let before = old.within cut is-cut in (
            λ h. ⊎_elim
                (λ c. let b = before.0 c in (b.0, cut_false o cut is-cut t s b.1 forth, b.2))
                (λ c. (is-cut x.from t c.0 old.forth, cut_false o cut is-cut to s c.1 (not_after_not_after o to p.to s (less o to p.to (not_after_less o to p.from p.to first proper)) past), clear cut is-cut c.0 c.1)) (now.0 h),
            λ h. now.1 (⊎_elim
                (λ e. inr (e, not_true (cut to) (λ f. h.2 (met cut is-cut e h.1 f))))
                (λ e. inl (before.1 (h.0, e, h.2))) (either (cut t))),
          );
    }
      where
        same : (j : ℕ) → j < k + 1 → k ≤ j → j ≡ k
        same j h high = omega arith

        ended : (cut : T → Bool) → cut t ≡ true → cut s ≡ false → cut p.to ≡ false
        ended cut e f = ⊎_elim (λ same. absurd (true≢false (sym e ∙ sym (ap cut same) ∙ f))) (λ same. sym (ap cut same) ∙ f) next

        met : (cut : T → Bool) → IsCut cmp cut → cut t ≡ true → cut s ≡ false → cut to ≡ true → CrossesAny cut parts
        met cut is-cut e f g = ⊎_elim
            (λ same. any_of (Crosses cut) parts p (k, long, at) (sym (ap cut same) ∙ g, ended cut e f))
            (λ same. absurd (true≢false (sym (is-cut p.to x.to (sym (ap cut same) ∙ g) (less o p.to x.to short)) ∙ ended cut e f))) which

-- x is taken from the value t as far as the part number k, or as x itself goes
module _ {T : Type 0} {cmp : T → T → Ordering} (o : IsTotalOrder cmp) (x : Interval T) (parts : List (Interval T)) (apart : AreApart cmp parts) (k : ℕ) (p : Interval T) (long : k < length parts) (at : get_or parts k p ≡ p)
    (t : T) (added : List (Interval T)) (old : IsRestUpTo cmp x parts k t added) (to : T) (which : (to ≡ p.from) ⊎ (to ≡ x.to)) (first : IsNotAfter cmp to p.from) (last : IsNotAfter cmp to x.to) (new : List (Interval T)) (is : IsAdded cmp t to added new) where
  -- where the part ends before x, x goes on from the later of t and the part's end
  pub rest_after_part : cmp p.to x.to ≡ Less → (s : T) → (s ≡ t) ⊎ (s ≡ p.to) → IsNotAfter cmp t s → IsNotAfter cmp p.to s → IsRestUpTo cmp x parts (k + 1) s new
  rest_after_part short s next forth past =
      rest_more o x parts k t added old to (known_first o x parts k p long at to which) last (begin_later o parts apart k p long at to first) new is p long at (subst (IsProper cmp) at (apart.inside k p long))
      short which first s next forth past

  -- where it doesn't, nothing more is left of x
  pub rest_before_part : IsNotAfter cmp x.to p.to → AreRest cmp (x ∷ []) parts new
  rest_before_part past =
      rest_last o x parts k t added old to (known_first o x parts k p long at to which) last (begin_later o parts apart k p long at to first) new is (closed_first o x parts k p long at to which past)

-- ---- one whole interval after the other
module _ {T : Type 0} {cmp : T → T → Ordering} (o : IsTotalOrder cmp) where
  -- what is within whole intervals ends no later than one of them, and begins no earlier than one of them
  ends_within : (whole rest : List (Interval T)) → ((cut : T → Bool) → IsCut cmp cut → CrossesAny cut rest → CrossesAny cut whole) → All (IsProper cmp) rest → (r : Interval T) → Contains rest r → Any (λ w. IsNotAfter cmp r.to w.to) whole
  ends_within whole rest within proper r here =
      let cut : T → Bool = λ t. is_lt (cmp t r.to) in
      let through = within cut (before_value o r.to) (any_of (Crosses cut) rest r here (ap is_lt (All-contains (IsProper cmp) rest r proper here), ap is_lt (tied_itself o r.to))) in
      (through.0, through.1, through.2, through.3, not_after o through.1.to r.to (not_less _ through.4.1))

  begins_within : (x : Interval T) (rest : List (Interval T)) → ((cut : T → Bool) → IsCut cmp cut → CrossesAny cut rest → CrossesAny cut (x ∷ [])) → All (IsProper cmp) rest → (r : Interval T) → Contains rest r → IsNotAfter cmp x.from r.from
  begins_within x rest within proper r here =
      let cut : T → Bool = λ t. not (is_lt (cmp r.from t)) in
      let through = of_one (Crosses cut) x (within cut (up_to_value o r.from) (any_of (Crosses cut) rest r here (ap (λ b. not (is_lt b)) (tied_itself o r.from), ap (λ b. not (is_lt b)) (All-contains (IsProper cmp) rest r proper here)))) in
      not_after o r.from x.from (not_less _ (not-true _ through.0))

  pub rest_none : (parts : List (Interval T)) → AreRest cmp [] parts []
  rest_none parts = record {
    apart = record { inside = All-nil (IsProper cmp); apart = λ i j d h l. absurd (omega (arith, l)) };
    within = λ cut is. (λ h. absurd (none (Crosses cut) h), λ h. h.0);
    ends = All-nil (AreKnown [] parts);
  }

  pub rest_next : (done parts rest : List (Interval T)) (x : Interval T) (new : List (Interval T)) → AreRest cmp done parts rest → All (λ w. cmp w.to x.from ≡ Less) done → IsRestAdded cmp x parts rest new → AreRest cmp (done ++ x ∷ []) parts new
  rest_next done parts rest x new old before more = subst (AreRest cmp (done ++ x ∷ []) parts) (sym more.all) (record {
    apart = record {
      inside = All-append (IsProper cmp) rest more.added old.apart.inside more.right.apart.inside;
      apart = pairs_append (λ x y. cmp x.to y.from ≡ Less) rest more.added old.apart.apart more.right.apart.apart (λ r a here there.
          let w = ends_within done rest (λ cut is h. ((old.within cut is).0 h).0) old.apart.inside r here in
          let b = begins_within x more.added (λ cut is h. ((more.right.within cut is).0 h).0) more.right.apart.inside a there in
          less_not_after o r.to x.from a.from (not_after_less o r.to w.1.to x.from w.4 (All-contains (λ (w : Interval T). cmp w.to x.from ≡ Less) done w.1 before (w.0, w.2, w.3))) b);
    };
    within = λ cut is.
        let p = old.within cut is in
        let q = more.right.within cut is in (
          λ h. ⊎_elim
              (λ c. (any_left (Crosses cut) done (x ∷ []) (p.0 c).0, (p.0 c).1))
              (λ c. (any_right (Crosses cut) done (x ∷ []) (q.0 c).0, (q.0 c).1)) (any_cases (Crosses cut) rest more.added h),
          λ h. ⊎_elim
              (λ c. any_left (Crosses cut) rest more.added (p.1 (c, h.1)))
              (λ c. any_right (Crosses cut) rest more.added (q.1 (c, h.1))) (any_cases (Crosses cut) done (x ∷ []) h.0),
        );
    ends = All-append (AreKnown (done ++ x ∷ []) parts) rest more.added
        (All-weaker (AreKnown done parts) (AreKnown (done ++ x ∷ []) parts) (λ r h. (left r.from h.0, left r.to h.1)) rest old.ends)
        (All-weaker (AreKnown (x ∷ []) parts) (AreKnown (done ++ x ∷ []) parts) (λ r h. (right r.from h.0, right r.to h.1)) more.added more.right.ends);
  })
    where
      left : (t : T) → IsKnown done parts t → IsKnown (done ++ x ∷ []) parts t
      left t h = ⊎_elim (λ e. inl (any_left (λ y. (y.from ≡ t) ⊎ (y.to ≡ t)) done (x ∷ []) e)) (λ e. inr e) h

      right : (t : T) → IsKnown (x ∷ []) parts t → IsKnown (done ++ x ∷ []) parts t
      right t h = ⊎_elim (λ e. inl (any_right (λ y. (y.from ≡ t) ⊎ (y.to ≡ t)) done (x ∷ []) e)) (λ e. inr e) h
