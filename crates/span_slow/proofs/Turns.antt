-- Hidden and visible spans take turns along the edge.
use Rattle.std.proofs.Common.{◌≡◌, ◌≢◌, ℕ, ◌+◌, ◌<◌, ◌≤◌, Bool, true, false, not, true≢false, List, [], ◌∷◌, ◌++◌, length, take, get_or, sym, subst, ◌∙◌, arith, ◌⊎◌, inl, inr, ⊎_elim}
use Rattle.std.specs.Prelude.{ℤ, pos, ◌*ℤ◌, ◌<ℤ◌, All, Contains}
use Rattle.std.proofs.lemmas.Bool.{cases_lt}
use Rattle.std.proofs.lemmas.List.{get_or-take, length-take, get_or_default}
use Rattle.std.proofs.lemmas.List.Elements.{All-nil, All-push}
use Rattle.integers.proofs.Comparisons.{at_most_of_less, less_not_at_most, at_most_itself}
use Rattle.integers.proofs.Lists.{front_more}
use Rattle.integers.proofs.Orders.{less_of_cmp}
use Rattle.exact_frac.specs.declared.Frac.{Frac}
use Rattle.exact_frac.specs.Frac.{order_of}
use Rattle.intervals.specs.Cuts.{AreApart}
use Rattle.intervals.specs.declared.interval.Interval.{Interval}
use Rattle.lattice.specs.declared.spans.Span.{Span}
use Rattle.geometry.specs.Places.{IsPlace, IsSame, IsEarlier, IsBetween}
use Rattle.geometry.specs.Spans.{Follow}
use Rattle.span_slow.specs.Spans.{Alternate}
use Rattle.cut_plane.specs.Beyond.{IsStretch, IsWithinAny}
use Rattle.span_slow.specs.inner.Hidden.{IsIntervalEnd, TellsWithin, AreSpansOf}
use Rattle.span_slow.specs.inner.Steps.{IsSpanAdded}
use Rattle.geometry.proofs.PlaceOrder.{less_most, most_less, most_most, IsNotLater, not_later_of_not, earlier_earlier, not_later_earlier, zero_of_not_later, one_of_not_later, zero_not_later}
use Rattle.geometry.proofs.SamePlaces.{same, same_back, same_between, same_earlier}
use Rattle.span_slow.proofs.Same.{same_known}

-- ---- a list of spans with one more at its end
-- the last one, if there is one, is hidden or not
abbrev pub IsLast : Bool → List Span → Type 0
IsLast b [] = Unit {0}
IsLast b (x ∷ []) = x.hidden ≡ b
IsLast b (x ∷ y ∷ xs) = IsLast b (y ∷ xs)

last_more : (b : Bool) (xs : List Span) (x : Span) → x.hidden ≡ b → IsLast b (xs ++ x ∷ [])
last_more b [] x h = h
last_more b (y ∷ []) x h = h
last_more b (y ∷ z ∷ zs) x h = last_more b (z ∷ zs) x h

differ : (b : Bool) → b ≢ not b
differ true e = true≢false e
differ false e = true≢false (sym e)

alternate_more : (b : Bool) (xs : List Span) (x : Span) → Alternate xs → IsLast b xs → x.hidden ≡ not b → Alternate (xs ++ x ∷ [])
alternate_more b [] x h l e = tt
alternate_more b (y ∷ []) x h l e = (λ k. differ b (sym l ∙ k ∙ e), tt)
alternate_more b (y ∷ z ∷ zs) x h l e = (h.0, alternate_more b (z ∷ zs) x h.1 l e)

follow_more : (start from to : Frac) (xs : List Span) (x : Span) → Follow start xs from → IsSame x.from from → IsSame x.to to → IsEarlier x.from x.to → Follow start (xs ++ x ∷ []) to
follow_more start from to [] x h sf st earlier = ((sf.0 ∙ sym h.0, sf.1 ∙ sym h.1), earlier, st)
follow_more start from to (y ∷ ys) x h sf st earlier = (h.0, h.1, follow_more y.to from to ys x h.2 sf st earlier)

-- the spans are right up to a place, and the last of them is hidden or not
pub record AreRight (united : List (Interval Frac)) (to : Frac) (b : Bool) (spans : List Span) : Type 0 where
  pub reach : (start : Frac) × (start.num ≡ pos 0) × Follow start spans to
  pub ends : All (λ x. IsIntervalEnd united x.from × IsIntervalEnd united x.to) spans
  pub tells : All (TellsWithin united) spans
  pub alternate : Alternate spans
  pub last : IsLast b spans

right_none : (united : List (Interval Frac)) (from : Frac) (b : Bool) → from.num ≡ pos 0 → AreRight united from b []
right_none united from b zero = record {
  reach = (from, zero, same from);
  ends = All-nil (λ (x : Span). IsIntervalEnd united x.from × IsIntervalEnd united x.to);
  tells = All-nil (TellsWithin united);
  alternate = tt;
  last = tt;
}

right_more : (united : List (Interval Frac)) (from to : Frac) (b : Bool) (spans : List Span) (x : Span) → AreRight united from b spans → IsSame x.from from → IsSame x.to to → IsEarlier from to
    → IsIntervalEnd united from → IsIntervalEnd united to → x.hidden ≡ not b → TellsWithin united x → AreRight united to (not b) (spans ++ x ∷ [])
right_more united from to b spans x right sf st earlier kf kt is tells = record {
  reach = (right.reach.0, right.reach.1, follow_more right.reach.0 from to spans x right.reach.2 sf st (same_earlier from to x.from x.to (same_back x.from from sf) (same_back x.to to st) earlier));
  ends = All-push (λ (x : Span). IsIntervalEnd united x.from × IsIntervalEnd united x.to) spans x right.ends (same_known united x.from from sf kf, same_known united x.to to st kt);
  tells = All-push (TellsWithin united) spans x right.tells tells;
  alternate = alternate_more b spans x right.alternate right.last is;
  last = last_more (not b) spans x is;
}

-- ---- what the loop keeps
-- the spans reach a place that no interval of the first k passes; the others begin after it, but perhaps where nothing is told yet
pub record AreTold (united : List (Interval Frac)) (k : ℕ) (from : Frac) (spans : List Span) : Type 0 where
  pub place : IsPlace from
  pub known : IsIntervalEnd united from
  pub past : All (λ x. IsNotLater x.to from) (take k united)
  pub ahead : ((spans ≡ []) × (from.num ≡ pos 0)) ⊎ ((j : ℕ) (d : Interval Frac) → k ≤ j → j < length united → IsEarlier from (get_or united j d).from)
  pub right : AreRight united from true spans

pub told_none : (united : List (Interval Frac)) (from : Frac) (spans : List Span) → IsPlace from → from.num ≡ pos 0 → spans ≡ [] → AreTold united 0 from spans
told_none united from spans place zero none = record {
  place = place;
  known = inl zero;
  past = All-nil (λ (x : Interval Frac). IsNotLater x.to from);
  ahead = inl (none, zero);
  right = subst (AreRight united from true) (sym none) (right_none united from true zero);
}

-- no interval reaches into what lies after the first k and before the others
abbrev IsFree : List (Interval Frac) → Frac → Frac → Type 0
IsFree united from to = (n m : ℤ) → pos 0 <ℤ m → IsBetween from to n m → ¬ IsWithinAny united n m

free : (united : List (Interval Frac)) (k : ℕ) (from to : Frac) → All (λ x. IsNotLater x.to from) (take k united)
    → ((j : ℕ) (d : Interval Frac) → k ≤ j → j < length united → IsNotLater to (get_or united j d).from) → IsFree united from to
free united k from to past later n m up b w =
    let u = w.0 in
    let j = w.1.0 in
    let at = w.1.2 in
    ⊎_elim
    (λ less.
    let e : get_or (take k united) j u ≡ u = get_or-take k united j u less ∙ at in
    let before : IsNotLater u.to from = subst (λ (y : Interval Frac). IsNotLater y.to from) e (past j u (among j less w.1.1)) in
    less_not_at_most _ _ w.2.1 (at_most_of_less (u.to.num *ℤ m) (n *ℤ u.to.den) (most_less u.to.num u.to.den from.num from.den n m u.to.positive from.positive up before b.0)))
    (λ le.
    let after : IsNotLater to u.from = subst (λ (y : Interval Frac). IsNotLater to y.from) at (later j u le w.1.1) in
    less_not_at_most _ _ w.2.0 (at_most_of_less (n *ℤ u.from.den) (u.from.num *ℤ m) (less_most n m to.num to.den u.from.num u.from.den up to.positive u.from.positive b.1 after)))
    (cases_lt j k)
  where
    among : (j : ℕ) → j < k → j < length united → j < length (take k united)
    among j less long = omega (arith, length-take k united)

tells_visible : (united : List (Interval Frac)) (from to : Frac) → IsFree united from to → (x : Span) → IsSame x.from from → IsSame x.to to → x.hidden ≡ false → TellsWithin united x
tells_visible united from to clear x sf st is n m up b off = (λ h. absurd (true≢false (sym h ∙ is)), λ w. absurd (clear n m up (same_between x.from x.to from to n m sf st b) w))

-- a visible span is added, where there is room
right_visible : (united : List (Interval Frac)) (from to : Frac) (spans : List Span) (x : Span) → AreRight united from true spans → IsFree united from to → IsIntervalEnd united from → IsIntervalEnd united to
    → IsSame x.from from → IsSame x.to to → x.hidden ≡ false → IsEarlier from to → AreRight united to false (spans ++ x ∷ [])
right_visible united from to spans x right clear kf kt sf st is earlier = right_more united from to true spans x right sf st earlier kf kt is (tells_visible united from to clear x sf st is)

module _ (united : List (Interval Frac)) (stretches : All IsStretch united) (apart : AreApart order_of united) (k : ℕ) (from : Frac) (spans : List Span) (told : AreTold united k from spans) where
  module _ (x : Interval Frac) (within : k < length united) (at : get_or united k x ≡ x) where
    x_at : (d : Interval Frac) → get_or united k d ≡ x
    x_at d = sym (get_or_default united k x d within) ∙ at

    listed : Contains united x
    listed = (k, within, at)

    stretch : IsStretch x
    stretch = subst IsStretch at (stretches k x within)

    x_inside : IsEarlier x.from x.to
    x_inside = stretch.earlier

    rest_after : (j : ℕ) (d : Interval Frac) → k < j → j < length united → IsEarlier x.to (get_or united j d).from
    rest_after j d less long = subst (λ (y : Interval Frac). IsEarlier y.to (get_or united j d).from) (x_at d) (less_of_cmp _ _ (apart.apart k j d less long))

    rest_later : (j : ℕ) (d : Interval Frac) → k ≤ j → j < length united → IsNotLater x.from (get_or united j d).from
    rest_later j d le long = ⊎_elim
        (λ less. at_most_of_less _ _ (earlier_earlier x.from x.to (get_or united j d).from x_inside (rest_after j d less long)))
        (λ least. subst (λ (i : ℕ). IsNotLater x.from (get_or united i d).from) (equal k j le least) (subst (λ (y : Interval Frac). IsNotLater x.from y.from) (sym (x_at d)) (at_most_itself (x.from.num *ℤ x.from.den))))
        (cases_lt k j)
      where
        equal : (k j : ℕ) → k ≤ j → j ≤ k → k ≡ j
        equal k j p q = omega arith

    forth : IsNotLater from x.from
    forth = ⊎_elim (λ h. zero_not_later from x.from h.1 stretch.from_place.least) (λ h. subst (λ (y : Interval Frac). IsNotLater from y.from) at (at_most_of_less _ _ (h k x (least k) within))) told.ahead
      where
        least : (k : ℕ) → k ≤ k
        least k = omega arith

    -- nothing is told yet where no visible span comes before the interval
    none_told : ¬ IsEarlier from x.from → (spans ≡ []) × (from.num ≡ pos 0)
    none_told late = ⊎_elim (λ h. h) (λ h. absurd (late (subst (λ (y : Interval Frac). IsEarlier from y.from) at (h k x (least k) within)))) told.ahead
      where
        least : (k : ℕ) → k ≤ k
        least k = omega arith

    up_to : (mid : List Span) → IsSpanAdded from x.from false spans mid → AreRight united x.from false mid
    up_to mid added = ⊎_elim
        (λ h. subst (AreRight united x.from false) (sym h.1.4) (right_visible united from x.from spans h.1.0 told.right
        (free united k from x.from told.past rest_later) told.known (inr (inr (x, listed, inl (same x.from)))) h.1.1 h.1.2 h.1.3 h.0))
        (λ h.
        let none = none_told h.0 in
        subst (AreRight united x.from false) (sym (h.1 ∙ none.0)) (right_none united x.from false (zero_of_not_later x.from from (not_later_of_not from x.from h.0) none.1 stretch.from_place.least))) added

    abbrev IsPast : Interval Frac → Type 0
    IsPast y = IsNotLater y.to x.to

    -- the interval is added as a hidden span
    pub told_more : (mid : List Span) → IsSpanAdded from x.from false spans mid → (y : Span) → IsSame y.from x.from → IsSame y.to x.to → y.hidden ≡ true → AreTold united (k + 1) x.to (mid ++ y ∷ [])
    told_more mid added y sf st is = record {
      place = stretch.to_place;
      known = inr (inr (x, listed, inr (same x.to)));
      past = subst (All IsPast) (front_more united k x within at) (All-push IsPast (take k united) x
          (λ j d h. at_most_of_less _ _ (not_later_earlier (get_or (take k united) j d).to x.from x.to
          (past_forth (get_or (take k united) j d).to (told.past j d h)) x_inside)) (at_most_itself (x.to.num *ℤ x.to.den)));
      ahead = inr (λ j d le long. rest_after j d (more k j le) long);
      right = right_more united x.from x.to false mid y (up_to mid added) sf st x_inside (inr (inr (x, listed, inl (same x.from)))) (inr (inr (x, listed, inr (same x.to)))) is
          (λ n m up b off. (λ h. (x, listed, same_between y.from y.to x.from x.to n m sf st b), λ h. is));
    }
      where
        more : (k j : ℕ) → k + 1 ≤ j → k < j
        more k j h = omega arith

        past_forth : (r : Frac) → IsNotLater r from → IsNotLater r x.from
        past_forth r h = most_most r.num r.den from.num from.den x.from.num x.from.den r.positive from.positive x.from.positive h forth

  -- the rest of the edge is visible
  pub spans_right : length united ≤ k → (to : Frac) → to.num ≡ to.den → (new : List Span) → IsSpanAdded from to false spans new → AreSpansOf united new
  spans_right done to one new added = ⊎_elim
      (λ h. subst (AreSpansOf united) (sym h.1.4) (whole to one (spans ++ h.1.0 ∷ []) false
      (right_visible united from to spans h.1.0 told.right
      (free united k from to told.past (λ j d le long. absurd (none_left j le long))) told.known (inr (inl one)) h.1.1 h.1.2 h.1.3 h.0)))
      (λ h. subst (AreSpansOf united) (sym h.1) (whole from (one_of_not_later to from (not_later_of_not from to h.0) one told.place.most) spans true told.right)) added
    where
      none_left : (j : ℕ) → k ≤ j → j < length united → ⊥
      none_left j le long = omega (arith, done)

      whole : (to : Frac) → to.num ≡ to.den → (new : List Span) (b : Bool) → AreRight united to b new → AreSpansOf united new
      whole to one new b right = record {
        covers = (right.reach.0, to, right.reach.1, one, right.reach.2);
        ends = right.ends;
        tells = right.tells;
        alternate = right.alternate;
      }
