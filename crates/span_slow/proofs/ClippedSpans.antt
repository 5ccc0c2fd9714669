-- What of the spans of an edge is within a part of it: they cover the part, and hidden and visible ones take turns.
use Rattle.std.proofs.Common.{◌≡◌, inl, inr, ℕ, suc, ◌+◌, ◌<◌, ◌≤◌, List, [], ◌∷◌, ◌++◌, length, drop, get_or, refl, sym, subst, ap, ◌∙◌, arith}
use Rattle.std.specs.Prelude.{ℤ, pos, ◌*ℤ◌, ◌<ℤ◌, All, Contains}
use Rattle.std.proofs.lemmas.List.{append_assoc, append-nil, drop_more, drop_all}
use Rattle.std.proofs.lemmas.List.Elements.{All-nil, All-cons}
use Rattle.integers.proofs.Comparisons.{at_most_of_less}
use Rattle.exact_frac.specs.declared.Frac.{Frac}
use Rattle.intervals.specs.declared.interval.Interval.{Interval}
use Rattle.lattice.specs.declared.spans.Span.{Span}
use Rattle.geometry.specs.Places.{IsSame, IsEarlier, IsBetween}
use Rattle.geometry.specs.Spans.{Follow, CoverEdge}
use Rattle.span_slow.specs.Spans.{Alternate}
use Rattle.cut_plane.specs.Beyond.{IsStretch}
use Rattle.span_slow.specs.inner.Steps.{IsSpanAdded, IsLaterOf, IsEarlierOf, IsClippedAdded, IsClippedEnd, IsClippedSpan, AreClipped}
use Rattle.geometry.proofs.PlaceOrder.{less_most, most_less, IsNotLater, not_later_of_not, earlier_not_later, not_later_earlier, not_later_not_later, not_later_self, not_both, zero_not_later, not_later_one}
use Rattle.geometry.proofs.SamePlaces.{same, same_back, same_trans, same_between, same_earlier, same_not_later}

-- ---- what each of the spans adds, one after another
abbrev pub AreClippedEach : Interval Frac → List Span → List Span → Type 0
AreClippedEach part [] new = new ≡ []
AreClippedEach part (x ∷ xs) new = (first : List Span) × (rest : List Span) × (new ≡ first ++ rest) × IsClippedAdded part x [] first × AreClippedEach part xs rest

added_alone : (part : Interval Frac) (x : Span) (old new : List Span) → IsClippedAdded part x old new → (first : List Span) × (new ≡ old ++ first) × IsClippedAdded part x [] first
added_alone part x old new (from, to, later, earlier, inl (less, (y, is_from, is_to, is, all))) = (y ∷ [], all, (from, to, later, earlier, inl (less, (y, is_from, is_to, is, refl))))
added_alone part x old new (from, to, later, earlier, inr (none, all)) = ([], all ∙ sym (append-nil old), (from, to, later, earlier, inr (none, refl)))

pub each_none : (part : Interval Frac) (spans now : List Span) → now ≡ [] → (more : List Span) → AreClippedEach part spans more → AreClippedEach part spans (now ++ more)
each_none part spans now none more h = subst (λ (xs : List Span). AreClippedEach part spans (xs ++ more)) (sym none) h

module _ (part : Interval Frac) (spans : List Span) (k : ℕ) where
  pub each_more : (x : Span) → k < length spans → get_or spans k x ≡ x → (now : List Span)
      → ((more : List Span) → AreClippedEach part (drop k spans) more → AreClippedEach part spans (now ++ more))
      → (new : List Span) → IsClippedAdded part x now new → (more : List Span) → AreClippedEach part (drop (k + 1) spans) more → AreClippedEach part spans (new ++ more)
  each_more x within at now so_far new added more each =
      let alone = added_alone part x now new added in
      let first = alone.0 in
      let rest : drop k spans ≡ x ∷ drop (k + 1) spans = drop_more spans k x within ∙ ap (λ (y : Span). y ∷ drop (k + 1) spans) at in
      let here : AreClippedEach part (drop k spans) (first ++ more) = subst (λ (xs : List Span). AreClippedEach part xs (first ++ more)) (sym rest) (first, more, refl, alone.2, each) in
      subst (AreClippedEach part spans) (sym (ap (λ (xs : List Span). xs ++ more) alone.1 ∙ append_assoc now first more)) (so_far (first ++ more) here)

  pub each_all : length spans ≤ k → (now : List Span) → ((more : List Span) → AreClippedEach part (drop k spans) more → AreClippedEach part spans (now ++ more)) → AreClippedEach part spans now
  each_all done now so_far =
      subst (AreClippedEach part spans) (append-nil now) (so_far [] (subst (λ (xs : List Span). AreClippedEach part xs []) (sym (drop_all k spans done)) refl))

-- ---- the later and the earlier of two places
later_least : (a b r : Frac) → IsLaterOf a b r → IsNotLater a r × IsNotLater b r
later_least a b r (inl (less, is)) = (same_not_later a b a r (same a) (same_back r b is) (at_most_of_less (a.num *ℤ b.den) (b.num *ℤ a.den) less), same_not_later b b b r (same b) (same_back r b is) (not_later_self b))
later_least a b r (inr (none, is)) = (same_not_later a a a r (same a) (same_back r a is) (not_later_self a), same_not_later b a b r (same b) (same_back r a is) (not_later_of_not a b none))

earlier_most : (a b r : Frac) → IsEarlierOf a b r → IsNotLater r a × IsNotLater r b
earlier_most a b r (inl (less, is)) = (same_not_later b a r a (same_back r b is) (same a) (at_most_of_less (b.num *ℤ a.den) (a.num *ℤ b.den) less), same_not_later b b r b (same_back r b is) (same b) (not_later_self b))
earlier_most a b r (inr (none, is)) = (same_not_later a a r a (same_back r a is) (same a) (not_later_self a), same_not_later a b r b (same_back r a is) (same b) (not_later_of_not b a none))

-- the later of the same two places is the same
later_same : (a b c r s : Frac) → IsSame b c → IsLaterOf a b r → IsLaterOf a c s → IsSame r s
later_same a b c r s moved (inl (less, is)) (inl (less_too, is_too)) = same_trans r b s is (same_trans b c s moved (same_back s c is_too))
later_same a b c r s moved (inl (less, is)) (inr (none, is_too)) = absurd (none (same_earlier a b a c (same a) moved less))
later_same a b c r s moved (inr (none, is)) (inl (less, is_too)) = absurd (none (same_earlier a c a b (same a) (same_back b c moved) less))
later_same a b c r s moved (inr (none, is)) (inr (none_too, is_too)) = same_trans r a s is (same_back s a is_too)

-- ---- one span
module _ (part : Interval Frac) (x : Span) (f t : Frac) (later : IsLaterOf part.from x.from f) (earlier : IsEarlierOf part.to x.to t) where
  module _ (less : IsEarlier f t) (y : Span) (is_from : IsSame y.from f) (is_to : IsSame y.to t) (is : y.hidden ≡ x.hidden) where
    y_inside : IsEarlier y.from y.to
    y_inside = same_earlier f t y.from y.to (same_back y.from f is_from) (same_back y.to t is_to) less

    to_after : IsEarlier part.from y.to
    to_after = not_later_earlier part.from f y.to (later_least part.from x.from f later).0 (same_earlier f t f y.to (same f) (same_back y.to t is_to) less)

    from_before : IsEarlier y.from part.to
    from_before = earlier_not_later y.from t part.to (same_earlier f t y.from t (same_back y.from f is_from) (same t) less) (earlier_most part.to x.to t earlier).0

    from_end : IsLaterOf part.from x.from f → IsClippedEnd part x y.from
    from_end (inl (after, at)) = inr ((same_earlier part.from x.from part.from y.from (same part.from) (same_back y.from x.from (same_trans y.from f x.from is_from at)) after, from_before), inl (same_trans y.from f x.from is_from at))
    from_end (inr (none, at)) = inl (inl (same_trans y.from f part.from is_from at))

    to_end : IsEarlierOf part.to x.to t → IsClippedEnd part x y.to
    to_end (inl (before, at)) = inr ((to_after, same_earlier x.to part.to y.to part.to (same_back y.to x.to (same_trans y.to t x.to is_to at)) (same part.to) before), inr (same_trans y.to t x.to is_to at))
    to_end (inr (none, at)) = inl (inr (same_trans y.to t part.to is_to at))

    between_two : (a b : Frac) → IsNotLater a f → IsNotLater t b → (n m : ℤ) → pos 0 <ℤ m → IsBetween f t n m → IsBetween a b n m
    between_two a b first last n m up h = (
      most_less a.num a.den f.num f.den n m a.positive f.positive up first h.0,
      less_most n m t.num t.den b.num b.den up t.positive b.positive h.1 last,
    )

    clipped_span : IsClippedSpan part x y
    clipped_span = record {
      within = λ n m up between.
          let h = same_between y.from y.to f t n m is_from is_to between in
          let first = later_least part.from x.from f later in
          let last = earlier_most part.to x.to t earlier in
          (between_two x.from x.to first.1 last.1 n m up h, between_two part.from part.to first.0 last.0 n m up h);
      ends = (from_end later, to_end earlier);
      same_hidden = is;
    }

-- ---- all of them
abbrev IsFromOne : Interval Frac → List Span → Span → Type 0
IsFromOne part spans y = (x : Span) × Contains spans x × IsClippedSpan part x y

-- the same from a place within the part on
record AreClippedFrom (part : Interval Frac) (from : Frac) (spans clipped : List Span) : Type 0 where
  covers : Follow from clipped part.to
  each : All (IsFromOne part spans) clipped
  alternate : Alternate clipped

alternate_rest : (x : Span) (xs : List Span) → Alternate (x ∷ xs) → Alternate xs
alternate_rest x [] h = tt
alternate_rest x (y ∷ ys) h = h.1

from_rest : (part : Interval Frac) (x : Span) (xs new : List Span) → All (IsFromOne part xs) new → All (IsFromOne part (x ∷ xs)) new
from_rest part x xs new each k d within = let one = each k d within in (one.0, (suc one.1.0, later one.1.0 one.1.1, one.1.2), one.2)
  where
    later : (k : ℕ) → k < length xs → suc k < length (x ∷ xs)
    later k h = omega arith

-- nothing of what begins at the part's last place or after it
none_after : (part : Interval Frac) (xs : List Span) (from to : Frac) (new : List Span) → Follow from xs to → IsNotLater part.to from → AreClippedEach part xs new → new ≡ []
none_after part [] from to new follow late each = each
none_after part (x ∷ xs) from to new (at, inside, follow) late (first, rest, all, added, each) =
    all ∙ (λ i. nothing added i ++ none_after part xs x.to to rest follow last each i)
  where
    begins : IsNotLater part.to x.from
    begins = same_not_later part.to from part.to x.from (same part.to) (same_back x.from from at) late

    last : IsNotLater part.to x.to
    last = not_later_not_later part.to x.from x.to begins (at_most_of_less (x.from.num *ℤ x.to.den) (x.to.num *ℤ x.from.den) inside)

    nothing : IsClippedAdded part x [] first → first ≡ []
    nothing (f, t, later, earlier, inl (less, y)) =
        absurd (not_both f t less (not_later_not_later t part.to f (earlier_most part.to x.to t earlier).0
        (not_later_not_later part.to x.from f begins (later_least part.from x.from f later).1)))
    nothing (f, t, later, earlier, inr (none, all)) = all

-- the first of them tells what the first of the spans does, if that reaches into the part
differ_next : (part : Interval Frac) (y x : Span) (xs : List Span) (to : Frac) (rest : List Span) → y.hidden ≡ x.hidden → Alternate (x ∷ xs) → Follow x.to xs to
    → IsEarlier part.from x.to → IsEarlier x.to part.to → AreClippedEach part xs rest → Alternate rest → Alternate (y ∷ rest)
differ_next part y x [] to rest is turns follow after before each alternate = subst (λ (zs : List Span). Alternate (y ∷ zs)) (sym each) tt
differ_next part y x (z ∷ zs) to rest is turns (at, inside, follow) after before (first, others, all, added, each) alternate = go added
  where
    go : IsClippedAdded part z [] first → Alternate (y ∷ rest)
    go (f, t, later, earlier, inl (less, (w, is_from, is_to, is_w, one))) =
        let whole : rest ≡ w ∷ others = all ∙ ap (λ (us : List Span). us ++ others) one in
        subst (λ (us : List Span). Alternate (y ∷ us)) (sym whole)
        ((λ e. turns.0 (sym is ∙ e ∙ is_w)), subst Alternate whole alternate)
    go (f, t, later, earlier, inr (none, all)) = absurd (none (reaches later earlier))
      where
        reaches : IsLaterOf part.from z.from f → IsEarlierOf part.to z.to t → IsEarlier f t
        reaches (inl (l, f_is)) (inl (e, t_is)) = same_earlier z.from z.to f t (same_back f z.from f_is) (same_back t z.to t_is) inside
        reaches (inl (l, f_is)) (inr (e, t_is)) = same_earlier x.to part.to f t (same_back f x.to (same_trans f z.from x.to f_is at)) (same_back t part.to t_is) before
        reaches (inr (l, f_is)) earlier = absurd (l (same_earlier part.from x.to part.from z.from (same part.from) (same_back z.from x.to at) after))

-- one span more, before what the others add
module _ (part : Interval Frac) (x : Span) (xs : List Span) (to g : Frac) (start : Frac) (at : IsSame x.from start) (inside : IsEarlier x.from x.to) (follow : Follow x.to xs to)
    (turns : Alternate (x ∷ xs)) (begins : IsLaterOf part.from start g) (less : IsEarlier g part.to) (rest : List Span) (each : AreClippedEach part xs rest)
    (next : (s : Frac) → IsLaterOf part.from x.to s → IsEarlier s part.to → AreClippedFrom part s xs rest) where
  module _ (f t : Frac) (later : IsLaterOf part.from x.from f) (earlier : IsEarlierOf part.to x.to t) where
    f_is : IsSame f g
    f_is = later_same part.from x.from start f g at later begins

    -- the span ends within the part
    ends_within : IsEarlier x.to part.to → IsSame t x.to → (first : List Span) → IsSpanAdded f t x.hidden [] first → AreClippedFrom part g (x ∷ xs) (first ++ rest)
    ends_within before t_is first (inl (there, (y, is_from, is_to, is, one))) = subst (λ (us : List Span). AreClippedFrom part g (x ∷ xs) (us ++ rest)) (sym one) (record {
      covers = (same_trans y.from f g is_from f_is, y_inside part x f t later earlier there y is_from is_to is, others.covers);
      each = All-cons (IsFromOne part (x ∷ xs)) y rest (x, (0, omega arith, refl), clipped_span part x f t later earlier there y is_from is_to is) (from_rest part x xs rest others.each);
      alternate = differ_next part y x xs to rest is turns follow after before each others.alternate;
    })
      where
        y_is : IsSame y.to x.to
        y_is = same_trans y.to t x.to is_to t_is

        after : IsEarlier part.from x.to
        after = same_earlier part.from y.to part.from x.to (same part.from) y_is (to_after part x f t later earlier there y is_from is_to is)

        others : AreClippedFrom part y.to xs rest
        others = next y.to (inl (after, y_is)) (same_earlier x.to part.to y.to part.to (same_back y.to x.to y_is) (same part.to) before)
    ends_within before t_is first (inr (none, empty)) = subst (λ (us : List Span). AreClippedFrom part g (x ∷ xs) (us ++ rest)) (sym empty)
        (record { covers = others.covers; each = from_rest part x xs rest others.each; alternate = others.alternate })
      where
        late : ¬ IsEarlier part.from x.to
        late h = none (reaches later)
          where
            reaches : IsLaterOf part.from x.from f → IsEarlier f t
            reaches (inl (l, is)) = same_earlier x.from x.to f t (same_back f x.from is) (same_back t x.to t_is) inside
            reaches (inr (l, is)) = same_earlier part.from x.to f t (same_back f part.from is) (same_back t x.to t_is) h

        g_is : IsLaterOf part.from x.from f → IsSame g part.from
        g_is (inl (l, is)) = absurd (none (same_earlier x.from x.to f t (same_back f x.from is) (same_back t x.to t_is) inside))
        g_is (inr (l, is)) = same_trans g f part.from (same_back f g f_is) is

        others : AreClippedFrom part g xs rest
        others = next g (inr (late, g_is later)) less

    -- it reaches the part's last place
    ends_after : ¬ IsEarlier x.to part.to → IsSame t part.to → (first : List Span) → IsSpanAdded f t x.hidden [] first → AreClippedFrom part g (x ∷ xs) (first ++ rest)
    ends_after late t_is first (inl (there, (y, is_from, is_to, is, one))) = subst (λ (us : List Span). AreClippedFrom part g (x ∷ xs) us) (sym whole) (record {
      covers = (same_trans y.from f g is_from f_is, y_inside part x f t later earlier there y is_from is_to is, same_trans y.to t part.to is_to t_is);
      each = All-cons (IsFromOne part (x ∷ xs)) y [] (x, (0, omega arith, refl), clipped_span part x f t later earlier there y is_from is_to is) (All-nil (IsFromOne part (x ∷ xs)));
      alternate = tt;
    })
      where
        whole : first ++ rest ≡ y ∷ []
        whole = λ i. one i ++ none_after part xs x.to to rest follow (not_later_of_not x.to part.to late) each i
    ends_after late t_is first (inr (none, empty)) = absurd (none (same_earlier g part.to f t (same_back f g f_is) (same_back t part.to t_is) less))

    one_more : IsEarlierOf part.to x.to t → (first : List Span) → IsSpanAdded f t x.hidden [] first → AreClippedFrom part g (x ∷ xs) (first ++ rest)
    one_more (inl (before, t_is)) = ends_within before t_is
    one_more (inr (late, t_is)) = ends_after late t_is

clipped_from : (part : Interval Frac) (xs : List Span) (from to g : Frac) (new : List Span) → Follow from xs to → Alternate xs → IsNotLater part.to to → IsLaterOf part.from from g → IsEarlier g part.to
    → AreClippedEach part xs new → AreClippedFrom part g xs new
clipped_from part [] from to g new at turns reach begins less each =
    absurd (not_both g part.to less (not_later_not_later part.to to g reach (same_not_later from g to g at (same g) (later_least part.from from g begins).1)))
clipped_from part (x ∷ xs) from to g new (at, inside, follow) turns reach begins less (first, rest, all, (f, t, later, earlier, added), each) =
    subst (AreClippedFrom part g (x ∷ xs)) (sym all)
    (one_more part x xs to g from at inside follow turns begins less rest each
    (λ s s_is before. clipped_from part xs x.to to s rest follow (alternate_rest x xs turns) reach s_is before each)
    f t later earlier earlier first added)

pub clipped_right : (part : Interval Frac) → IsStretch part → (spans clipped : List Span) → CoverEdge spans → Alternate spans → AreClippedEach part spans clipped → AreClipped part spans clipped
clipped_right part stretch spans clipped (from, to, zero, one, follow) turns each =
    let right = clipped_from part spans from to part.from clipped follow turns (not_later_one part.to to one stretch.to_place.most)
    (inr (not_after, same part.from)) stretch.earlier each in
    record { covers = right.covers; each = right.each; alternate = right.alternate }
  where
    not_after : ¬ IsEarlier part.from from
    not_after h = not_both part.from from h (zero_not_later from part.from zero stretch.from_place.least)
