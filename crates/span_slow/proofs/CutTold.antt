-- From the intervals in which an edge is hidden in a cut view to right spans of its part beyond the plane.
use Rattle.std.proofs.Common.{◌≡◌, inl, inr, List, [], ◌∷◌, Contains, refl, sym, subst, ◌∙◌, slice_index_or}
use Rattle.std.specs.Prelude.{ℤ, pos, ◌*ℤ◌, ◌<ℤ◌}
use Rattle.std.proofs.lemmas.List.Elements.{All-nil, All-head, All-contains}
use Rattle.exact_frac.specs.declared.Frac.{Frac}
use Rattle.lattice.specs.Points.{Point}
use Rattle.lattice.specs.Cuts.{Plane, toward_of, IsBeyond}
use Rattle.geometry.specs.Faces.{share_point}
use Rattle.geometry.specs.Parts.{Part, Edge}
use Rattle.geometry.specs.Cuts.{IsHiddenInCut, IsOrdinaryInCut}
use Rattle.geometry.proofs.BorderSteps.{ordinary_along_cut}
use Rattle.geometry.proofs.Shares.{one_place}
use Rattle.intervals.specs.declared.interval.Interval.{Interval}
use Rattle.lattice.specs.declared.spans.Span.{Span}
use Rattle.geometry.specs.Places.{point_at, IsPlace, IsSame, IsBetween, HasNoEndAt}
use Rattle.cut_plane.specs.Beyond.{IsStretch, IsPartEnd, IsPartBeyond}
use Rattle.span_slow.specs.inner.Hidden.{IsAtEnd, IsIntervalEnd, TellsWithin, AreSpansOf}
use Rattle.span_slow.specs.inner.CutHidden.{IsOrdinaryBeyond, AreWhereBeyond}
use Rattle.span_slow.specs.CutSpans.{IsAnswerInCut, AreCutSpans}
use Rattle.span_slow.specs.inner.Steps.{IsClippedEnd, IsClippedSpan, AreClipped}
use Rattle.geometry.proofs.PlaceFractions.{after_start, before_finish}
use Rattle.geometry.proofs.PlaceOrder.{between_value}
use Rattle.span_slow.proofs.Same.{same_known}
use Rattle.cut_plane.proofs.OneInterval.{within_one}
use Rattle.span_slow.proofs.CutParts.{part_end_apart}

-- what is so of the point at a place is so at the same numbers
at_same : (P : Point → Type 0) {s : Part} (e : Edge s) (r q : Frac) → IsSame r q → P (point_at e r) → P (point_at e q)
at_same P e r q (num, den) h = subst (λ (k : ℤ). P (share_point e.a e.b k q.den)) num (subst (λ (l : ℤ). P (share_point e.a e.b r.num l)) den h)

-- where no part is beyond the plane
pub no_spans : (c : Plane) {s : Part} (e : Edge s) → IsPartBeyond c e [] → AreCutSpans c e []
no_spans c {s} e none = record {
  covers = ([], none, refl);
  ends = All-nil (λ (x : Span). HasNoEndAt (IsOrdinaryInCut c s) e x.from x.to);
  answers = All-nil (IsAnswerInCut c e);
  alternate = tt;
}

module _ (c : Plane) (s : Part) (e : Edge s) (part : Interval Frac) (beyond : IsPartBeyond c e (part ∷ [])) where
  stretch : IsStretch part
  stretch = All-head IsStretch part [] beyond.stretches

  -- what is strictly within the part is beyond the plane
  inside : (n m : ℤ) → pos 0 <ℤ m → IsBetween part.from part.to n m → IsBeyond c (share_point e.a e.b n m)
  inside n m positive between =
      (beyond.exactly n m (after_start part.from.num part.from.den n m stretch.from_place.least part.from.positive positive between.0)
      (before_finish part.to.num part.to.den n m stretch.to_place.most part.to.positive positive between.1)).1 ((within_one part n m).0 between)

  part_ends : IsPartEnd c e part.from × IsPartEnd c e part.to
  part_ends = All-head (λ (x : Interval Frac). IsPartEnd c e x.from × IsPartEnd c e x.to) part [] beyond.ends

  module _ (xs : List (Interval Frac)) (hidden : AreWhereBeyond c e (IsHiddenInCut c s) xs) where
    ends_apart : (x : Interval Frac) → Contains xs x → HasNoEndAt (IsOrdinaryBeyond c s) e x.from x.to
    ends_apart x listed = All-contains (λ x. HasNoEndAt (IsOrdinaryBeyond c s) e x.from x.to) xs x hidden.ends listed

    -- an end of an interval strictly within the part is not at an ordinary point
    known_apart : (r : Frac) → IsPlace r → IsBetween part.from part.to r.num r.den → IsIntervalEnd xs r → ¬ IsOrdinaryInCut c s (point_at e r)
    known_apart r place between (inl h) = part_end_apart c s e r place (inl h)
    known_apart r place between (inr (inl h)) = part_end_apart c s e r place (inr (inl h))
    known_apart r place between (inr (inr (x, listed, inl same))) = λ ordinary. (ends_apart x listed).0 (at_same (IsOrdinaryBeyond c s) e r x.from same (ordinary, inside r.num r.den r.positive between))
    known_apart r place between (inr (inr (x, listed, inr same))) = λ ordinary. (ends_apart x listed).1 (at_same (IsOrdinaryBeyond c s) e r x.to same (ordinary, inside r.num r.den r.positive between))

    off_ends : (n m : ℤ) → pos 0 <ℤ m → IsBetween part.from part.to n m → IsOrdinaryInCut c s (share_point e.a e.b n m) → ¬ IsAtEnd xs n m
    off_ends n m positive between ordinary (x, listed, at) = elim at [
      | inl same ↦ (ends_apart x listed).0 (there x.from same)
      | inr same ↦ (ends_apart x listed).1 (there x.to same)
    ]
      where
        there : (r : Frac) → n *ℤ r.den ≡ r.num *ℤ m → IsOrdinaryBeyond c s (point_at e r)
        there r same = (
          ordinary_along_cut c s (share_point e.a e.b n m) (point_at e r) r.positive (one_place (toward_of c) e.a e.b r.num r.den n m (sym same)) ordinary,
          inside r.num r.den r.positive (between_value part.from part.to n m r.num r.den positive r.positive same between),
        )

    module _ (spans : List Span) (told : AreSpansOf xs spans) (x y : Span) (listed : Contains spans x) (clipped : IsClippedSpan part x y) where
      known : IsIntervalEnd xs x.from × IsIntervalEnd xs x.to
      known = All-contains (λ (x : Span). IsIntervalEnd xs x.from × IsIntervalEnd xs x.to) spans x told.ends listed

      end_apart : (r : Frac) → IsPlace r → IsClippedEnd part x r → ¬ IsOrdinaryInCut c s (point_at e r)
      end_apart r place (inl (inl same)) = λ ordinary. part_end_apart c s e part.from stretch.from_place part_ends.0 (at_same (IsOrdinaryInCut c s) e r part.from same ordinary)
      end_apart r place (inl (inr same)) = λ ordinary. part_end_apart c s e part.to stretch.to_place part_ends.1 (at_same (IsOrdinaryInCut c s) e r part.to same ordinary)
      end_apart r place (inr (between, inl same)) = known_apart r place between (same_known xs r x.from same known.0)
      end_apart r place (inr (between, inr same)) = known_apart r place between (same_known xs r x.to same known.1)

      ends_of : HasNoEndAt (IsOrdinaryInCut c s) e y.from y.to
      ends_of = (end_apart y.from y.from_place clipped.ends.0, end_apart y.to y.to_place clipped.ends.1)

      answer_of : IsAnswerInCut c e y
      answer_of n m positive between ordinary =
          let both = clipped.within n m positive between in
          let after = after_start y.from.num y.from.den n m y.from_place.least y.from.positive positive between.0 in
          let before = before_finish y.to.num y.to.den n m y.to_place.most y.to.positive positive between.1 in
          let tells = All-contains (TellsWithin xs) spans x told.tells listed in
          let said = tells n m positive both.0 (off_ends n m positive both.1 ordinary) in
          let known = hidden.exactly n m after before (ordinary, inside n m positive both.1) in
          ((λ h. known.1 (said.0 (sym clipped.same_hidden ∙ h))), (λ h. clipped.same_hidden ∙ said.1 (known.0 h)))

    pub cut_spans_are : (spans clipped : List Span) → AreSpansOf xs spans → AreClipped part spans clipped → AreCutSpans c e clipped
    cut_spans_are spans clipped told h = record {
      covers = (part ∷ [], beyond, h.covers);
      ends = λ k d within. let one = h.each k d within in ends_of spans told one.0 (slice_index_or clipped k d) one.1 one.2;
      answers = λ k d within. let one = h.each k d within in answer_of spans told one.0 (slice_index_or clipped k d) one.1 one.2;
      alternate = h.alternate;
    }
