-- From the intervals in which an edge is hidden to right spans.
use Rattle.std.proofs.Common.{◌≡◌, inl, inr, List, Contains, sym, subst, slice_get, slice_index_or, Some}
use Rattle.std.specs.Prelude.{ℤ, pos, ◌*ℤ◌, ◌<ℤ◌}
use Rattle.std.proofs.lemmas.List.Elements.{All-contains}
use Rattle.exact_frac.specs.declared.Frac.{Frac}
use Rattle.lattice.specs.declared.points.Corner.{Corner}
use Rattle.lattice.specs.Triple.{Triple}
use Rattle.geometry.specs.Faces.{share_point}
use Rattle.geometry.specs.Parts as parts
use Rattle.geometry.specs.Parts.{Part}
use Rattle.geometry.specs.Views.{IsHidden, IsOrdinary}
use Rattle.solid_mesh.specs.Solids.{HasNumbers}
use Rattle.solid_mesh.specs.declared.solid.Edge.{Edge}
use Rattle.geometry.proofs.Listed.{same_element}
use Rattle.intervals.specs.declared.interval.Interval.{Interval}
use Rattle.lattice.specs.declared.spans.Span.{Span}
use Rattle.geometry.specs.Places.{point_at, IsPlace, IsSame, HasNoOrdinaryEnd}
use Rattle.geometry.specs.Spans.{IsAnswer}
use Rattle.span_slow.specs.Spans.{AreSpans}
use Rattle.span_slow.specs.inner.Hidden.{AreWhere, IsAtEnd, IsIntervalEnd, TellsWithin, AreSpansOf}
use Rattle.hiding_laws.proofs.FrontEnds.{not-at-start, not-at-finish}
use Rattle.geometry.proofs.PlaceFractions.{after_start, before_finish}
use Rattle.geometry.proofs.Sights.{ordinary_along}
use Rattle.geometry.proofs.Shares.{one_place}

-- the edge's corners are those that were read at its numbers
pub read_ends : (s : Part) (e : parts.Edge s) (given : Edge) (a b : Corner) → HasNumbers e given → slice_get s.corners given.a ≡ Some a → slice_get s.corners given.b ≡ Some b → (e.a ≡ a) × (e.b ≡ b)
read_ends s e given a b h at_a at_b = (same_element s.corners e.m given.a e.a a h.a e.at_m at_a, same_element s.corners e.n given.b e.b b h.b e.at_n at_b)

-- whether a point of an edge is ordinary depends on the value of its share alone
same_ordinary : (d : Triple) (a b : Corner) (n m k l : ℤ) → pos 0 <ℤ l → n *ℤ l ≡ k *ℤ m → (s : Part) → IsOrdinary d s (share_point a b n m) → IsOrdinary d s (share_point a b k l)
same_ordinary d a b n m k l positive same s h = ordinary_along d s (share_point a b n m) (share_point a b k l) positive (one_place d a b k l n m (sym same)) h

module _ (d : Triple) (s : Part) (e : parts.Edge s) (xs : List (Interval Frac)) (hidden : AreWhere d e (IsHidden d s) xs) where
  -- no interval ends at an ordinary point
  ends_apart : (x : Interval Frac) → Contains xs x → HasNoOrdinaryEnd d e x.from x.to
  ends_apart x listed = All-contains (λ x. HasNoOrdinaryEnd d e x.from x.to) xs x hidden.ends listed

  same_numbers : (r q : Frac) → IsSame r q → IsOrdinary d s (point_at e r) → IsOrdinary d s (point_at e q)
  same_numbers r q (num, den) ordinary =
      subst (λ (k : ℤ). IsOrdinary d s (share_point e.a e.b k q.den)) num (subst (λ (l : ℤ). IsOrdinary d s (share_point e.a e.b r.num l)) den ordinary)

  known_apart : (r : Frac) → IsPlace r → IsIntervalEnd xs r → ¬ IsOrdinary d s (point_at e r)
  known_apart r place (inl h) = not-at-start d s e r.num r.den r.positive place.least place.most h
  known_apart r place (inr (inl h)) = not-at-finish d s e r.num r.den r.positive place.least place.most h
  known_apart r place (inr (inr (x, listed, inl same))) = λ ordinary. (ends_apart x listed).0 (same_numbers r x.from same ordinary)
  known_apart r place (inr (inr (x, listed, inr same))) = λ ordinary. (ends_apart x listed).1 (same_numbers r x.to same ordinary)

  ends_of : (x : Span) → IsIntervalEnd xs x.from × IsIntervalEnd xs x.to → HasNoOrdinaryEnd d e x.from x.to
  ends_of x (from, to) = (known_apart x.from x.from_place from, known_apart x.to x.to_place to)

  off_ends : (n m : ℤ) → IsOrdinary d s (share_point e.a e.b n m) → ¬ IsAtEnd xs n m
  off_ends n m ordinary (x, listed, inl same) = (ends_apart x listed).0 (same_ordinary d e.a e.b n m x.from.num x.from.den x.from.positive same s ordinary)
  off_ends n m ordinary (x, listed, inr same) = (ends_apart x listed).1 (same_ordinary d e.a e.b n m x.to.num x.to.den x.to.positive same s ordinary)

  answers : (x : Span) → TellsWithin xs x → IsAnswer d e x
  answers x tells n m positive between ordinary =
      let after = after_start x.from.num x.from.den n m x.from_place.least x.from.positive positive between.0 in
      let before = before_finish x.to.num x.to.den n m x.to_place.most x.to.positive positive between.1 in
      let known = hidden.exactly n m after before ordinary in
      let told = tells n m positive between (off_ends n m ordinary) in
      ((λ h. known.1 (told.0 h)), (λ h. told.1 (known.0 h)))

  pub spans_are : (spans : List Span) → AreSpansOf xs spans → AreSpans d e spans
  spans_are spans h = record {
    covers = h.covers;
    ends = λ k y within. ends_of (slice_index_or spans k y) (h.ends k y within);
    answers = λ k y within. answers (slice_index_or spans k y) (h.tells k y within);
    alternate = h.alternate;
  }
