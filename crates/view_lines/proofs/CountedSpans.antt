-- Spans that are hidden where their counts are not both 0 tell where the edge is hidden, in a plain view and in the view of a cut.
use Rattle.std.proofs.Common.{◌≡◌, ◌≢◌, ◌↔◌, ◌+◌, ◌<◌, Bool, List, [], ◌∷◌, All, Contains, length, ap, get_or, refl, sym, subst, IsTrue, arith}
use Rattle.std.specs.Prelude.{ℤ}
use Rattle.std.specs.List.{AllZip}
use Rattle.std.proofs.lemmas.List.Elements.{All-contains, Contains-get_or}
use Rattle.cut_count.specs.CutSpans as counted
use Rattle.cut_count.specs.CutSpans.{IsRightInCut, AreCutCountSpans}
use Rattle.exact_frac.specs.declared.Frac.{Frac}
use Rattle.geometry.specs.Cuts.{IsHiddenInCut, IsOrdinaryInCut}
use Rattle.geometry.specs.Faces.{share_point}
use Rattle.geometry.specs.Parts.{Part, Edge}
use Rattle.geometry.specs.Places.{point_at, IsEarlier, IsSame, HasNoEndAt}
use Rattle.geometry.specs.Views.{IsHidden, IsOrdinary}
use Rattle.geometry.proofs.BorderSteps.{ordinary_along_cut}
use Rattle.geometry.proofs.Sights.{ordinary_along}
use Rattle.geometry.proofs.SamePlaces.{same_back, same_trans, same_between, same_earlier}
use Rattle.intervals.specs.declared.interval.Interval.{Interval}
use Rattle.lattice.specs.Cuts.{Plane, toward_of}
use Rattle.lattice.specs.Points.{Point}
use Rattle.lattice.specs.Triple.{Triple}
use Rattle.line_merge.proofs.Zips.{zip_right}
use Rattle.span_count.specs.CountSpans as counts
use Rattle.span_count.specs.CountSpans.{IsRight, AreCountSpans}
use Rattle.span_count.specs.declared.span.CountSpan.{CountSpan}
use Rattle.cut_plane.specs.Beyond as cut
use Rattle.geometry.specs.Spans as plain
use Rattle.geometry.specs.Spans.{IsAnswer}
use Rattle.lattice.specs.declared.spans.Span.{Span}
use Rattle.view_lines.specs.inner.Told.{IsToldBy, AreJoined, AreToldBy}
use Rattle.view_lines.specs.inner.Chained.{AreChained}
use Rattle.drawn_strips.specs.Strips.{TellHidden, IsOffBorders, IsFreeAnswer, TellHiddenInCut}
use Rattle.view_lines.proofs.Runs.{HasRun, run_of, run_no_end, runs_follow, runs_of_none, single_within}
use Rattle.drawn_strips.proofs.SpanPlaces.{earlier_in}

-- they follow one another from and to the same places
told_follow : (from start to : Frac) (xs : List CountSpan) (spans : List Span) → AllZip IsToldBy xs spans → IsSame start from → counts.Follow from xs to → plain.Follow start spans to
told_follow from start to [] [] told same at = same_trans start from to same at
told_follow from start to [] (y ∷ ys) told same at = absurd told
told_follow from start to (x ∷ xs) [] told same at = absurd told
told_follow from start to (x ∷ xs) (y ∷ ys) (here, more) same (at, earlier, later) = (
  same_trans y.from x.from start here.from (same_trans x.from from start at (same_back start from same)),
  same_earlier x.from x.to y.from y.to (same_back y.from x.from here.from) (same_back y.to x.to here.to) earlier,
  told_follow x.to y.to to xs ys more here.to later,
)

-- none are told by none
no_spans : (xs : List CountSpan) (spans : List Span) → AllZip IsToldBy xs spans → xs ≡ [] → spans ≡ []
no_spans xs [] told none = refl
no_spans xs (y ∷ ys) told none = absurd (subst (λ (xs : List CountSpan). AllZip IsToldBy xs (y ∷ ys)) none told)

-- ---- counts that follow one another
pub edge_chained : (xs : List CountSpan) → counts.CoverEdge xs → AreChained xs
edge_chained xs (from, to, zero_is, one_is, follow) some = (from, to, follow)

pub beyond_chained : (c : Plane) {s : Part} (e : Edge s) (xs : List CountSpan) → counted.CoverBeyond c e xs → AreChained xs
beyond_chained c e xs (parts, is_part, cover) some = by parts cover
  where
    no_length : (ys : List CountSpan) → ys ≡ [] → 0 < length ys → ⊥
    no_length ys is some = let none = ap (λ (zs : List CountSpan). length zs) is in omega (arith, none, some)

    by : (parts : List (Interval Frac)) → counted.CoverPart parts xs → (from : Frac) × (to : Frac) × counts.Follow from xs to
    by [] none = absurd (no_length xs none some)
    by (part ∷ []) follow = (part.from, part.to, follow)
    by (part ∷ next ∷ parts) none = absurd none

-- and so each span begins before it ends
pub told_earlier : (xs : List CountSpan) (spans : List Span) → AreToldBy xs spans → AreChained xs → All (λ x. IsEarlier x.from x.to) spans
told_earlier xs spans (singles, told, runs) chained = by xs told chained
  where
    none : spans ≡ [] → All (λ x. IsEarlier x.from x.to) spans
    none is = subst (λ (ys : List Span). All (λ x. IsEarlier x.from x.to) ys) (sym is) (λ k z within. absurd (omega (arith, within)))

    by : (xs : List CountSpan) → AllZip IsToldBy xs singles → AreChained xs → All (λ x. IsEarlier x.from x.to) spans
    by [] told chained = none (runs_of_none singles spans runs (no_spans [] singles told refl))
    by (x ∷ xs) told chained =
        let (from, to, follow) = chained (omega arith) in
        λ k z within.
        earlier_in from to spans (runs_follow from to singles spans runs (told_follow from from to (x ∷ xs) singles told (refl, refl) follow)) (get_or spans k z) (Contains-get_or spans k z within)

-- ---- at the same places
module _ (O : Point → Type 0) {s : Part} (e : Edge s) where
  at_same : (r q : Frac) → IsSame r q → O (point_at e r) → O (point_at e q)
  at_same r q same here = subst (λ (n : ℤ). O (share_point e.a e.b n q.den)) same.0 (subst (λ (m : ℤ). O (share_point e.a e.b r.num m)) same.1 here)

  told_end : (x : CountSpan) (y : Span) → IsToldBy x y → HasNoEndAt O e x.from x.to → HasNoEndAt O e y.from y.to
  told_end x y told none = (λ h. none.0 (at_same y.from x.from told.from h), λ h. none.1 (at_same y.to x.to told.to h))

  told_ends : (xs : List CountSpan) (spans : List Span) → AllZip IsToldBy xs spans → All (λ x. HasNoEndAt O e x.from x.to) xs → All (λ x. HasNoEndAt O e x.from x.to) spans
  told_ends xs spans told ends k z within =
      let y = get_or spans k z in
      let (x, listed, here) = zip_right IsToldBy xs spans told y (Contains-get_or spans k z within) in
      told_end x y here (All-contains (λ x. HasNoEndAt O e x.from x.to) xs x ends listed)

-- what is so exactly where the counts are not both 0 is so exactly where the span is hidden
told_hidden : (x : CountSpan) (y : Span) (P : Type 0) → IsToldBy x y → P ↔ (x.left + x.right ≢ 0) → IsTrue y.hidden ↔ P
told_hidden x y P told at = (λ h. at.1 (told.hidden.0 h), λ h. told.hidden.1 (at.0 h))

-- ---- in a plain view
module _ (d : Triple) {s : Part} (e : Edge s) where
  told_singles : (xs : List CountSpan) (spans : List Span) → AllZip IsToldBy xs spans → AreCountSpans d e xs → TellHidden d e spans
  told_singles xs spans told are =
      let (from, to, zero_is, one_is, follow) = are.covers in
      record {
        covers = (from, to, zero_is, one_is, told_follow from from to xs spans told (refl, refl) follow);
        ends = told_ends (IsOrdinary d s) e xs spans told are.ends;
        answers = λ k z within n m positive between ordinary.
            let y = get_or spans k z in
            let (x, listed, here) = zip_right IsToldBy xs spans told y (Contains-get_or spans k z within) in
            let right = All-contains (IsRight d e) xs x are.right listed in
            told_hidden x y (IsHidden d s (share_point e.a e.b n m)) here (right n m positive (same_between y.from y.to x.from x.to n m here.from here.to between) ordinary).hidden;
      }

  pub told_spans : (xs : List CountSpan) (spans : List Span) → AreToldBy xs spans → AreCountSpans d e xs → TellHidden d e spans
  told_spans xs spans (singles, told, runs) are =
      let each = told_singles xs singles told are in
      let (from, to, zero_is, one_is, follow) = each.covers in
      record {
        covers = (from, to, zero_is, one_is, runs_follow from to singles spans runs follow);
        ends = λ k z within. let y = get_or spans k z in run_no_end d (IsOrdinary d s) (ordinary_along d s) e singles each.ends y (run_of from to singles spans runs follow y (Contains-get_or spans k z within));
        answers = λ k z within n m positive between ordinary.
            let y = get_or spans k z in
            let has = run_of from to singles spans runs follow y (Contains-get_or spans k z within) in
            let (x, listed, inside, as_hidden) = single_within d (IsOrdinary d s) (ordinary_along d s) e singles each.ends n m positive ordinary y has between in
            subst (λ (b : Bool). IsTrue b ↔ IsHidden d s (share_point e.a e.b n m)) as_hidden (All-contains (IsAnswer d e) singles x each.answers listed n m positive inside ordinary);
      }

-- ---- in the view of a cut
module _ (c : Plane) {s : Part} (e : Edge s) where
  told_part : (parts : List (Interval Frac)) (xs : List CountSpan) (singles spans : List Span) → AllZip IsToldBy xs singles → AreJoined singles spans → counted.CoverPart parts xs
      → cut.CoverPart parts spans × ((y : Span) → Contains spans y → HasRun singles y)
  told_part [] xs singles spans told runs none = let empty = runs_of_none singles spans runs (no_spans xs singles told none) in
      (empty, λ y listed. absurd (let there : Contains [] y = subst (λ (ys : List Span). Contains ys y) empty listed in omega (arith, there.1)))
  told_part (part ∷ []) xs singles spans told runs follow =
      let singly = told_follow part.from part.from part.to xs singles told (refl, refl) follow in
      (runs_follow part.from part.to singles spans runs singly, run_of part.from part.to singles spans runs singly)
  told_part (part ∷ next ∷ parts) xs singles spans told runs none = absurd none

  free_singles : (xs : List CountSpan) (singles : List Span) → AllZip IsToldBy xs singles → AreCutCountSpans c e xs → All (IsFreeAnswer c (IsOffBorders c s) e) singles
  free_singles xs singles told are k z within n m positive between ordinary free =
      let y = get_or singles k z in
      let (x, listed, here) = zip_right IsToldBy xs singles told y (Contains-get_or singles k z within) in
      let right = All-contains (IsRightInCut c e) xs x are.right listed in
      told_hidden x y (IsHiddenInCut c s (share_point e.a e.b n m)) here (right n m positive (same_between y.from y.to x.from x.to n m here.from here.to between) ordinary free).hidden

  pub told_cut_spans : (xs : List CountSpan) (spans : List Span) → AreToldBy xs spans → AreCutCountSpans c e xs → TellHiddenInCut c (IsOffBorders c s) e spans
  told_cut_spans xs spans (singles, told, runs) are =
      let (parts, is_part, cover) = are.covers in
      let (covers, has) = told_part parts xs singles spans told runs cover in
      let apart = told_ends (IsOrdinaryInCut c s) e xs singles told are.ends in
      record {
        covers = (parts, is_part, covers);
        ends = λ k z within. let y = get_or spans k z in run_no_end (toward_of c) (IsOrdinaryInCut c s) (ordinary_along_cut c s) e singles apart y (has y (Contains-get_or spans k z within));
        answers = λ k z within n m positive between ordinary free.
            let y = get_or spans k z in
            let (x, listed, inside, as_hidden) = single_within (toward_of c) (IsOrdinaryInCut c s) (ordinary_along_cut c s) e singles apart n m positive ordinary y (has y (Contains-get_or spans k z within)) between in
            subst (λ (b : Bool). IsTrue b ↔ IsHiddenInCut c s (share_point e.a e.b n m)) as_hidden
            (All-contains (IsFreeAnswer c (IsOffBorders c s) e) singles x (free_singles xs singles told are) listed n m positive inside ordinary free);
      }
