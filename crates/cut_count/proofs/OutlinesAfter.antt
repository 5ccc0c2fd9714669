-- What outlines change of a count after a place of an edge in a cut view, by the crossings that are found with them.
use Rattle.std.proofs.Common.{◌≡◌, ◌≢◌, ◌⊎◌, inl, inr, ℕ, ◌<◌, Bool, true, false, cond, List, Contains, Option, Some, None, length, refl, sym, ap, subst, ◌∙◌}
use Rattle.std.specs.Prelude.{ℤ, pos, ◌+ℤ◌, ◌*ℤ◌, ◌<ℤ◌}
use Rattle.std.specs.List.{AllZip}
use Rattle.std.proofs.lemmas.Int.{by_lt_z}
use Rattle.std.proofs.lemmas.List.Elements.{All-contains}
use Rattle.integers.proofs.Comparisons.{at_most_of_same, less_not_at_most, positive_of_more}
use Rattle.integers.proofs.Orders.{lt_z_of_less, lt_z_of_at_most}
use Rattle.exact_frac.specs.declared.Frac.{Frac}
use Rattle.lattice.specs.Triple.{Triple}
use Rattle.lattice.specs.Cuts.{Plane, toward_of}
use Rattle.geometry.specs.Faces.{share_point}
use Rattle.geometry.specs.Parts.{Part, Edge, AreEdges, IsNumbered}
use Rattle.geometry.specs.Places.{point_at}
use Rattle.geometry.specs.Sound.{IsSound}
use Rattle.geometry.proofs.BorderSteps.{ordinary_along_cut}
use Rattle.geometry.proofs.PlaceOrder.{less_most}
use Rattle.geometry.proofs.Shares.{one_place}
use Rattle.hiding_laws.proofs.CutPlanes.{cut-somewhere}
use Rattle.hiding_laws.proofs.Decisions.{same_or, less_or}
use Rattle.geometry.specs.Counts.{Side}
use Rattle.geometry.specs.Shares.{PassesNearer, IsCrossedAt, denominator_of, numerator_of}
use Rattle.hiding_laws.specs.Sums.{total}
use Rattle.hiding_laws.proofs.EdgeNumbers.{half_of, half_of_within, half_at_number}
use Rattle.hiding_laws.proofs.HalfFaces.{edge_of}
use Rattle.hiding_laws.proofs.SumsBelow.{keep}
use Rattle.cross_find.specs.declared.meter.Crossing.{Crossing}
use Rattle.span_count.specs.Carries.{change_before}
use Rattle.span_count.proofs.Lists.{all_zip_weaker, zip_some}
use Rattle.span_count.proofs.Sums.{of_option}
use Rattle.cut_count_laws.specs.CutShares.{cut_change_of, PassesInCut}
use Rattle.cut_count_laws.proofs.CutEndsApart.{outline_apart}
use Rattle.cut_count_laws.proofs.CutLaws.{IsCrossedAfter, ChangesAfter, HasEachOutlineAfter}
use Rattle.cut_count_laws.proofs.CutLaws.ChangesAfter.{to_come, not_to_come}
use Rattle.cut_count_laws.proofs.Laws.{HasCornersInRange, IsValid}
use Rattle.cut_count.specs.Crossings.{IsCutCrossing, IsCutAcross}
use Rattle.cut_count.specs.inner.Walks.{AreListedInCut, IsOutlineAnswer, AreOutlineCrossings}
use Rattle.cut_count.proofs.AfterSums.{is_before, is_after, apart_tests, kept_once, total_split}
use Rattle.cut_count.proofs.OutlineTotals.{change_told, some_change, passes_or, square, same_place, outlines_total}
use Rattle.cut_count.proofs.WalkLaws.{change_to}

-- ---- what each outline changes
module _ (k : Side) (c : Plane) {s : Part} (e : Edge s) (n m : ℤ) (there : pos 0 <ℤ m) where
  abbrev pub change_after : Crossing → ℤ
  change_after y = keep (is_after n m y.at) (change_to k y)

  module _ (o : Edge s) where
    abbrev d : Triple
    d = toward_of c

    abbrev N : ℤ
    N = numerator_of d e o

    abbrev D : ℤ
    D = denominator_of d e o

    -- it is crossed after n / m exactly where its place, as it is kept, is after that
    module _ (p : PassesNearer d e o) (at : Frac) (is : IsCrossedAt d e o at) where
      crossed_after : (n *ℤ at.den) <ℤ (at.num *ℤ m) → IsCrossedAfter d e o n m
      crossed_after h = less_most n m at.num at.den (N *ℤ D) (D *ℤ D) there at.positive (square c e o p at is n m there) h (at_most_of_same _ _ (sym (same_place c e o p at is n m there)))

      after_crossed : IsCrossedAfter d e o n m → (n *ℤ at.den) <ℤ (at.num *ℤ m)
      after_crossed h = less_most n m (N *ℤ D) (D *ℤ D) at.num at.den there (square c e o p at is n m there) at.positive h (at_most_of_same _ _ (same_place c e o p at is n m there))

    pub changes_after : (answer : Option Crossing) → IsCutAcross c e o answer → ChangesAfter k c e o n m (of_option change_after answer)
    changes_after None none = by (passes_or c e o) (less_or (n *ℤ (D *ℤ D)) ((N *ℤ D) *ℤ m)) (same_or (cut_change_of k c e o) (pos 0))
      where
        by : PassesInCut c e o ⊎ ¬ PassesInCut c e o → IsCrossedAfter d e o n m ⊎ ¬ IsCrossedAfter d e o n m → (cut_change_of k c e o ≡ pos 0) ⊎ ¬ (cut_change_of k c e o ≡ pos 0) → ChangesAfter k c e o n m (pos 0)
        by (inr f) q z = not_to_come (λ h. f h.0)
        by (inl p) (inr f) z = not_to_come (λ h. f h.1)
        by (inl p) (inl q) (inl z) = subst (ChangesAfter k c e o n m) z (to_come p q)
        by (inl p) (inl q) (inr f) = absurd (none (record { passes = p; some = some_change k c e o f }))
    changes_after (Some y) is =
        let p = is.changes.passes in
        by_lt_z (n *ℤ y.at.den) (y.at.num *ℤ m)
        (λ h. subst (ChangesAfter k c e o n m) (sym (ap (λ b. keep b (change_to k y)) (lt_z_of_less _ _ h) ∙ change_told k c e o y is)) (to_come p (crossed_after p.passes y.at is.at h)))
        (λ h. subst (ChangesAfter k c e o n m) (sym (ap (λ b. keep b (change_to k y)) (lt_z_of_at_most _ _ h))) (not_to_come (λ q. less_not_at_most _ _ (after_crossed p.passes y.at is.at q.1) h)))

-- ---- all of them
module _ (c : Plane) (s : Part) (sound : IsSound s) (in_range : HasCornersInRange s) (halves : List ℕ) (edges : AreEdges s halves) (edge : ℕ) (e : Edge s) (numbered : IsNumbered halves edge e)
    (numbers : List ℕ) (listed : AreListedInCut c s halves edge numbers) (crossings : List Crossing) (found : AreOutlineCrossings c e halves numbers crossings) (n m : ℤ) (valid : IsValid c e n m) where
  abbrev there : pos 0 <ℤ m
  there = positive_of_more n m valid.after valid.before

  pub each_outline_after : HasEachOutlineAfter c e n m halves numbers
  each_outline_after = record {
    edges = edges;
    within = listed.within;
    once = listed.once;
    whole = λ i o at changes after. listed.changing e o i numbered at changes;
  }

  pub all_change_after : (k : Side) → AllZip (λ i answer. (o : Edge s) → IsNumbered halves i o → ChangesAfter k c e o n m (of_option (change_after k c e n m there) answer)) numbers found.answers
  all_change_after k = all_zip_weaker (IsOutlineAnswer c e halves) (λ i answer. (o : Edge s) → IsNumbered halves i o → ChangesAfter k c e o n m (of_option (change_after k c e n m there) answer))
      (λ i answer h o at. changes_after k c e n m there o answer (h o at)) numbers found.answers found.each

  edge_at : (i : ℕ) → i < length halves → (o : Edge s) × IsNumbered halves i o
  edge_at i within = (edge_of (toward_of c) (cut-somewhere c) s sound in_range (half_of halves i) (half_of_within s sound.closed halves edges i within), half_at_number s sound.closed halves edges i within)

  -- none crosses at the place
  apart : (y : Crossing) → Contains crossings y → y.at.num *ℤ m ≢ n *ℤ y.at.den
  apart y in_list same =
      let (i, listed_there, told) = zip_some (IsOutlineAnswer c e halves) numbers found.answers found.each y (subst (λ xs. Contains xs y) found.all in_list) in
      let (o, at) = edge_at i (All-contains (λ i. i < length halves) numbers i listed.within listed_there) in
      let across : IsCutCrossing c e o y = told o at in
      outline_apart c e o across.changes y.at across.at
      (ordinary_along_cut c s (share_point e.a e.b n m) (point_at e y.at) y.at.positive (one_place (toward_of c) e.a e.b y.at.num y.at.den n m same) valid.ordinary)

  pub outlines_split : (k : Side) → total (change_to k) crossings ≡ total (change_before (change_to k) n m) crossings +ℤ total (of_option (change_after k c e n m there)) found.answers
  outlines_split k =
      total_split (λ y. is_before n m y.at) (λ y. is_after n m y.at) (change_to k) crossings
      (λ y in_list. kept_once (λ y. is_before n m y.at) (λ y. is_after n m y.at) y (apart_tests n m y.at (apart y in_list)) (change_to k y))
      ∙ (λ i. total (λ y. before_is (is_before n m y.at) (change_to k y) i) crossings +ℤ outlines_total k c e halves numbers crossings found (change_after k c e n m there) i)
    where
      before_is : (b : Bool) (z : ℤ) → keep b z ≡ cond b z (pos 0)
      before_is true z = refl
      before_is false z = refl
