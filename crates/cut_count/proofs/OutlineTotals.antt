-- What the outlines along an edge of a cut view have changed of a count by a place: by the answers of the test of each.
use Rattle.std.proofs.Common.{◌≡◌, ◌≢◌, ◌⊎◌, inl, inr, ℕ, List, [], ◌∷◌, Option, Some, None, refl, sym, ap, subst, ◌∙◌}
use Rattle.std.specs.Prelude.{ℤ, pos, ◌*ℤ◌, ◌<ℤ◌}
use Rattle.std.specs.List.{AllZip}
use Rattle.std.proofs.lemmas.Int.{by_lt_z}
use Rattle.integers.proofs.Comparisons.{at_most_of_same, less_not_at_most, positive_of_more}
use Rattle.integers.proofs.Ring.{var, ◌⊗◌, ring}
use Rattle.exact_frac.specs.declared.Frac.{Frac}
use Rattle.lattice.specs.Triple.{Triple}
use Rattle.lattice.specs.Points.{Point, point_of, height_of}
use Rattle.lattice.specs.Cuts.{Plane, toward_of, plane_height, IsBeyond}
use Rattle.geometry.specs.Faces.{share_point}
use Rattle.geometry.specs.Parts.{Part, Edge, AreEdges, IsNumbered}
use Rattle.geometry.proofs.PlaceOrder.{most_less}
use Rattle.hiding_laws.proofs.Decisions.{same_or, less_or, either_or}
use Rattle.geometry.specs.Counts.{Side, to_left, to_right}
use Rattle.geometry.specs.Shares.{PassesNearer, IsCrossedAt, denominator_of, numerator_of, height_numerator_of}
use Rattle.hiding_laws.specs.Sums.{total}
use Rattle.hiding_laws.proofs.Changed.{IsCrossedBefore}
use Rattle.cross_find.specs.declared.meter.Crossing.{Crossing}
use Rattle.span_count.specs.Carries.{change_before}
use Rattle.span_count.proofs.CarriedCounts.{changed, unchanged}
use Rattle.span_count.proofs.Sums.{of_option, total_of_options}
use Rattle.cut_count_laws.specs.CutEnds.{IsCrossedBeyond}
use Rattle.cut_count_laws.specs.CutShares.{cut_change_of, PassesInCut}
use Rattle.cut_count_laws.proofs.CutLaws.{HasCutChanged, HasEachOutline}
use Rattle.cut_count_laws.proofs.CutLaws.HasCutChanged.{passed, not_passed}
use Rattle.cut_count_laws.proofs.TurnedCuts.{zip_same}
use Rattle.cut_count.specs.Crossings.{IsCutCrossing, IsCutAcross}
use Rattle.cut_count.specs.inner.Walks.{AreListedInCut, IsOutlineAnswer, AreOutlineCrossings}
use Rattle.cut_count.proofs.WalkLaws.{change_to}

pub change_told : (k : Side) (c : Plane) {s : Part} (e o : Edge s) (y : Crossing) → IsCutCrossing c e o y → change_to k y ≡ cut_change_of k c e o
change_told to_left c e o y is = is.left
change_told to_right c e o y is = is.right

pub some_change : (k : Side) (c : Plane) {s : Part} (e o : Edge s) → cut_change_of k c e o ≢ pos 0 → (cut_change_of to_left c e o ≢ pos 0) ⊎ (cut_change_of to_right c e o ≢ pos 0)
some_change to_left c e o f = inl f
some_change to_right c e o f = inr f

module _ (c : Plane) {s : Part} (e o : Edge s) where
  abbrev d : Triple
  d = toward_of c

  abbrev N : ℤ
  N = numerator_of d e o

  abbrev D : ℤ
  D = denominator_of d e o

  beyond_or : (p : Point) → IsBeyond c p ⊎ ¬ IsBeyond c p
  beyond_or p = less_or (pos 2 *ℤ height_of d p) (plane_height c *ℤ p.w)

  -- whether it passes nearer is decided
  pub passes_or : PassesInCut c e o ⊎ ¬ PassesInCut c e o
  passes_or = by (less_or (pos 0) (N *ℤ D)) (less_or (N *ℤ D) (D *ℤ D)) (less_or (pos 0) (height_numerator_of e o *ℤ D)) (beyond_or (share_point e.a e.b (N *ℤ D) (D *ℤ D))) (either_or (IsBeyond c (point_of o.a)) (IsBeyond c (point_of o.b)) (beyond_or (point_of o.a)) (beyond_or (point_of o.b)))
    where
      by : (pos 0 <ℤ (N *ℤ D)) ⊎ ¬ (pos 0 <ℤ (N *ℤ D)) → ((N *ℤ D) <ℤ (D *ℤ D)) ⊎ ¬ ((N *ℤ D) <ℤ (D *ℤ D)) → (pos 0 <ℤ (height_numerator_of e o *ℤ D)) ⊎ ¬ (pos 0 <ℤ (height_numerator_of e o *ℤ D))
          → IsCrossedBeyond c e o ⊎ ¬ IsCrossedBeyond c e o → (IsBeyond c (point_of o.a) ⊎ IsBeyond c (point_of o.b)) ⊎ ¬ (IsBeyond c (point_of o.a) ⊎ IsBeyond c (point_of o.b))
          → PassesInCut c e o ⊎ ¬ PassesInCut c e o
      by (inl x) (inl y) (inl z) (inl b) (inl l) = inl (record { passes = record { after = x; before = y; nearer = z }; beyond = b; left = l })
      by (inr f) y z b l = inr (λ h. f h.passes.after)
      by (inl x) (inr f) z b l = inr (λ h. f h.passes.before)
      by (inl x) (inl y) (inr f) b l = inr (λ h. f h.passes.nearer)
      by (inl x) (inl y) (inl z) (inr f) l = inr (λ h. f h.beyond)
      by (inl x) (inl y) (inl z) (inl b) (inr f) = inr (λ h. f h.left)

  -- ---- the place of a crossing, as it is kept
  module _ (passes : PassesNearer d e o) (at : Frac) (is : IsCrossedAt d e o at) (n m : ℤ) (there : pos 0 <ℤ m) where
    pub square : pos 0 <ℤ (D *ℤ D)
    square = positive_of_more (N *ℤ D) (D *ℤ D) passes.after passes.before

    pub same_place : (N *ℤ D) *ℤ at.den ≡ at.num *ℤ (D *ℤ D)
    same_place =
        ring (N ∷ D ∷ at.den ∷ []) ((var 0 ⊗ var 1) ⊗ var 2) (var 1 ⊗ (var 0 ⊗ var 2)) refl
        ∙ ap (λ z. D *ℤ z) (sym is)
        ∙ ring (at.num ∷ D ∷ []) (var 1 ⊗ (var 0 ⊗ var 1)) (var 0 ⊗ (var 1 ⊗ var 1)) refl

    pub crossed_before : (at.num *ℤ m) <ℤ (n *ℤ at.den) → IsCrossedBefore d e o n m
    crossed_before h = most_less (N *ℤ D) (D *ℤ D) at.num at.den n m square at.positive there (at_most_of_same _ _ same_place) h

    pub before_crossed : IsCrossedBefore d e o n m → (at.num *ℤ m) <ℤ (n *ℤ at.den)
    before_crossed h = most_less at.num at.den (N *ℤ D) (D *ℤ D) n m at.positive square there (at_most_of_same _ _ (sym same_place)) h

  -- ---- what it has changed
  module _ (k : Side) (n m : ℤ) (there : pos 0 <ℤ m) where
    outline_changed : (answer : Option Crossing) → IsCutAcross c e o answer → HasCutChanged k c e o n m (of_option (change_before (change_to k) n m) answer)
    outline_changed None none = by passes_or (less_or ((N *ℤ D) *ℤ m) (n *ℤ (D *ℤ D))) (same_or (cut_change_of k c e o) (pos 0))
      where
        by : PassesInCut c e o ⊎ ¬ PassesInCut c e o → IsCrossedBefore d e o n m ⊎ ¬ IsCrossedBefore d e o n m → (cut_change_of k c e o ≡ pos 0) ⊎ ¬ (cut_change_of k c e o ≡ pos 0) → HasCutChanged k c e o n m (pos 0)
        by (inr f) q z = not_passed (λ h. f h.0)
        by (inl p) (inr f) z = not_passed (λ h. f h.1)
        by (inl p) (inl q) (inl z) = subst (HasCutChanged k c e o n m) z (passed p q)
        by (inl p) (inl q) (inr f) = absurd (none (record { passes = p; some = some_change k c e o f }))
    outline_changed (Some y) is =
        let p = is.changes.passes in
        by_lt_z (y.at.num *ℤ m) (n *ℤ y.at.den)
        (λ h. subst (HasCutChanged k c e o n m) (sym (changed (change_to k) n m y h ∙ change_told k c e o y is)) (passed p (crossed_before p.passes y.at is.at n m there h)))
        (λ h. subst (HasCutChanged k c e o n m) (sym (unchanged (change_to k) n m y h)) (not_passed (λ q. less_not_at_most (y.at.num *ℤ m) (n *ℤ y.at.den) (before_crossed p.passes y.at is.at n m there q.1) h)))

-- ---- all outlines of the list
module _ (k : Side) (c : Plane) {s : Part} (e : Edge s) (halves numbers : List ℕ) (outlines : List Crossing) (by_outlines : AreOutlineCrossings c e halves numbers outlines) where
  pub outlines_changed : (n m : ℤ) → pos 0 <ℤ m → AllZip (λ i x. (o : Edge s) → IsNumbered halves i o → HasCutChanged k c e o n m (of_option (change_before (change_to k) n m) x)) numbers by_outlines.answers
  outlines_changed n m there = zip_same (IsOutlineAnswer c e halves) (λ i x. (o : Edge s) → IsNumbered halves i o → HasCutChanged k c e o n m (of_option (change_before (change_to k) n m) x)) numbers by_outlines.answers
      (λ i x h o at. outline_changed c e o k n m there x (h o at)) by_outlines.each

  -- a sum over the crossings is one over the answers
  pub outlines_total : (change : Crossing → ℤ) → total change outlines ≡ total (of_option change) by_outlines.answers
  outlines_total change = ap (total change) by_outlines.all ∙ total_of_options change by_outlines.answers

pub each_outline : (c : Plane) (s : Part) (halves : List ℕ) → AreEdges s halves → (edge : ℕ) (e : Edge s) → IsNumbered halves edge e → (numbers : List ℕ) → AreListedInCut c s halves edge numbers → (n m : ℤ)
    → HasEachOutline c e n m halves numbers
each_outline c s halves edges edge e at numbers listed n m = record {
  edges = edges;
  within = listed.within;
  once = listed.once;
  whole = λ i o there changes crossed. listed.changing e o i at there changes;
}
