-- The edges of each part can be listed.
use Rattle.std.proofs.Common.{◌≡◌, ◌⊎◌, inl, inr, ℕ, zero, suc, ◌*◌, ◌/◌, ◌%◌, ◌<◌, ◌≤◌, Bool, true, false, List, Contains, Option, Some, None, filter, length, slice_get, refl, sym, subst, ap, ◌∙◌, arith}
use Rattle.std.specs.List.{range_with_len}
use Rattle.std.proofs.lemmas.Bool.{cases_eq, cases_lt}
use Rattle.std.proofs.lemmas.Option.{none-some, same_Some, slice_get_within}
use Rattle.integers.proofs.Passing.{increasing, contains_exactly}
use Rattle.lattice.specs.declared.soup.Tri.{Tri}
use Rattle.geometry.specs.Parts.{Part, IsHalf, IsTwin, AreEdges, start_of, end_of}

-- ---- decisions
module _ (P : ℕ → Type 0) (decide : (k : ℕ) → P k ⊎ ¬ P k) where
  abbrev SomeBelow : ℕ → Type 0
  SomeBelow n = (k : ℕ) × (k < n) × P k

  some_below : (n : ℕ) → SomeBelow n ⊎ ¬ SomeBelow n
  some_below zero = inr (λ (k, within, is). absurd (omega arith))
  some_below (suc n) = by (decide n) (some_below n)
    where
      by : P n ⊎ ¬ P n → SomeBelow n ⊎ ¬ SomeBelow n → SomeBelow (suc n) ⊎ ¬ SomeBelow (suc n)
      by (inl here) below = inl (n, omega arith, here)
      by (inr not_here) (inl (k, within, is)) = inl (k, omega arith, is)
      by (inr not_here) (inr none) = inr (λ (k, within, is). at k within is (cases_eq k n))
        where
          at : (k : ℕ) → k < suc n → P k → (k ≡ n) ⊎ ¬ (k ≡ n) → ⊥
          at k within is (inl same) = not_here (subst P same is)
          at k within is (inr other) = none (k, omega arith, is)

abbrev passes : {P : Type 0} → P ⊎ ¬ P → Bool
passes (inl here) = true
passes (inr none) = false

holds_of_passes : {P : Type 0} (d : P ⊎ ¬ P) → passes d ≡ true → P
holds_of_passes (inl here) t = here
holds_of_passes (inr none) t = cc

passes_of_holds : {P : Type 0} (d : P ⊎ ¬ P) → P → passes d ≡ true
passes_of_holds (inl here) h = refl
passes_of_holds (inr none) h = absurd (none h)

-- ---- twins
module _ (s : Part) where
  tri_is : (half : ℕ) (t : Tri) {m n : ℕ} → slice_get s.triangles (half / 3) ≡ Some t → (h : IsHalf s half m n) → h.tri ≡ t
  tri_is half t at h = same_Some h.tri t (sym h.at ∙ at)

  twin_or_not : (half other : ℕ) → IsTwin s half other ⊎ ¬ IsTwin s half other
  twin_or_not half other = by (slice_get s.triangles (half / 3)) (slice_get s.triangles (other / 3)) refl refl
    where
      by : (t u : Option Tri) → slice_get s.triangles (half / 3) ≡ t → slice_get s.triangles (other / 3) ≡ u → IsTwin s half other ⊎ ¬ IsTwin s half other
      by None u at at_other = inr (λ w. none-some w.goes.tri (sym at ∙ w.goes.at))
      by (Some t) None at at_other = inr (λ w. none-some w.returns.tri (sym at_other ∙ w.returns.at))
      by (Some t) (Some u) at at_other = ends (cases_eq (start_of t (half % 3)) (end_of u (other % 3))) (cases_eq (end_of t (half % 3)) (start_of u (other % 3)))
        where
          starts : (w : IsTwin s half other) → start_of t (half % 3) ≡ end_of u (other % 3)
          starts w =
              ap (λ (v : Tri). start_of v (half % 3)) (sym (tri_is half t at w.goes)) ∙ w.goes.start
              ∙ sym (ap (λ (v : Tri). end_of v (other % 3)) (sym (tri_is other u at_other w.returns)) ∙ w.returns.end)

          ended : (w : IsTwin s half other) → end_of t (half % 3) ≡ start_of u (other % 3)
          ended w =
              ap (λ (v : Tri). end_of v (half % 3)) (sym (tri_is half t at w.goes)) ∙ w.goes.end
              ∙ sym (ap (λ (v : Tri). start_of v (other % 3)) (sym (tri_is other u at_other w.returns)) ∙ w.returns.start)

          ends : (start_of t (half % 3) ≡ end_of u (other % 3)) ⊎ (start_of t (half % 3) ≡ end_of u (other % 3) → ⊥)
              → (end_of t (half % 3) ≡ start_of u (other % 3)) ⊎ (end_of t (half % 3) ≡ start_of u (other % 3) → ⊥) → IsTwin s half other ⊎ ¬ IsTwin s half other
          ends (inl p) (inl q) = inl (record {
            m = start_of t (half % 3);
            n = end_of t (half % 3);
            goes = record { tri = t; at = at; start = refl; end = refl };
            returns = record { tri = u; at = at_other; start = sym q; end = sym p };
          })
          ends (inl p) (inr differ) = inr (λ w. differ (ended w))
          ends (inr differ) q = inr (λ w. differ (starts w))

  -- the halves have numbers below this
  abbrev most : ℕ
  most = 3 * length s.triangles

  half_below : (half m n : ℕ) → IsHalf s half m n → half < most
  half_below half m n h = below half (length s.triangles) (slice_get_within s.triangles (half / 3) h.tri h.at)
    where
      below : (k n : ℕ) → k / 3 < n → k < 3 * n
      below k n h = omega arith

  -- ---- the lower halves of twins
  abbrev IsHigherTwin : ℕ → ℕ → Type 0
  IsHigherTwin half other = IsTwin s half other × (half < other)

  higher_or_not : (half other : ℕ) → IsHigherTwin half other ⊎ ¬ IsHigherTwin half other
  higher_or_not half other = by (twin_or_not half other) (cases_lt half other)
    where
      by : IsTwin s half other ⊎ ¬ IsTwin s half other → (half < other) ⊎ (other ≤ half) → IsHigherTwin half other ⊎ ¬ IsHigherTwin half other
      by (inl twin) (inl less) = inl (twin, less)
      by (inl twin) (inr more) = inr (λ h. let less = h.1 in omega arith)
      by (inr none) order = inr (λ h. none h.0)

  lowest_or_not : (half : ℕ) → SomeBelow (IsHigherTwin half) (higher_or_not half) most ⊎ ¬ SomeBelow (IsHigherTwin half) (higher_or_not half) most
  lowest_or_not half = some_below (IsHigherTwin half) (higher_or_not half) most

  abbrev test : ℕ → Bool
  test half = passes (lowest_or_not half)

  pub edges_listed : (halves : List ℕ) × AreEdges s halves
  edges_listed = (filter test (range_with_len 0 most), record { ascending = increasing test most; exactly = λ half. (there half, back half) })
    where
      there : (half : ℕ) → Contains (filter test (range_with_len 0 most)) half → (other : ℕ) × IsTwin s half other × (half < other)
      there half h = let (other, within, (twin, less)) = holds_of_passes (lowest_or_not half) ((contains_exactly test most half).0 h).1 in (other, twin, less)

      back : (half : ℕ) → (other : ℕ) × IsTwin s half other × (half < other) → Contains (filter test (range_with_len 0 most)) half
      back half (other, twin, less) =
          (contains_exactly test most half).1
          (half_below half twin.m twin.n twin.goes, passes_of_holds (lowest_or_not half) (other, half_below other twin.n twin.m twin.returns, (twin, less)))
