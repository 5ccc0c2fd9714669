-- Steps over all drawn edges cost at most the bound.
use Rattle.std.proofs.Common.{◌≡◌, ℕ, zero, suc, ◌+◌, ◌*◌, ◌<◌, ◌≤◌, List, [], ◌∷◌, Contains, length, get_or, take, map, refl, sym, subst, ap, ◌∙◌, arith}
use Rattle.std.specs.Prelude.{Option, Some, None, slice_get, sum, sum_by, IsPermutation}
use Rattle.std.specs.List.{range_with_len}
use Rattle.std.proofs.Math.Nat.{mul-le-mul_right}
use Rattle.std.proofs.lemmas.List.{length-map}
use Rattle.std.proofs.lemmas.List.FromFn.{length-range_with_len}
use Rattle.std.proofs.lemmas.List.Sorted.{length_permutation, Contains-permutation, IsPermutation-sym, sum_by-IsPermutation}
use Rattle.std.proofs.lemmas.List.Sums.{sum_by-cons, sum_by_more, sum_by-take-le}
use Rattle.std.proofs.lemmas.Option.{same_Some, slice_get_within, get_or_from_slice_get}
use Rattle.cross_find.specs.Sights.{SightState}
use Rattle.edge_pick.specs.declared.Picked.{Picked}
use Rattle.span_count.specs.Bounds.{IsEndCount, IsBound}
use Rattle.span_count.specs.Orders.{start_of, starts_of, AreSteps}
use Rattle.span_count.specs.inner.Tours.{cost_of}
use Rattle.edge_pick.specs.declared.order.DrawnEnd.{DrawnEnd}
use Rattle.edge_pick.specs.declared.order.Step.{Step}
use Rattle.span_count.proofs.Lists.{zip_long}

-- ---- the numbers from k on
numbers_within : (k n z : ℕ) → Contains (range_with_len k n) z → z < k + n
numbers_within k zero z (j, within, is) = absurd (omega arith)
numbers_within k (suc n) z (zero, within, is) = omega (arith, is)
numbers_within k (suc n) z (suc j, within, is) = let h = numbers_within (k + 1) n z (j, omega arith, is) in omega arith

numbers_there : (k n i : ℕ) → i < n → Contains (range_with_len k n) (k + i)
numbers_there k zero i h = absurd (omega arith)
numbers_there k (suc n) zero h = (0, omega arith, first k)
  where
    first : (k : ℕ) → k ≡ k + 0
    first k = omega arith
numbers_there k (suc n) (suc i) h =
    let (j, within, is) = numbers_there (k + 1) n i (omega arith) in
    (suc j, omega arith, subst (λ (z : ℕ). get_or (range_with_len (k + 1) n) j z ≡ z) (next k i) is)
  where
    next : (k i : ℕ) → (k + 1) + i ≡ k + suc i
    next k i = omega arith

numbers_summed : (f : ℕ → ℕ) (rest : List ℕ) (k : ℕ) → ((i : ℕ) → i < length rest → f (k + i) ≡ get_or rest i 0) → sum_by f (range_with_len k (length rest)) ≡ sum rest
numbers_summed f [] k h = refl
numbers_summed f (x ∷ xs) k h =
    both (f k) x (sum_by f (range_with_len (k + 1) (length xs))) (sum xs) (sum_by f (range_with_len k (suc (length xs)))) (sum (x ∷ xs))
    (sum_by-cons f k (range_with_len (k + 1) (length xs))) (sum_by-cons (λ (n : ℕ). n) x xs)
    (ap f (first k) ∙ h 0 (omega arith)) (numbers_summed f xs (k + 1) (λ i l. ap f (next k i) ∙ h (suc i) (omega arith)))
  where
    first : (k : ℕ) → k ≡ k + 0
    first k = omega arith

    next : (k i : ℕ) → (k + 1) + i ≡ k + suc i
    next k i = omega arith

    both : (a b s t all other : ℕ) → all ≡ a + s → other ≡ b + t → a ≡ b → s ≡ t → all ≡ other
    both a b s t all other p q e g = omega arith

-- ---- the places that steps go to
abbrev pub place_of : Step → ℕ
place_of step = step.to.place

step_at : (steps : List Step) (z : ℕ) → Contains (map place_of steps) z → (k : ℕ) × (step : Step) × (slice_get steps k ≡ Some step) × (step.to.place ≡ z)
step_at [] z (k, within, is) = absurd (omega arith)
step_at (s ∷ ss) z (zero, within, is) = (0, s, refl, is)
step_at (s ∷ ss) z (suc k, within, is) = let (j, step, at, same) = step_at ss z (k, omega arith, is) in (suc j, step, at, same)

place_there : (steps : List Step) (k : ℕ) (step : Step) → slice_get steps k ≡ Some step → Contains (map place_of steps) step.to.place
place_there [] k step e = absurd (cc)
place_there (s ∷ ss) zero step e = (0, omega arith, ap place_of (same_Some s step e))
place_there (s ∷ ss) (suc k) step e = let (j, within, is) = place_there ss k step e in (suc j, omega arith, is)

module _ (x : SightState) (p : Picked) (steps : List Step) (are : AreSteps x p steps) where
  steps_long : length steps ≡ length p.drawn.items
  steps_long = sym (length-map steps place_of) ∙ sym (length_permutation (map place_of steps) (range_with_len 0 (length p.drawn.items)) are.each) ∙ length-range_with_len 0 (length p.drawn.items)

  pub place_within : (k : ℕ) (step : Step) → slice_get steps k ≡ Some step → step.to.place < length p.drawn.items
  place_within k step at =
      let within = numbers_within 0 (length p.drawn.items) step.to.place
      (Contains-permutation (map place_of steps) (range_with_len 0 (length p.drawn.items)) step.to.place are.each (place_there steps k step at)) in
      omega arith

  pub each_gone_to : (place : ℕ) → place < length p.drawn.items → (k : ℕ) × (step : Step) × (slice_get steps k ≡ Some step) × (step.to.place ≡ place)
  each_gone_to place within = step_at steps place
      (Contains-permutation (range_with_len 0 (length p.drawn.items)) (map place_of steps) place (IsPermutation-sym (map place_of steps) (range_with_len 0 (length p.drawn.items)) are.each)
      (subst (Contains (range_with_len 0 (length p.drawn.items))) (zeroth place) (numbers_there 0 (length p.drawn.items) place within)))
    where
      zeroth : (n : ℕ) → 0 + n ≡ n
      zeroth n = omega arith

-- ---- costs
module _ (triangles outlines : ℕ) (ends : List ℕ) where
  -- what a step may cost, by the triangles at the ends of each drawn edge
  abbrev pub step_cost : Step → ℕ
  step_cost step = cost_of triangles outlines (get_or ends step.to.place 0) step.from

  abbrev pub cost_so_far : List Step → ℕ → ℕ
  cost_so_far steps k = sum_by step_cost (take k steps)

  ends_at : Step → ℕ
  ends_at step = get_or ends step.to.place 0

  pub cost_more : (steps : List Step) (k : ℕ) (step : Step) → slice_get steps k ≡ Some step → cost_so_far steps (k + 1) ≡ cost_so_far steps k + step_cost step
  cost_more steps k step at =
      sum_by_more step_cost steps k step (slice_get_within steps k step at) ∙ ap (λ (s : Step). cost_so_far steps k + step_cost s) (get_or_from_slice_get steps k step step at)

  one_cost : (from : Option DrawnEnd) (n : ℕ) → cost_of triangles outlines n from ≤ start_of from * triangles + (2 * outlines + n)
  one_cost None n = omega arith
  one_cost (Some from) n = omega arith

  costs : (steps : List Step) → sum_by step_cost steps ≤ starts_of steps * triangles + (length steps * (2 * outlines) + sum_by ends_at steps)
  unfolding ends_at
  costs [] = omega arith
  costs (s ∷ ss) =
      more (step_cost s) (sum_by step_cost ss) (sum_by step_cost (s ∷ ss)) (start_of s.from) (starts_of ss) triangles outlines (length ss) (ends_at s) (sum_by ends_at ss) (sum_by ends_at (s ∷ ss))
      (sum_by-cons step_cost s ss) (sum_by-cons ends_at s ss) (one_cost s.from (ends_at s)) (costs ss)
    where
      more : (c r all a b t o l e s es : ℕ) → all ≡ c + r → es ≡ e + s → c ≤ a * t + (2 * o + e) → r ≤ b * t + (l * (2 * o) + s) → all ≤ (a + b) * t + (suc l * (2 * o) + es)
      more c r all a b t o l e s es p q g h = omega arith

  ends_summed : (steps : List Step) → IsPermutation (map place_of steps) (range_with_len 0 (length ends)) → sum_by ends_at steps ≡ sum ends
  unfolding ends_at
  ends_summed steps each = by_places steps ∙ sym (sum_by-IsPermutation (λ (i : ℕ). get_or ends i 0) (map place_of steps) (range_with_len 0 (length ends)) each)
      ∙ numbers_summed (λ (i : ℕ). get_or ends i 0) ends 0 (λ i l. ap (λ (j : ℕ). get_or ends j 0) (zeroth i))
    where
      zeroth : (n : ℕ) → 0 + n ≡ n
      zeroth n = omega arith

      by_places : (ss : List Step) → sum_by ends_at ss ≡ sum_by (λ (i : ℕ). get_or ends i 0) (map place_of ss)
      by_places [] = refl
      by_places (s ∷ ss) =
          same (ends_at s) (sum_by ends_at ss) (sum_by ends_at (s ∷ ss)) (sum_by (λ (i : ℕ). get_or ends i 0) (map place_of ss)) (sum_by (λ (i : ℕ). get_or ends i 0) (map place_of (s ∷ ss)))
          (sum_by-cons ends_at s ss) (sum_by-cons (λ (i : ℕ). get_or ends i 0) s.to.place (map place_of ss)) (by_places ss)
        where
          same : (e a all b other : ℕ) → all ≡ e + a → other ≡ e + b → a ≡ b → all ≡ other
          same e a all b other p q g = omega arith

  pub all_costs : (x : SightState) (p : Picked) (steps : List Step) → AreSteps x p steps → length ends ≡ length p.drawn.items
      → sum_by step_cost steps ≤ starts_of steps * triangles + (length p.drawn.items * (2 * outlines) + sum ends)
  all_costs x p steps are long =
      subst (λ (n : ℕ). sum_by step_cost steps ≤ starts_of steps * triangles + (n * (2 * outlines) + sum ends)) (steps_long x p steps are)
      (subst (λ (n : ℕ). sum_by step_cost steps ≤ starts_of steps * triangles + (length steps * (2 * outlines) + n))
      (ends_summed steps (subst (λ (n : ℕ). IsPermutation (map place_of steps) (range_with_len 0 n)) (sym long) are.each)) (costs steps))

-- the steps so far, and all, are within the bound
module _ (x : SightState) (p : Picked) (steps : List Step) (are : AreSteps x p steps) (bound : ℕ) (b : IsBound x.part x.halves p bound) where
  abbrev pub costs_to : ℕ → ℕ
  costs_to k = cost_so_far (length x.part.triangles) (length p.outlines.items) b.ends steps k

  pub within_bound : (k : ℕ) → costs_to k ≤ bound
  within_bound k =
      within (costs_to k) (sum_by (step_cost (length x.part.triangles) (length p.outlines.items) b.ends) steps) (starts_of steps) b.runs (length x.part.triangles) (length p.drawn.items) (length p.outlines.items) (sum b.ends) bound
      (sum_by-take-le (step_cost (length x.part.triangles) (length p.outlines.items) b.ends) steps k)
      (all_costs (length x.part.triangles) (length p.outlines.items) b.ends x p steps are (zip_long (IsEndCount x.part x.halves) p.drawn.items b.ends b.are_ends))
      (are.starts b.runs b.are_runs) b.bound_is
    where
      within : (n all a r t d o e bound : ℕ) → n ≤ all → all ≤ a * t + (d * (2 * o) + e) → a ≤ r → bound ≡ r * t + 3 * d * o + e → n ≤ bound
      within n all a r t d o e bound p q h is = omega (arith, mul-le-mul_right t h)
