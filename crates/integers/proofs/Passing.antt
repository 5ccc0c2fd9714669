-- The numbers below n that pass a test, in order, as a filter of 0, 1, ..
use Rattle.std.proofs.Common.{◌≡◌, ℕ, zero, suc, ◌+◌, ◌<◌, ◌≤◌, Bool, true, false, cond, List, [], ◌∷◌, ◌++◌, length, filter, Contains, All, ◌↔◌, get_or, refl, sym, subst, ap, ◌∙◌, arith}
use Rattle.std.specs.List.{range_with_len}
use Rattle.std.specs.List.Sorted.{IsStrictlyIncreasing}
use Rattle.std.proofs.lemmas.List.{map-id}
use Rattle.std.proofs.lemmas.List.Elements.{All-contains, All-filter, filter_passes, Contains-get_or, Contains-append_right}
use Rattle.std.proofs.lemmas.List.FromFn.{length-range_with_len, get_or-range_with_len, filter_of_map_range_with_len_more}
use Rattle.std.proofs.lemmas.List.Kept.{IsStrictlyIncreasing-filter}
use Rattle.std.proofs.lemmas.List.Sums.{length-filter, count_by-le-length}

-- a filter keeps what passes
pub Contains-filter : {X : Type 0} (p : X → Bool) (xs : List X) (x : X) → Contains xs x → p x ≡ true → Contains (filter p xs) x
Contains-filter p [] x h t = absurd (omega (arith, h.1))
Contains-filter p (y ∷ ys) x (zero, within, is) t =
    let e : p y ≡ true = ap p is ∙ t in
    subst (λ b. Contains (cond b (y ∷ filter p ys) (filter p ys)) x) (sym e)
    (subst (Contains (y ∷ filter p ys)) is (Contains-get_or (y ∷ filter p ys) 0 y (omega arith)))
Contains-filter {X} p (y ∷ ys) x (suc k, within, is) t =
    let rest : Contains (filter p ys) x = Contains-filter p ys x (k, omega arith, is) t in
    by (p y) refl rest
  where
    by : (b : Bool) → p y ≡ b → Contains (filter p ys) x → Contains (filter p (y ∷ ys)) x
    by true e rest = subst (λ b. Contains (cond b (y ∷ filter p ys) (filter p ys)) x) (sym e) (Contains-append_right (y ∷ []) (filter p ys) x rest)
    by false e rest = subst (λ b. Contains (cond b (y ∷ filter p ys) (filter p ys)) x) (sym e) rest

-- 0, 1, .. has k at place k
place : (n k d : ℕ) → k < n → get_or (range_with_len 0 n) k d ≡ k
place n k d h = let e = get_or-range_with_len 0 n k d h in omega (arith, e)

module _ (p : ℕ → Bool) where
  pub increasing : (n : ℕ) → IsStrictlyIncreasing (filter p (range_with_len 0 n))
  increasing n = IsStrictlyIncreasing-filter p (range_with_len 0 n) (λ k h.
      let long : length (range_with_len 0 n) ≡ n = length-range_with_len 0 n in
      let here : get_or (range_with_len 0 n) k 0 ≡ k = place n k 0 (omega arith) in
      let next : get_or (range_with_len 0 n) (k + 1) 0 ≡ k + 1 = place n (k + 1) 0 (omega arith) in
      omega arith)

  pub below : (n : ℕ) → All (λ x. x < n) (filter p (range_with_len 0 n))
  below n = All-filter p (λ x. x < n) (range_with_len 0 n) (λ k d h.
      let long : length (range_with_len 0 n) ≡ n = length-range_with_len 0 n in
      let here : get_or (range_with_len 0 n) k d ≡ k = place n k d (omega arith) in
      omega arith)

  pub contains_exactly : (n x : ℕ) → Contains (filter p (range_with_len 0 n)) x ↔ ((x < n) × (p x ≡ true))
  contains_exactly n x = (
    (λ h. (All-contains (λ x. x < n) (filter p (range_with_len 0 n)) x (below n) h, All-contains (λ x. p x ≡ true) (filter p (range_with_len 0 n)) x (filter_passes p (range_with_len 0 n)) h)),
    (λ (h, t).
        let long : length (range_with_len 0 n) ≡ n = length-range_with_len 0 n in
        Contains-filter p (range_with_len 0 n) x (x, omega arith, place n x x h) t),
  )

  -- at most n pass
  pub few : (n : ℕ) → length (filter p (range_with_len 0 n)) ≤ n
  few n = omega (arith, length-filter p (range_with_len 0 n), count_by-le-length p (range_with_len 0 n), length-range_with_len 0 n)

  -- one number more
  pub more : (n : ℕ) → filter p (range_with_len 0 (n + 1)) ≡ filter p (range_with_len 0 n) ++ cond (p n) (n ∷ []) []
  more n =
      ap (filter p) (sym (map-id (range_with_len 0 (n + 1)))) ∙ filter_of_map_range_with_len_more p (λ x. x) 0 n n (omega arith)
      ∙ ap (λ xs. filter p xs ++ cond (p n) (n ∷ []) []) (map-id (range_with_len 0 n))
