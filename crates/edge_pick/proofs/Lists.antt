-- Lists of numbers: how many different ones there are.
use Rattle.std.proofs.Common.{◌≡◌, ◌≢◌, ℕ, zero, suc, ◌+◌, ◌<◌, ◌≤◌, List, [], ◌∷◌, All, AllPairs, Contains, length, get_or, remove, sym, ap, arith}
use Rattle.std.specs.List.Sorted.{IsStrictlyIncreasing}
use Rattle.std.proofs.lemmas.List.Elements.{All-head, All-tail}
use Rattle.std.proofs.lemmas.List.Sorted.{IsPermutation-remove, Contains-permutation, length_permutation}

-- numbers that rise are at least their places
rising : (xs : List ℕ) → IsStrictlyIncreasing xs → (k : ℕ) → k < length xs → k ≤ get_or xs k 0
rising xs up zero h = omega arith
rising xs up (suc k) h = by (get_or xs k 0) (get_or xs (k + 1) 0) (get_or xs (suc k) 0) (rising xs up k (omega arith)) (up k (omega arith)) (ap (λ i. get_or xs i 0) (next k))
  where
    next : (k : ℕ) → k + 1 ≡ suc k
    next k = omega arith

    by : (a b c : ℕ) → k ≤ a → a < b → b ≡ c → suc k ≤ c
    by a b c p q e = omega arith

pub few_rising : (xs : List ℕ) (n : ℕ) → IsStrictlyIncreasing xs → All (λ x. x < n) xs → length xs ≤ n
few_rising [] n up below = omega arith
few_rising (x ∷ xs) n up below =
    let least = rising (x ∷ xs) up (length xs) (omega arith) in
    let most = below (length xs) 0 (omega arith) in
    omega arith

-- different numbers of a list are at most as many as it has
pub few_of : (xs ys : List ℕ) → AllPairs ◌≢◌ xs → All (Contains ys) xs → length xs ≤ length ys
few_of [] ys apart within = omega arith
few_of (x ∷ xs) ys apart within =
    let (k, there, is) = All-head (Contains ys) x xs within in
    let moved = IsPermutation-remove ys k x there (sym is) in
    let rest = few_of xs (remove ys k) (λ i j d h l. apart (suc i) (suc j) d (omega arith) (omega arith))
    (λ i d h. other (get_or xs i d) (remove ys k) (λ e. apart 0 (suc i) d (omega arith) (omega arith) e) (Contains-permutation ys (x ∷ remove ys k) (get_or xs i d) moved (All-tail (Contains ys) x xs within i d h))) in
    let same = length_permutation ys (x ∷ remove ys k) moved in
    omega arith
  where
    other : (z : ℕ) (zs : List ℕ) → (x ≡ z → ⊥) → Contains (x ∷ zs) z → Contains zs z
    other z zs differ (zero, h, e) = absurd (differ e)
    other z zs differ (suc k, h, e) = (k, omega arith, e)
