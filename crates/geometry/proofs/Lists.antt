-- Lists with some elements for each of a list: how long they are, what they contain, and what holds of each.
use Rattle.std.proofs.Common.{◌≡◌, ℕ, zero, suc, ◌+◌, ◌-◌, ◌*◌, ◌/◌, ◌≤◌, List, [], ◌∷◌, ◌++◌, All, Contains, Some, length, flat_map, slice_get, refl, sym, subst, ap, ◌∙◌, arith}
use Rattle.std.proofs.lemmas.List.{length-append}
use Rattle.std.proofs.lemmas.List.Elements.{All-append, All-nil, Contains-append_left, Contains-append_right}
use Rattle.std.proofs.lemmas.Option.{slice_get_within, get_or_from_slice_get}
use Rattle.geometry.specs.Exceptions.{pairs_of}

pub Contains-first : {X : Type 0} (x : X) (xs : List X) → Contains (x ∷ xs) x
Contains-first x xs = (0, omega arith, refl)

pub Contains-listed : {X : Type 0} (xs : List X) (i : ℕ) (x : X) → slice_get xs i ≡ Some x → Contains xs x
Contains-listed xs i x at = (i, slice_get_within xs i x at, get_or_from_slice_get xs i x x at)

module _ {X A : Type 0} (f : X → List A) where
  pub Contains-flat_map : (xs : List X) (x : X) (y : A) → Contains xs x → Contains (f x) y → Contains (flat_map f xs) y
  Contains-flat_map [] x y (k, h, is) there = absurd (omega arith)
  Contains-flat_map (z ∷ xs) x y (zero, h, is) there = Contains-append_left (f z) (flat_map f xs) y (subst (λ v. Contains (f v) y) (sym is) there)
  Contains-flat_map (z ∷ xs) x y (suc k, h, is) there = Contains-append_right (f z) (flat_map f xs) y (Contains-flat_map xs x y (k, omega arith, is) there)

  pub All-flat_map : (P : A → Type 0) → ((x : X) → All P (f x)) → (xs : List X) → All P (flat_map f xs)
  All-flat_map P each [] = All-nil P
  All-flat_map P each (x ∷ xs) = All-append P (f x) (flat_map f xs) (each x) (All-flat_map P each xs)

  -- at most k for each
  pub length-flat_map-few : (k : ℕ) → ((x : X) → length (f x) ≤ k) → (xs : List X) → length (flat_map f xs) ≤ k * length xs
  length-flat_map-few k each [] = omega arith
  length-flat_map-few k each (x ∷ xs) = sum (length xs) _ _ _ (length-append (f x) (flat_map f xs)) (each x) (length-flat_map-few k each xs)
    where
      sum : (n l a b : ℕ) → l ≡ a + b → a ≤ k → b ≤ k * n → l ≤ k * suc n
      sum n l a b e h g = omega arith

-- one thing more is in a pair with each of the others
pub pairs-suc : (n : ℕ) → pairs_of (suc n) ≡ n + pairs_of n
pairs-suc zero = refl
pairs-suc (suc m) = halves (suc (suc m) * (suc (suc m) - 1)) (suc m * (suc m - 1)) (suc m) (more m)
  where
    one_less : (n : ℕ) → suc n - 1 ≡ n
    one_less n = omega arith

    product : (m : ℕ) → suc (suc m) * suc m ≡ suc m * m + 2 * suc m
    product m = omega arith

    more : (m : ℕ) → suc (suc m) * (suc (suc m) - 1) ≡ suc m * (suc m - 1) + 2 * suc m
    more m = ap (λ n. suc (suc m) * n) (one_less (suc m)) ∙ product m ∙ ap (λ n. suc m * n + 2 * suc m) (sym (one_less m))

    halves : (p q k : ℕ) → p ≡ q + 2 * k → p / 2 ≡ k + q / 2
    halves p q k e = omega arith

-- ---- counts
pub at_most_one_each : (l n : ℕ) → l ≤ 1 * n → l ≤ n
at_most_one_each l n h = omega arith

pub length-joined : {X : Type 0} (xs ys : List X) (m n : ℕ) → length xs ≤ m → length ys ≤ n → length (xs ++ ys) ≤ m + n
length-joined xs ys m n h g = omega (arith, length-append xs ys)
