-- The greatest value and the sum of values over views, found one view after the other.
use Rattle.std.proofs.Common.{◌≡◌, ℕ, ◌+◌, ◌<◌, ◌≤◌, List, [], ◌∷◌, length, take, drop, ◌++◌, get_or, sym, ap, ◌∙◌, arith, add-one}
use Rattle.std.specs.Prelude.{ℤ, pos, ◌+ℤ◌, ◌≤ℤ◌}
use Rattle.std.specs.Int.{int_max}
use Rattle.std.proofs.lemmas.Int.{ints, clamps}
use Rattle.std.proofs.lemmas.List.{take_more, drop_more, drop_all}
use Rattle.integers.proofs.Comparisons.{zero_plus, plus_zero}
use Rattle.sheet_plan.specs.declared.cells.Shape.{Shape}
use Rattle.sheet_plan.specs.Layout.{greatest, total, sum_below}

-- ---- the greatest value
pub max_assoc : (a b c : ℤ) → int_max (int_max a b) c ≡ int_max a (int_max b c)
max_assoc a b c = omega (arith, ints, clamps)

max_zero : (a : ℤ) → pos 0 ≤ℤ a → int_max a (pos 0) ≡ a
max_zero a h = omega (arith, ints, clamps)

zero_max : (a : ℤ) → pos 0 ≤ℤ a → int_max (pos 0) a ≡ a
zero_max a h = omega (arith, ints, clamps)

above : (a b : ℤ) → pos 0 ≤ℤ b → pos 0 ≤ℤ int_max a b
above a b h = omega (arith, ints, clamps)

pub greatest_least : (f : Shape → ℤ) (xs : List Shape) → pos 0 ≤ℤ greatest f xs
greatest_least f [] = omega (arith, ints)
greatest_least f (x ∷ xs) = above (f x) (greatest f xs) (greatest_least f xs)

module _ (f : Shape → ℤ) (xs : List Shape) where
  pub greatest_first : int_max (pos 0) (greatest f xs) ≡ greatest f xs
  greatest_first = zero_max (greatest f xs) (greatest_least f xs)

  pub greatest_more : (i : ℕ) (d : Shape) (a v m : ℤ) → i < length xs → v ≡ f (get_or xs i d) → m ≡ int_max a v → int_max a (greatest f (drop i xs)) ≡ greatest f xs
      → int_max m (greatest f (drop (i + 1) xs)) ≡ greatest f xs
  greatest_more i d a v m h is step so_far =
      ap (λ (z : ℤ). int_max z (greatest f (drop (i + 1) xs))) step
      ∙ max_assoc a v (greatest f (drop (i + 1) xs))
      ∙ ap (λ (z : ℤ). int_max a (int_max z (greatest f (drop (i + 1) xs)))) is
      ∙ sym (ap (λ (ys : List Shape). int_max a (greatest f ys)) (drop_more xs i d h)) ∙ so_far

  pub greatest_all : (n : ℕ) (a : ℤ) → pos 0 ≤ℤ a → length xs ≤ n → int_max a (greatest f (drop n xs)) ≡ greatest f xs → a ≡ greatest f xs
  greatest_all n a low h all = sym (ap (λ (ys : List Shape). int_max a (greatest f ys)) (drop_all n xs h) ∙ max_zero a low) ∙ all

  -- ---- the sum
  pub total_more : (i : ℕ) (d : Shape) (a v : ℤ) → i < length xs → v ≡ f (get_or xs i d) → a +ℤ total f (drop i xs) ≡ total f xs → (a +ℤ v) +ℤ total f (drop (i + 1) xs) ≡ total f xs
  total_more i d a v h is so_far =
      assoc a v (total f (drop (i + 1) xs))
      ∙ ap (λ (z : ℤ). a +ℤ (z +ℤ total f (drop (i + 1) xs))) is
      ∙ sym (ap (λ (ys : List Shape). a +ℤ total f ys) (drop_more xs i d h)) ∙ so_far
    where
      assoc : (a b c : ℤ) → (a +ℤ b) +ℤ c ≡ a +ℤ (b +ℤ c)
      assoc a b c = omega (arith, ints)

  pub total_all : (n : ℕ) (a : ℤ) → length xs ≤ n → a +ℤ total f (drop n xs) ≡ total f xs → a ≡ total f xs
  total_all n a h all = sym (ap (λ (ys : List Shape). a +ℤ total f ys) (drop_all n xs h) ∙ nothing a) ∙ all
    where
      nothing : (a : ℤ) → a +ℤ pos 0 ≡ a
      nothing a = omega (arith, ints)

-- ---- the sum over the first views
total_append : (f : Shape → ℤ) (xs ys : List Shape) → total f (xs ++ ys) ≡ total f xs +ℤ total f ys
total_append f [] ys = zero_plus (total f ys)
total_append f (x ∷ xs) ys = ap (λ (z : ℤ). f x +ℤ z) (total_append f xs ys) ∙ assoc (f x) (total f xs) (total f ys)
  where
    assoc : (a b c : ℤ) → a +ℤ (b +ℤ c) ≡ (a +ℤ b) +ℤ c
    assoc a b c = omega (arith, ints)

pub total_taken : (f : Shape → ℤ) (xs : List Shape) (i : ℕ) (d : Shape) (a v : ℤ) → i < length xs → v ≡ f (get_or xs i d) → a ≡ total f (take i xs) → a +ℤ v ≡ total f (take (i + 1) xs)
total_taken f xs i d a v h is so_far =
    ap (λ (z : ℤ). a +ℤ z) (is ∙ plus_zero (f (get_or xs i d)))
    ∙ ap (λ (z : ℤ). z +ℤ total f (get_or xs i d ∷ [])) so_far
    ∙ sym (ap (total f) (take_more xs i d h) ∙ total_append f (take i xs) (get_or xs i d ∷ []))

-- ---- the sum of the first values
pub sum_more : (f : ℕ → ℤ) (i : ℕ) (a v : ℤ) → a ≡ sum_below f i → v ≡ f i → a +ℤ v ≡ sum_below f (i + 1)
sum_more f i a v so_far is = rw add-one (λ k. so_far k +ℤ is k)
