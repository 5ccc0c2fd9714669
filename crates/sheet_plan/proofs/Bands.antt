-- A band is as long as each view in it with its gap, and later bands begin behind earlier ones.
use Rattle.std.proofs.Common.{◌≡◌, ◌⊎◌, inl, inr, ℕ, zero, suc, ◌<◌, List, [], ◌∷◌, length, take, slice_get, Some, refl, subst, arith}
use Rattle.std.specs.Int.Signed.{≤ℤ_refl}
use Rattle.std.specs.Prelude.{ℤ, pos, ◌+ℤ◌, ◌≤ℤ◌}
use Rattle.std.specs.Int.{int_max}
use Rattle.std.proofs.lemmas.Int.{ints, clamps}
use Rattle.std.proofs.lemmas.List.{take_all}
use Rattle.std.proofs.lemmas.Option.{slice_get_within}
use Rattle.std.proofs.Math.Nat.{eq-or-lt_of_le}
use Rattle.integers.proofs.Comparisons.{sum_not_negative}
use Rattle.sheet_plan.specs.declared.cells.Shape.{Shape}
use Rattle.sheet_plan.specs.Layout.{greatest, total, sum_below}

-- ---- the greatest value is at least each value
pub max_first : (a m : ℤ) → a ≤ℤ int_max a m
max_first a m = omega (arith, ints, clamps)

pub max_second : (a m x : ℤ) → x ≤ℤ m → x ≤ℤ int_max a m
max_second a m x h = omega (arith, ints, clamps)

pub greatest_each : (f : Shape → ℤ) (xs : List Shape) (i : ℕ) (x : Shape) → slice_get xs i ≡ Some x → f x ≤ℤ greatest f xs
greatest_each f [] i x at = absurd (omega (arith, slice_get_within [] i x at))
greatest_each f (y ∷ ys) zero x at =
    let same : y ≡ x = cc in
    subst (λ (z : Shape). f z ≤ℤ int_max (f y) (greatest f ys)) same (max_first (f y) (greatest f ys))
greatest_each f (y ∷ ys) (suc i) x at = max_second (f y) (greatest f ys) (f x) (greatest_each f ys i x at)

-- ---- sums of the first values, none of which is negative
longer : (s v m : ℤ) → m ≤ℤ s → pos 0 ≤ℤ v → m ≤ℤ (s +ℤ v)
longer s v m h p = omega (arith, ints)

module _ (f : ℕ → ℤ) (each : (k : ℕ) → pos 0 ≤ℤ f k) where
  pub sum_below_not_negative : (n : ℕ) → pos 0 ≤ℤ sum_below f n
  sum_below_not_negative zero = omega (arith, ints)
  sum_below_not_negative (suc n) = longer (sum_below f n) (f n) (pos 0) (sum_below_not_negative n) (each n)

  pub sum_behind : (m n : ℕ) → m < n → (sum_below f m +ℤ f m) ≤ℤ sum_below f n
  sum_behind m zero h = absurd (omega arith)
  sum_behind m (suc n) h = by_cases (sum_behind m n) (eq-or-lt_of_le (omega arith))
    where
      by_cases : (m < n → (sum_below f m +ℤ f m) ≤ℤ sum_below f n) → ((m ≡ n) ⊎ (m < n)) → (sum_below f m +ℤ f m) ≤ℤ (sum_below f n +ℤ f n)
      by_cases rest (inl e) = subst (λ (k : ℕ). (sum_below f m +ℤ f m) ≤ℤ (sum_below f k +ℤ f k)) e (≤ℤ_refl (sum_below f m +ℤ f m))
      by_cases rest (inr l) = longer (sum_below f n) (f n) (sum_below f m +ℤ f m) (rest l) (each n)

-- ---- totals of views, one after the other
abbrev pub NoneIsNegative : (Shape → ℤ) → List Shape → Type 0
NoneIsNegative f xs = (i : ℕ) (x : Shape) → slice_get xs i ≡ Some x → pos 0 ≤ℤ f x

first_only : (v t : ℤ) → pos 0 ≤ℤ t → (pos 0 +ℤ v) ≤ℤ (v +ℤ t)
first_only v t h = omega (arith, ints)

with_first : (v s x t : ℤ) → (s +ℤ x) ≤ℤ t → ((v +ℤ s) +ℤ x) ≤ℤ (v +ℤ t)
with_first v s x t h = omega (arith, ints)

pub total_not_negative : (f : Shape → ℤ) (xs : List Shape) (n : ℕ) → NoneIsNegative f xs → pos 0 ≤ℤ total f (take n xs)
total_not_negative f [] zero h = omega (arith, ints)
total_not_negative f [] (suc n) h = omega (arith, ints)
total_not_negative f (x ∷ xs) zero h = omega (arith, ints)
total_not_negative f (x ∷ xs) (suc n) h = sum_not_negative (f x) (total f (take n xs)) (h 0 x refl) (total_not_negative f xs n (λ i y at. h (suc i) y at))

pub total_behind : (f : Shape → ℤ) (xs : List Shape) → NoneIsNegative f xs → (i j : ℕ) (x : Shape) → i < j → slice_get xs i ≡ Some x → (total f (take i xs) +ℤ f x) ≤ℤ total f (take j xs)
total_behind f [] h i j x l at = absurd (omega (arith, slice_get_within [] i x at))
total_behind f (y ∷ ys) h i zero x l at = absurd (omega arith)
total_behind f (y ∷ ys) h zero (suc j) x l at =
    let same : y ≡ x = cc in
    subst (λ (z : Shape). (pos 0 +ℤ f z) ≤ℤ (f y +ℤ total f (take j ys))) same (first_only (f y) (total f (take j ys)) (total_not_negative f ys j (λ i z at. h (suc i) z at)))
total_behind f (y ∷ ys) h (suc i) (suc j) x l at =
    with_first (f y) (total f (take i ys)) (f x) (total f (take j ys)) (total_behind f ys (λ k z at. h (suc k) z at) i j x (omega arith) at)

pub total_whole : (f : Shape → ℤ) (xs : List Shape) → NoneIsNegative f xs → (i : ℕ) (x : Shape) → slice_get xs i ≡ Some x → (total f (take i xs) +ℤ f x) ≤ℤ total f xs
total_whole f xs h i x at =
    subst (λ (ys : List Shape). (total f (take i xs) +ℤ f x) ≤ℤ total f ys) (take_all (length xs) xs (omega arith))
    (total_behind f xs h i (length xs) x (slice_get_within xs i x at) at)
