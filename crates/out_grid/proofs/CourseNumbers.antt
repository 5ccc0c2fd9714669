-- Products and quotients of numbers from 0, as the lemmas on courses want them.
use Rattle.std.proofs.Common.{◌≡◌, ℕ, ◌+◌, ◌-◌, ◌*◌, ◌/◌, ◌≤◌, ◌<◌, ap, arith}
use Rattle.std.proofs.Math.Nat.{mul-le-mul_left, mul-lt-mul_of_pos_left, le_of_mul-le-mul_left, lt_of_mul-lt-mul_left, div-lt_iff_lt-mul, le-div_iff_mul-le, mul-pos}

pub grown : (k a b : ℕ) → a ≤ b → k * a ≤ k * b
grown k a b h = mul-le-mul_left k h

pub grown_strictly : (k a b : ℕ) → 0 < k → a < b → k * a < k * b
grown_strictly k a b hk h = mul-lt-mul_of_pos_left h hk

pub positive : (a b : ℕ) → 0 < a → 0 < b → 0 < a * b
positive a b h k = mul-pos h k

-- ---- a factor is taken off both sides
pub at_most_of_grown : (k a b : ℕ) → 0 < k → k * a ≤ k * b → a ≤ b
at_most_of_grown k a b hk h = le_of_mul-le-mul_left h hk

pub below_of_grown : (k a b : ℕ) → k * a < k * b → a < b
below_of_grown k a b h = lt_of_mul-lt-mul_left k h

-- ---- quotients
pub quotient_below : (n d q : ℕ) → 0 < d → n < (q + 1) * d → n / d ≤ q
quotient_below n d q h k = let l : n / d < q + 1 = (div-lt_iff_lt-mul h).1 k in omega arith

pub quotient_least : (n d q : ℕ) → 0 < d → q * d ≤ n → q ≤ n / d
quotient_least n d q h k = (le-div_iff_mul-le h).1 k

pub under_quotient : (n d q : ℕ) → 0 < d → q ≤ n / d → q * d ≤ n
under_quotient n d q h k = (le-div_iff_mul-le h).0 k

pub over_quotient : (n d q : ℕ) → 0 < d → n / d < q → n < q * d
over_quotient n d q h k = (div-lt_iff_lt-mul h).0 k

-- ---- greater with greater gives more than greater with less
exchanged : (p q d f t : ℕ) → q ≡ p + d → d * f ≤ d * t → (p * t) + (q * f) ≤ (p * f) + (q * t)
exchanged p q d f t e h = omega (arith, ap (λ (n : ℕ). n * t) e, ap (λ (n : ℕ). n * f) e)

exchanged_strictly : (p q d f t : ℕ) → q ≡ p + d → d * f < d * t → (p * t) + (q * f) < (p * f) + (q * t)
exchanged_strictly p q d f t e h = omega (arith, ap (λ (n : ℕ). n * t) e, ap (λ (n : ℕ). n * f) e)

pub rearranged : (p q f t : ℕ) → p ≤ q → f ≤ t → (p * t) + (q * f) ≤ (p * f) + (q * t)
rearranged p q f t h k = exchanged p q (q - p) f t (omega arith) (grown (q - p) f t k)

pub rearranged_strictly : (p q f t : ℕ) → p < q → f < t → (p * t) + (q * f) < (p * f) + (q * t)
rearranged_strictly p q f t h k = exchanged_strictly p q (q - p) f t (omega arith) (grown_strictly (q - p) f t (omega arith) k)
