-- Fractions of one value are near together, and what is near both in U and in V is near in U - V.
use Rattle.std.proofs.Common.{◌≡◌, ℕ, ◌*◌, ◌≤◌, ◌^◌, [], ◌∷◌, refl, sym, ap, subst, ◌∙◌, arith, unsigned_abs, le_of_mul-le-mul_right, mul-le-mul_right, mul_comm, mul_assoc}
use Rattle.std.specs.Prelude.{ℤ, pos, ◌-ℤ◌, ◌*ℤ◌, ◌<ℤ◌}
use Rattle.std.proofs.lemmas.Int.{ints, unsigned_abs-mul}
use Rattle.integers.proofs.Absolutes.{some_abs_of_positive}
use Rattle.integers.proofs.Ring.{var, con, ◌⊖◌, ◌⊗◌, ring, by_one}
use Rattle.hatch_fill.specs.inner.Places.{IsNear, HasSpot}

-- a fraction near is so in other terms too
pub near_same : (n m k l : ℤ) → pos 0 <ℤ m → n *ℤ l ≡ k *ℤ m → IsNear n m → IsNear k l
near_same n m k l h e near = le_of_mul-le-mul_right (by (mul-le-mul_right (unsigned_abs l) near)) (some_abs_of_positive m h)
  where
    sizes : unsigned_abs k * unsigned_abs m ≡ unsigned_abs n * unsigned_abs l
    sizes = sym (unsigned_abs-mul k m) ∙ ap unsigned_abs (sym e) ∙ unsigned_abs-mul n l

    turned : (a b c : ℕ) → (a * b) * c ≡ (a * c) * b
    turned a b c = mul_assoc a b c ∙ ap (λ (x : ℕ). a * x) (mul_comm b c) ∙ sym (mul_assoc a c b)

    by : unsigned_abs n * unsigned_abs l ≤ (2 ^ 21 * unsigned_abs m) * unsigned_abs l → unsigned_abs k * unsigned_abs m ≤ (2 ^ 21 * unsigned_abs l) * unsigned_abs m
    by g = subst (λ (x : ℕ). x ≤ (2 ^ 21 * unsigned_abs l) * unsigned_abs m) (sym sizes) (subst (λ (x : ℕ). unsigned_abs n * unsigned_abs l ≤ x) (turned (2 ^ 21) (unsigned_abs m) (unsigned_abs l)) g)

-- V of the same fraction
pub upward_same : (d n m k l : ℤ) → n *ℤ l ≡ k *ℤ m → (n -ℤ (d *ℤ m)) *ℤ l ≡ (k -ℤ (d *ℤ l)) *ℤ m
upward_same d n m k l e =
    by_one _ _ (n *ℤ l) (k *ℤ m) (pos 1)
    (ring (d ∷ n ∷ m ∷ k ∷ l ∷ []) (((var 1 ⊖ (var 0 ⊗ var 2)) ⊗ var 4) ⊖ ((var 3 ⊖ (var 0 ⊗ var 4)) ⊗ var 2)) (((var 1 ⊗ var 4) ⊖ (var 3 ⊗ var 2)) ⊗ con (pos 1)) refl) e

-- U - V of a place that a spot can have
pub diagonal_near : (d n m : ℤ) → pos 0 <ℤ m → HasSpot d n m → unsigned_abs d ≤ 2 ^ 22
diagonal_near d n m h spot = le_of_mul-le-mul_right (subst (λ (x : ℕ). x ≤ 2 ^ 22 * unsigned_abs m) (unsigned_abs-mul d m) (size n (d *ℤ m) m spot.across spot.upward)) (some_abs_of_positive m h)
  where
    size : (n k m : ℤ) → unsigned_abs n ≤ 2 ^ 21 * unsigned_abs m → unsigned_abs (n -ℤ k) ≤ 2 ^ 21 * unsigned_abs m → unsigned_abs k ≤ 2 ^ 22 * unsigned_abs m
    size n k m f g = omega (arith, ints, f, g)
