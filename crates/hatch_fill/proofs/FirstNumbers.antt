-- The first hatch line from a U - V on, by a floor.
use Rattle.std.proofs.Common.{◌≡◌, ℕ, ◌*◌, ◌≤◌, ◌^◌, [], ◌∷◌, refl, sym, subst, ◌∙◌, arith, unsigned_abs}
use Rattle.std.specs.Prelude.{ℤ, pos, ◌+ℤ◌, ◌-ℤ◌, ◌*ℤ◌, ◌<ℤ◌, ◌≤ℤ◌}
use Rattle.std.proofs.lemmas.Int.{ints, by_lt_z}
use Rattle.integers.specs.Floors.{IsFloor}
use Rattle.integers.proofs.Ring.{var, con, ◌⊖◌, ◌⊗◌, ring}
use Rattle.integers.proofs.Signs.{mul_nonneg, mul_pos}
use Rattle.hatch_fill.specs.inner.Numbers.{IsFirstNumber}

-- a multiple of a positive number, by the factor
most : (a b k : ℤ) → pos 0 <ℤ k → a ≤ℤ b → (a *ℤ k) ≤ℤ (b *ℤ k)
most a b k h l = ordered (subst (λ (z : ℤ). pos 0 ≤ℤ z) (ring (a ∷ b ∷ k ∷ []) ((var 1 ⊖ var 0) ⊗ var 2) ((var 1 ⊗ var 2) ⊖ (var 0 ⊗ var 2)) refl) (mul_nonneg (b -ℤ a) k (omega (arith, ints)) (omega (arith, ints))))
  where
    ordered : pos 0 ≤ℤ ((b *ℤ k) -ℤ (a *ℤ k)) → (a *ℤ k) ≤ℤ (b *ℤ k)
    ordered g = omega (arith, ints)

-- what is q or more, where q is a floor of the opposite
module _ (q n m k : ℤ) (spacing : ℕ) (is : k ≡ m *ℤ pos spacing) (h : pos 0 <ℤ k) (floor : IsFloor q (pos 0 -ℤ n) k) (number : ℤ) where
  place : number *ℤ k ≡ (number *ℤ pos spacing) *ℤ m
  place = (λ i. number *ℤ is i) ∙ ring (number ∷ m ∷ pos spacing ∷ []) (var 0 ⊗ (var 1 ⊗ var 2)) ((var 0 ⊗ var 2) ⊗ var 1) refl

  back : (pos 0 -ℤ q) *ℤ k ≡ pos 0 -ℤ (q *ℤ k)
  back = ring (q ∷ k ∷ []) ((con (pos 0) ⊖ var 0) ⊗ var 1) (con (pos 0) ⊖ (var 0 ⊗ var 1)) refl

  step : ((pos 0 -ℤ q) -ℤ pos 1) *ℤ k ≡ (pos 0 -ℤ (q *ℤ k)) -ℤ k
  step = ring (q ∷ k ∷ []) (((con (pos 0) ⊖ var 0) ⊖ con (pos 1)) ⊗ var 1) ((con (pos 0) ⊖ (var 0 ⊗ var 1)) ⊖ var 1) refl

  there : (a b c : ℤ) → c ≡ pos 0 -ℤ a → a ≤ℤ (pos 0 -ℤ n) → c ≤ℤ b → n ≤ℤ b
  there a b c e f g = omega (arith, ints)

  none : (a b c : ℤ) → c ≡ (pos 0 -ℤ a) -ℤ k → n ≤ℤ b → (pos 0 -ℤ n) <ℤ (a +ℤ k) → b ≤ℤ c → ⊥
  none a b c e f g l = omega (arith, ints)

  below : number <ℤ (pos 0 -ℤ q) → number ≤ℤ ((pos 0 -ℤ q) -ℤ pos 1)
  below l = omega (arith, ints)

  from_number : (pos 0 -ℤ q) ≤ℤ number → n ≤ℤ ((number *ℤ pos spacing) *ℤ m)
  from_number l = subst (λ (z : ℤ). n ≤ℤ z) place (there (q *ℤ k) (number *ℤ k) ((pos 0 -ℤ q) *ℤ k) back floor.at_most (most (pos 0 -ℤ q) number k h l))

  to_number : n ≤ℤ ((number *ℤ pos spacing) *ℤ m) → (pos 0 -ℤ q) ≤ℤ number
  to_number g =
      by_lt_z number (pos 0 -ℤ q)
      (λ l. absurd (none (q *ℤ k) (number *ℤ k) (((pos 0 -ℤ q) -ℤ pos 1) *ℤ k) step (subst (λ (z : ℤ). n ≤ℤ z) (sym place) g) floor.rest_below (most number ((pos 0 -ℤ q) -ℤ pos 1) k h (below l))))
      (λ l. l)

pub first_of_floor : (q n m k : ℤ) (spacing : ℕ) → k ≡ m *ℤ pos spacing → pos 0 <ℤ k → IsFloor q (pos 0 -ℤ n) k → IsFirstNumber n m spacing (pos 0 -ℤ q)
first_of_floor q n m k spacing is h floor number = (from_number q n m k spacing is h floor number, to_number q n m k spacing is h floor number)

-- a whole number times a positive one is no less in size
pub wider : (n m k : ℤ) (spacing : ℕ) → 1 ≤ spacing → pos 0 <ℤ m → k ≡ m *ℤ pos spacing → unsigned_abs n ≤ 2 ^ 31 * unsigned_abs m → unsigned_abs (pos 0 -ℤ n) ≤ 2 ^ 31 * unsigned_abs k
wider n m k spacing some h is near = subst (λ (z : ℤ). unsigned_abs (pos 0 -ℤ n) ≤ 2 ^ 31 * unsigned_abs z) (sym is) (by (subst (λ (z : ℤ). z ≤ℤ (m *ℤ pos spacing)) (ring (m ∷ []) (var 0 ⊗ con (pos 1)) (var 0) refl) (times (pos 1) (pos spacing) (omega (arith, ints)))))
  where
    times : (a b : ℤ) → a ≤ℤ b → (m *ℤ a) ≤ℤ (m *ℤ b)
    times a b l = subst (λ (z : ℤ). z ≤ℤ (m *ℤ b)) (ring (m ∷ a ∷ []) (var 1 ⊗ var 0) (var 0 ⊗ var 1) refl) (subst (λ (z : ℤ). (a *ℤ m) ≤ℤ z) (ring (m ∷ b ∷ []) (var 1 ⊗ var 0) (var 0 ⊗ var 1) refl) (most a b m h l))

    size : (z : ℤ) → m ≤ℤ z → unsigned_abs (pos 0 -ℤ n) ≤ 2 ^ 31 * unsigned_abs z
    size z l = omega (arith, ints, near)

    by : m ≤ℤ (m *ℤ pos spacing) → unsigned_abs (pos 0 -ℤ n) ≤ 2 ^ 31 * unsigned_abs (m *ℤ pos spacing)
    by = size (m *ℤ pos spacing)

pub spaced_positive : (m : ℤ) (spacing : ℕ) → 1 ≤ spacing → pos 0 <ℤ m → pos 0 <ℤ (m *ℤ pos spacing)
spaced_positive m spacing some h = mul_pos m (pos spacing) h (omega (arith, ints))
