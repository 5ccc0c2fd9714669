-- Vectors that are no longer than a number: sums and multiples of them.
use Rattle.std.proofs.Common.{◌≡◌, [], ◌∷◌, refl, subst, arith}
use Rattle.std.specs.Prelude.{ℤ, pos, ◌+ℤ◌, ◌-ℤ◌, ◌*ℤ◌, ◌<ℤ◌, ◌≤ℤ◌}
use Rattle.std.proofs.lemmas.Int.{ints, by_lt_z}
use Rattle.integers.proofs.Comparisons.{at_most_by, gap_of_at_most, less_not_at_most, sum_not_negative}
use Rattle.integers.proofs.Ring.{var, con, ◌⊕◌, ◌⊖◌, ◌⊗◌, ring, gap_of_less, less_by}
use Rattle.integers.proofs.Signs.{mul_nonneg, mul_pos, square_nonneg}

-- (a, b) is no longer than r
abbrev pub IsShort : ℤ → ℤ → ℤ → Type 0
IsShort r a b = ((a *ℤ a) +ℤ (b *ℤ b)) ≤ℤ (r *ℤ r)

sum_above : (u v : ℤ) → pos 0 ≤ℤ v → v <ℤ u → pos 0 <ℤ (u +ℤ v)
sum_above u v h q = omega (arith, ints)

pub root : (u v : ℤ) → pos 0 ≤ℤ v → (u *ℤ u) ≤ℤ (v *ℤ v) → u ≤ℤ v
root u v hv h =
    by_lt_z v u
    (λ q. absurd (less_not_at_most (v *ℤ v) (u *ℤ u)
    (less_by (v *ℤ v) (u *ℤ u) ((u -ℤ v) *ℤ (u +ℤ v)) (ring (u ∷ v ∷ []) ((var 0 ⊗ var 0) ⊖ (var 1 ⊗ var 1)) ((var 0 ⊖ var 1) ⊗ (var 0 ⊕ var 1)) refl)
    (mul_pos (u -ℤ v) (u +ℤ v) (gap_of_less v u q) (sum_above u v hv q))) h))
    (λ q. q)

twice_nonneg : (a : ℤ) → pos 0 ≤ℤ a → pos 0 ≤ℤ (pos 2 *ℤ a)
twice_nonneg a h = omega (arith, ints)

module _ (a b r c d q : ℤ) (hr : pos 0 ≤ℤ r) (hq : pos 0 ≤ℤ q) (h : IsShort r a b) (k : IsShort q c d) where
  inner : ((a *ℤ c) +ℤ (b *ℤ d)) ≤ℤ (r *ℤ q)
  inner =
      root ((a *ℤ c) +ℤ (b *ℤ d)) (r *ℤ q) (mul_nonneg r q hr hq)
      (at_most_by (((a *ℤ c) +ℤ (b *ℤ d)) *ℤ ((a *ℤ c) +ℤ (b *ℤ d))) ((r *ℤ q) *ℤ (r *ℤ q))
      (((((r *ℤ r) -ℤ ((a *ℤ a) +ℤ (b *ℤ b))) *ℤ (q *ℤ q)) +ℤ (((a *ℤ a) +ℤ (b *ℤ b)) *ℤ ((q *ℤ q) -ℤ ((c *ℤ c) +ℤ (d *ℤ d))))) +ℤ (((a *ℤ d) -ℤ (b *ℤ c)) *ℤ ((a *ℤ d) -ℤ (b *ℤ c))))
      (ring (a ∷ b ∷ r ∷ c ∷ d ∷ q ∷ [])
      (((var 2 ⊗ var 5) ⊗ (var 2 ⊗ var 5)) ⊖ (((var 0 ⊗ var 3) ⊕ (var 1 ⊗ var 4)) ⊗ ((var 0 ⊗ var 3) ⊕ (var 1 ⊗ var 4))))
      (((((var 2 ⊗ var 2) ⊖ ((var 0 ⊗ var 0) ⊕ (var 1 ⊗ var 1))) ⊗ (var 5 ⊗ var 5)) ⊕ (((var 0 ⊗ var 0) ⊕ (var 1 ⊗ var 1)) ⊗ ((var 5 ⊗ var 5) ⊖ ((var 3 ⊗ var 3) ⊕ (var 4 ⊗ var 4)))))
      ⊕ (((var 0 ⊗ var 4) ⊖ (var 1 ⊗ var 3)) ⊗ ((var 0 ⊗ var 4) ⊖ (var 1 ⊗ var 3)))) refl)
      (sum_not_negative _ _
      (sum_not_negative _ _ (mul_nonneg _ _ (gap_of_at_most _ _ h) (square_nonneg q)) (mul_nonneg _ _ (sum_not_negative _ _ (square_nonneg a) (square_nonneg b)) (gap_of_at_most _ _ k)))
      (square_nonneg ((a *ℤ d) -ℤ (b *ℤ c)))))

  pub short_sum : IsShort (r +ℤ q) (a +ℤ c) (b +ℤ d)
  short_sum =
      at_most_by (((a +ℤ c) *ℤ (a +ℤ c)) +ℤ ((b +ℤ d) *ℤ (b +ℤ d))) ((r +ℤ q) *ℤ (r +ℤ q))
      ((((r *ℤ r) -ℤ ((a *ℤ a) +ℤ (b *ℤ b))) +ℤ ((q *ℤ q) -ℤ ((c *ℤ c) +ℤ (d *ℤ d)))) +ℤ (pos 2 *ℤ ((r *ℤ q) -ℤ ((a *ℤ c) +ℤ (b *ℤ d)))))
      (ring (a ∷ b ∷ r ∷ c ∷ d ∷ q ∷ [])
      (((var 2 ⊕ var 5) ⊗ (var 2 ⊕ var 5)) ⊖ (((var 0 ⊕ var 3) ⊗ (var 0 ⊕ var 3)) ⊕ ((var 1 ⊕ var 4) ⊗ (var 1 ⊕ var 4))))
      ((((var 2 ⊗ var 2) ⊖ ((var 0 ⊗ var 0) ⊕ (var 1 ⊗ var 1))) ⊕ ((var 5 ⊗ var 5) ⊖ ((var 3 ⊗ var 3) ⊕ (var 4 ⊗ var 4))))
      ⊕ (con (pos 2) ⊗ ((var 2 ⊗ var 5) ⊖ ((var 0 ⊗ var 3) ⊕ (var 1 ⊗ var 4))))) refl)
      (sum_not_negative _ _ (sum_not_negative _ _ (gap_of_at_most _ _ h) (gap_of_at_most _ _ k)) (twice_nonneg _ (gap_of_at_most _ _ inner)))

pub short_times : (k r a b : ℤ) → IsShort r a b → IsShort (k *ℤ r) (k *ℤ a) (k *ℤ b)
short_times k r a b h =
    at_most_by (((k *ℤ a) *ℤ (k *ℤ a)) +ℤ ((k *ℤ b) *ℤ (k *ℤ b))) ((k *ℤ r) *ℤ (k *ℤ r)) ((k *ℤ k) *ℤ ((r *ℤ r) -ℤ ((a *ℤ a) +ℤ (b *ℤ b))))
    (ring (k ∷ r ∷ a ∷ b ∷ [])
    (((var 0 ⊗ var 1) ⊗ (var 0 ⊗ var 1)) ⊖ (((var 0 ⊗ var 2) ⊗ (var 0 ⊗ var 2)) ⊕ ((var 0 ⊗ var 3) ⊗ (var 0 ⊗ var 3))))
    ((var 0 ⊗ var 0) ⊗ ((var 1 ⊗ var 1) ⊖ ((var 2 ⊗ var 2) ⊕ (var 3 ⊗ var 3)))) refl)
    (mul_nonneg (k *ℤ k) _ (square_nonneg k) (gap_of_at_most _ _ h))

pub short_same : (r a b r' a' b' : ℤ) → r ≡ r' → a ≡ a' → b ≡ b' → IsShort r a b → IsShort r' a' b'
short_same r a b r' a' b' e f g h =
    subst (λ (z : ℤ). IsShort z a' b') e (subst (λ (z : ℤ). IsShort r z b') f (subst (λ (z : ℤ). IsShort r a z) g h))
