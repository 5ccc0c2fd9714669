-- Orders of fractions by cross products.
use Rattle.std.proofs.Common.{◌≡◌, [], ◌∷◌, refl}
use Rattle.std.specs.Prelude.{ℤ, pos, ◌-ℤ◌, ◌*ℤ◌, ◌<ℤ◌, ◌≤ℤ◌}
use Rattle.std.proofs.lemmas.Int.{by_lt_z}
use Rattle.integers.proofs.Comparisons.{at_most_of_less, less_of_gap, gap_of_at_most, sum_positive, same_of_both}
use Rattle.integers.proofs.Ring.{var, con, ◌⊕◌, ◌⊖◌, ◌⊗◌, ring, by_two, gap_of_less, same_of_gap}
use Rattle.integers.proofs.Signs.{mul_pos, mul_nonneg, pos_of_mul, zero_of_mul}

pub strict : {a b : ℤ} → a ≤ℤ b → ¬ (a ≡ b) → a <ℤ b
strict {a} {b} h apart = by_lt_z a b (λ less. less) (λ rest. absurd (apart (same_of_both a b h rest)))

-- ---- n / m is k / l
module _ (k l n m : ℤ) (positive : pos 0 <ℤ l) (same : n *ℤ l ≡ k *ℤ m) where
  pub value_at_start : k ≡ pos 0 → n ≡ pos 0
  value_at_start h =
      zero_of_mul l n positive
      (by_two (l *ℤ n) (pos 0) (n *ℤ l) (k *ℤ m) (pos 1) k (pos 0) m
      (ring (k ∷ l ∷ n ∷ m ∷ []) ((var 1 ⊗ var 2) ⊖ con (pos 0)) ((((var 2 ⊗ var 1) ⊖ (var 0 ⊗ var 3)) ⊗ con (pos 1)) ⊕ ((var 0 ⊖ con (pos 0)) ⊗ var 3)) refl) same h)

  pub value_at_finish : k ≡ l → n ≡ m
  value_at_finish h =
      same_of_gap n m (zero_of_mul l (n -ℤ m) positive
      (by_two (l *ℤ (n -ℤ m)) (pos 0) (n *ℤ l) (k *ℤ m) (pos 1) k l m
      (ring (k ∷ l ∷ n ∷ m ∷ []) ((var 1 ⊗ (var 2 ⊖ var 3)) ⊖ con (pos 0)) ((((var 2 ⊗ var 1) ⊖ (var 0 ⊗ var 3)) ⊗ con (pos 1)) ⊕ ((var 0 ⊖ var 1) ⊗ var 3)) refl) same h))

-- ---- n / m is after a / b and before c / e
pub earlier_between : (a b c e n m : ℤ) → pos 0 <ℤ b → pos 0 <ℤ e → pos 0 <ℤ m → (a *ℤ m) <ℤ (n *ℤ b) → (n *ℤ e) <ℤ (c *ℤ m) → (a *ℤ e) <ℤ (c *ℤ b)
earlier_between a b c e n m hb he hm after before =
    less_of_gap (a *ℤ e) (c *ℤ b) (pos_of_mul m ((c *ℤ b) -ℤ (a *ℤ e)) hm
    (sum_positive (b *ℤ ((c *ℤ m) -ℤ (n *ℤ e))) (e *ℤ ((n *ℤ b) -ℤ (a *ℤ m))) (m *ℤ ((c *ℤ b) -ℤ (a *ℤ e)))
    (ring (a ∷ b ∷ c ∷ e ∷ n ∷ m ∷ [])
    (var 5 ⊗ ((var 2 ⊗ var 1) ⊖ (var 0 ⊗ var 3)))
    ((var 1 ⊗ ((var 2 ⊗ var 5) ⊖ (var 4 ⊗ var 3))) ⊕ (var 3 ⊗ ((var 4 ⊗ var 1) ⊖ (var 0 ⊗ var 5)))) refl)
    (at_most_of_less _ _ (mul_pos b _ hb (gap_of_less (n *ℤ e) (c *ℤ m) before))) (mul_pos e _ he (gap_of_less (a *ℤ m) (n *ℤ b) after))))

-- after a place from 0 on
pub after_start : (a b n m : ℤ) → pos 0 ≤ℤ a → pos 0 <ℤ b → pos 0 <ℤ m → (a *ℤ m) <ℤ (n *ℤ b) → pos 0 <ℤ n
after_start a b n m least hb hm after =
    pos_of_mul b n hb (sum_positive (a *ℤ m) ((n *ℤ b) -ℤ (a *ℤ m)) (b *ℤ n)
    (ring (a ∷ b ∷ n ∷ m ∷ []) (var 1 ⊗ var 2) ((var 0 ⊗ var 3) ⊕ ((var 2 ⊗ var 1) ⊖ (var 0 ⊗ var 3))) refl)
    (mul_nonneg a m least (at_most_of_less _ _ hm)) (gap_of_less (a *ℤ m) (n *ℤ b) after))

-- before a place up to 1
pub before_finish : (c e n m : ℤ) → c ≤ℤ e → pos 0 <ℤ e → pos 0 <ℤ m → (n *ℤ e) <ℤ (c *ℤ m) → n <ℤ m
before_finish c e n m most he hm before =
    less_of_gap n m (pos_of_mul e (m -ℤ n) he (sum_positive ((e -ℤ c) *ℤ m) ((c *ℤ m) -ℤ (n *ℤ e)) (e *ℤ (m -ℤ n))
    (ring (c ∷ e ∷ n ∷ m ∷ []) (var 1 ⊗ (var 3 ⊖ var 2)) (((var 1 ⊖ var 0) ⊗ var 3) ⊕ ((var 0 ⊗ var 3) ⊖ (var 2 ⊗ var 1))) refl)
    (mul_nonneg (e -ℤ c) m (gap_of_at_most c e most) (at_most_of_less _ _ hm)) (gap_of_less (n *ℤ e) (c *ℤ m) before)))
