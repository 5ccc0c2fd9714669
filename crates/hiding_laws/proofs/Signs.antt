-- Signs of sums and products, over plain variables.
use Rattle.std.proofs.Common.{◌≡◌, ◌⊎◌, zero, suc, inl, inr, arith}
use Rattle.std.specs.Prelude.{ℤ, pos, negsuc, ◌+ℤ◌, ◌-ℤ◌, ◌*ℤ◌, ◌≤ℤ◌, ◌<ℤ◌}
use Rattle.std.proofs.lemmas.Int.{ints, by_lt_z}
use Rattle.integers.proofs.Ring.{mul_comm}
use Rattle.integers.proofs.Signs.{mul_neg, mul_nonpos}

pub weak : (x : ℤ) → pos 0 <ℤ x → pos 0 ≤ℤ x
weak x h = omega (arith, ints)

pub weak_neg : (x : ℤ) → x <ℤ pos 0 → x ≤ℤ pos 0
weak_neg x h = omega (arith, ints)

pub up : (x : ℤ) → x <ℤ pos 0 → pos 0 <ℤ (pos 0 -ℤ x)
up x h = omega (arith, ints)

pub up_weak : (x : ℤ) → x ≤ℤ pos 0 → pos 0 ≤ℤ (pos 0 -ℤ x)
up_weak x h = omega (arith, ints)

pub sum_pos : (a b : ℤ) → pos 0 ≤ℤ a → pos 0 <ℤ b → pos 0 <ℤ (a +ℤ b)
sum_pos a b p q = omega (arith, ints)

pub sum_pos_left : (a b : ℤ) → pos 0 <ℤ a → pos 0 ≤ℤ b → pos 0 <ℤ (a +ℤ b)
sum_pos_left a b p q = omega (arith, ints)

pub sum_nonneg : (a b : ℤ) → pos 0 ≤ℤ a → pos 0 ≤ℤ b → pos 0 ≤ℤ (a +ℤ b)
sum_nonneg a b p q = omega (arith, ints)

pub nonneg_of_zero : (x : ℤ) → x ≡ pos 0 → pos 0 ≤ℤ x
nonneg_of_zero x e = omega (arith, ints)

pub clash : (x : ℤ) → pos 0 <ℤ x → x ≤ℤ pos 0 → ⊥
clash x p q = omega (arith, ints)

pub clash_zero : (x : ℤ) → pos 0 <ℤ x → x ≡ pos 0 → ⊥
clash_zero x p q = omega (arith, ints)

pub clash_neg : (x : ℤ) → pos 0 ≤ℤ x → x <ℤ pos 0 → ⊥
clash_neg x p q = omega (arith, ints)

pub clash_both : (x : ℤ) → pos 0 <ℤ x → x <ℤ pos 0 → ⊥
clash_both x p q = omega (arith, ints)

pub neg_at : (x y : ℤ) → x ≡ y → y <ℤ pos 0 → x <ℤ pos 0
neg_at x y e h = omega (arith, ints)

pub sign_cases : (x : ℤ) → ¬ (x ≡ pos 0) → (x <ℤ pos 0) ⊎ (pos 0 <ℤ x)
sign_cases x n = by_lt_z x (pos 0) inl (λ q. by_lt_z (pos 0) x inr (λ r. absurd (n (omega (arith, ints)))))

-- products by the sign of one factor
pub mul_neg_left : (a b : ℤ) → a <ℤ pos 0 → pos 0 <ℤ b → (a *ℤ b) <ℤ pos 0
mul_neg_left a b p q = neg_at _ _ (mul_comm a b) (mul_neg b a q p)

pub mul_nonpos_left : (a b : ℤ) → a ≤ℤ pos 0 → pos 0 <ℤ b → (a *ℤ b) ≤ℤ pos 0
mul_nonpos_left a b p q = at _ _ (mul_comm a b) (mul_nonpos b a q p)
  where
    at : (x y : ℤ) → x ≡ y → y ≤ℤ pos 0 → x ≤ℤ pos 0
    at x y e h = omega (arith, ints)

pub mul_nonpos_weak : (a b : ℤ) → a ≤ℤ pos 0 → pos 0 ≤ℤ b → (a *ℤ b) ≤ℤ pos 0
mul_nonpos_weak (pos zero) b p q = omega (arith, ints)
mul_nonpos_weak (pos (suc n)) b p q = absurd (omega (arith, ints))
mul_nonpos_weak (negsuc n) (pos zero) p q = omega (arith, ints)
mul_nonpos_weak (negsuc n) (pos (suc m)) p q = omega (arith, ints)
mul_nonpos_weak (negsuc n) (negsuc m) p q = absurd (omega (arith, ints))

pub mul_two_neg : (a b : ℤ) → a <ℤ pos 0 → b <ℤ pos 0 → pos 0 <ℤ (a *ℤ b)
mul_two_neg (pos n) b p q = absurd (omega (arith, ints))
mul_two_neg (negsuc n) (pos m) p q = absurd (omega (arith, ints))
mul_two_neg (negsuc n) (negsuc m) p q = omega (arith, ints)

-- the sign of a factor from those of the product and of the other factor
pub neg_of_mul_neg : (a k : ℤ) → k <ℤ pos 0 → pos 0 <ℤ (a *ℤ k) → a <ℤ pos 0
neg_of_mul_neg a k h p = by_lt_z a (pos 0) (λ q. q) (λ q. absurd (clash _ p (turned _ _ (mul_comm a k) (mul_nonpos_weak k a (weak_neg k h) q))))
  where
    turned : (x y : ℤ) → x ≡ y → y ≤ℤ pos 0 → x ≤ℤ pos 0
    turned x y e h = omega (arith, ints)

pub pos_of_mul_pos : (a k : ℤ) → pos 0 <ℤ k → pos 0 <ℤ (a *ℤ k) → pos 0 <ℤ a
pos_of_mul_pos a k h p = by_lt_z (pos 0) a (λ q. q) (λ q. absurd (clash _ p (mul_nonpos_left a k q h)))
