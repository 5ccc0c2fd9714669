-- Signs of products of whole numbers.
use Rattle.std.proofs.Common.{◌≡◌, ℕ, zero, suc, ◌*◌, ◌<◌, unsigned_abs, refl, sym, ap, ◌∙◌, arith}
use Rattle.std.specs.Prelude.{ℤ, pos, negsuc, ◌*ℤ◌, ◌≤ℤ◌, ◌<ℤ◌}
use Rattle.std.proofs.lemmas.Int.{ints, by_lt_z, unsigned_abs-mul}

pub mul_nonneg : (a b : ℤ) → pos 0 ≤ℤ a → pos 0 ≤ℤ b → pos 0 ≤ℤ (a *ℤ b)
mul_nonneg (pos a) (pos b) p q = omega (arith, ints)
mul_nonneg (pos a) (negsuc b) p q = absurd (omega (arith, ints))
mul_nonneg (negsuc a) b p q = absurd (omega (arith, ints))

pub mul_pos : (a b : ℤ) → pos 0 <ℤ a → pos 0 <ℤ b → pos 0 <ℤ (a *ℤ b)
mul_pos (pos zero) b p q = absurd (omega (arith, ints))
mul_pos (pos (suc a)) (pos zero) p q = absurd (omega (arith, ints))
mul_pos (pos (suc a)) (pos (suc b)) p q = omega (arith, ints)
mul_pos (pos (suc a)) (negsuc b) p q = absurd (omega (arith, ints))
mul_pos (negsuc a) b p q = absurd (omega (arith, ints))

pub mul_neg : (a b : ℤ) → pos 0 <ℤ a → b <ℤ pos 0 → (a *ℤ b) <ℤ pos 0
mul_neg (pos zero) b p q = absurd (omega (arith, ints))
mul_neg (pos (suc a)) (pos b) p q = absurd (omega (arith, ints))
mul_neg (pos (suc a)) (negsuc b) p q = omega (arith, ints)
mul_neg (negsuc a) b p q = absurd (omega (arith, ints))

pub mul_two_neg : (a b : ℤ) → a <ℤ pos 0 → b <ℤ pos 0 → pos 0 <ℤ (a *ℤ b)
mul_two_neg (pos n) b p q = absurd (omega (arith, ints))
mul_two_neg (negsuc n) (pos m) p q = absurd (omega (arith, ints))
mul_two_neg (negsuc n) (negsuc m) p q = omega (arith, ints)

pub mul_nonpos_first : (a b : ℤ) → a ≤ℤ pos 0 → pos 0 ≤ℤ b → (a *ℤ b) ≤ℤ pos 0
mul_nonpos_first (pos zero) b p q = omega (arith, ints)
mul_nonpos_first (pos (suc n)) b p q = absurd (omega (arith, ints))
mul_nonpos_first (negsuc n) (pos zero) p q = omega (arith, ints)
mul_nonpos_first (negsuc n) (pos (suc m)) p q = omega (arith, ints)
mul_nonpos_first (negsuc n) (negsuc m) p q = absurd (omega (arith, ints))

-- from the sign of a product with a positive factor
pub nonneg_of_mul : (k a : ℤ) → pos 0 <ℤ k → pos 0 ≤ℤ (k *ℤ a) → pos 0 ≤ℤ a
nonneg_of_mul k a p h = by_lt_z a (pos 0) (λ n. absurd (let m = mul_neg k a p n in omega (arith, ints))) (λ q. q)

pub mul_nonpos : (a b : ℤ) → pos 0 <ℤ a → b ≤ℤ pos 0 → (a *ℤ b) ≤ℤ pos 0
mul_nonpos (pos zero) b p q = absurd (omega (arith, ints))
mul_nonpos (pos (suc a)) (pos zero) p q = omega (arith, ints)
mul_nonpos (pos (suc a)) (pos (suc b)) p q = absurd (omega (arith, ints))
mul_nonpos (pos (suc a)) (negsuc b) p q = omega (arith, ints)
mul_nonpos (negsuc a) b p q = absurd (omega (arith, ints))

pub pos_of_mul : (k a : ℤ) → pos 0 <ℤ k → pos 0 <ℤ (k *ℤ a) → pos 0 <ℤ a
pos_of_mul k a p h = by_lt_z (pos 0) a (λ q. q) (λ n. absurd (let m = mul_nonpos k a p n in omega (arith, ints)))

pub zero_of_mul : (k a : ℤ) → pos 0 <ℤ k → k *ℤ a ≡ pos 0 → a ≡ pos 0
zero_of_mul k a p h =
    by_lt_z a (pos 0) (λ n. absurd (let m = mul_neg k a p n in omega (arith, ints)))
    (λ q. by_lt_z (pos 0) a (λ n. absurd (let m = mul_pos k a p n in omega (arith, ints))) (λ r. omega (arith, ints)))

-- squares
pub square_nonneg : (a : ℤ) → pos 0 ≤ℤ (a *ℤ a)
square_nonneg (pos a) = omega (arith, ints)
square_nonneg (negsuc a) = omega (arith, ints)

pub square_pos : (a : ℤ) → 0 < unsigned_abs a → pos 0 <ℤ (a *ℤ a)
square_pos (pos zero) h = absurd (omega arith)
square_pos (pos (suc a)) h = omega (arith, ints)
square_pos (negsuc a) h = omega (arith, ints)

pub square_zero : (a : ℤ) → (a *ℤ a) ≤ℤ pos 0 → a ≡ pos 0
square_zero (pos zero) h = refl
square_zero (pos (suc a)) h = absurd (omega (arith, ints))
square_zero (negsuc a) h = absurd (omega (arith, ints))

-- a factor that isn't 0, and one of two that are not both 0
pub zero_of_times : (k a : ℤ) → 0 < unsigned_abs k → k *ℤ a ≡ pos 0 → a ≡ pos 0
zero_of_times k a h e = nothing a (product (unsigned_abs k) (unsigned_abs a) h (sym (unsigned_abs-mul k a) ∙ ap unsigned_abs e))
  where
    product : (m n : ℕ) → 0 < m → m * n ≡ 0 → n ≡ 0
    product zero n h e = absurd (omega arith)
    product (suc m) n h e = omega arith

    nothing : (a : ℤ) → unsigned_abs a ≡ 0 → a ≡ pos 0
    nothing a h = omega (arith, ints)

pub zero_of_either : (k m a : ℤ) → (k ≡ pos 0 → m ≡ pos 0 → ⊥) → k *ℤ a ≡ pos 0 → m *ℤ a ≡ pos 0 → a ≡ pos 0
zero_of_either (pos zero) (pos zero) a h e f = absurd (h refl refl)
zero_of_either (pos zero) (pos (suc m)) a h e f = zero_of_times (pos (suc m)) a (omega arith) f
zero_of_either (pos zero) (negsuc m) a h e f = zero_of_times (negsuc m) a (omega arith) f
zero_of_either (pos (suc k)) m a h e f = zero_of_times (pos (suc k)) a (omega arith) e
zero_of_either (negsuc k) m a h e f = zero_of_times (negsuc k) a (omega arith) e
