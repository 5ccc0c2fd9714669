-- Division by the greatest common divisor.
use Rattle.std.proofs.Common.{◌≡◌, [], ◌∷◌, refl, ℕ, ◌<◌, ◌*◌, ◌^◌, zero, suc, arith, ℤ, pos, negsuc, neg_ℤ, ◌*ℤ◌, ◌<ℤ◌, unsigned_abs, int_div, int_rem, FitsSigned, to_z, sym, ap, ◌∙◌, one-mul}
use Rattle.std.specs.Int.{IsGcd, ◌∣◌, w128}
use Rattle.std.proofs.Math.Nat.{mul-dvd-mul_right, dvd_of_mul-dvd-mul_right, one-dvd, pos_of_dvd_of_pos}
use Rattle.std.proofs.lemmas.Nat.Gcd.{mod-eq-zero_of_dvd}
use Rattle.std.proofs.lemmas.Int.{ints, to_z_pos, quot-rem, quot_fits, unsigned_abs-mul}
use Rattle.integers.proofs.Ring.{var, ◌⊗◌, ring}
use Rattle.exact_frac.specs.Divisors.{IsGreatestDivisor}

pub gcd_is : (a b : ℤ) (m n g : ℕ) → m ≡ unsigned_abs a → n ≡ unsigned_abs b → IsGcd m n g → g < 2 ^ 127 → IsGreatestDivisor a b (to_z w128 g)
gcd_is a b m n g em en h fits =
    rw (to_z_pos w128 g fits) (record { not_negative = omega (arith, ints); greatest = rw (← em, ← en) h })

-- the divisor of a positive number is positive
pub positive_divisor : (a b g : ℤ) → pos 0 <ℤ b → IsGreatestDivisor a b g → pos 0 <ℤ g
positive_divisor a b (negsuc k) h d = absurd (omega (arith, ints, d.not_negative))
positive_divisor a (negsuc b) g h d = absurd (omega (arith, ints))
positive_divisor a (pos b) (pos k) h d = let k_pos : 0 < k = pos_of_dvd_of_pos d.greatest.1 (omega (arith, ints)) in omega (arith, ints)

rem_is_zero : (z g : ℤ) → unsigned_abs g ∣ unsigned_abs z → int_rem z g ≡ pos 0
rem_is_zero (pos a) (pos k) h = ap pos (mod-eq-zero_of_dvd k h)
rem_is_zero (pos a) (negsuc k) h = ap pos (mod-eq-zero_of_dvd (suc k) h)
rem_is_zero (negsuc a) (pos k) h = ap (λ (n : ℕ). neg_ℤ (pos n)) (mod-eq-zero_of_dvd k h)
rem_is_zero (negsuc a) (negsuc k) h = ap (λ (n : ℕ). neg_ℤ (pos n)) (mod-eq-zero_of_dvd (suc k) h)

-- a divisor divides with no rest
pub exact : (z g : ℤ) → unsigned_abs g ∣ unsigned_abs z → int_div z g *ℤ g ≡ z
exact z g h = let q = quot-rem z g in let r = rem_is_zero z g h in omega (arith, ints)

pub exact_first : (a b g : ℤ) → IsGreatestDivisor a b g → int_div a g *ℤ g ≡ a
exact_first a b g d = exact a g d.greatest.0

pub exact_second : (a b g : ℤ) → IsGreatestDivisor a b g → int_div b g *ℤ g ≡ b
exact_second a b g d = exact b g d.greatest.1

-- a product is positive only where its first factor is, if the second is
pub positive_factor : (x g z : ℤ) → x *ℤ g ≡ z → pos 0 <ℤ g → pos 0 <ℤ z → pos 0 <ℤ x
positive_factor (pos (suc x)) g z e hg hz = omega (arith, ints)
positive_factor (pos zero) g z e hg hz = absurd (omega (arith, ints))
positive_factor (negsuc x) (pos g) z e hg hz = absurd (omega (arith, ints))
positive_factor (negsuc x) (negsuc g) z e hg hz = absurd (omega (arith, ints))

-- what is left of two numbers has no common divisor
lowest : (a b k m n : ℕ) → 0 < k → a ≡ m * k → b ≡ n * k → IsGcd a b k → IsGcd m n 1
lowest a b k m n hk ea eb h = (
  one-dvd m,
  one-dvd n,
  λ d hm hn.
      let scaled : d * k ∣ 1 * k = rw one-mul (h.2 (d * k) (rw ea (mul-dvd-mul_right _ hm k)) (rw eb (mul-dvd-mul_right _ hn k))) in
      dvd_of_mul-dvd-mul_right d hk scaled,
)

pub lowest_terms : (a b g : ℤ) → pos 0 <ℤ g → IsGreatestDivisor a b g → IsGreatestDivisor (int_div a g) (int_div b g) (pos 1)
lowest_terms a b (negsuc k) hg d = absurd (omega (arith, ints))
lowest_terms a b (pos k) hg d =
    let first = sym (ap unsigned_abs (exact_first a b (pos k) d)) ∙ unsigned_abs-mul (int_div a (pos k)) (pos k) in
    let second = sym (ap unsigned_abs (exact_second a b (pos k) d)) ∙ unsigned_abs-mul (int_div b (pos k)) (pos k) in
    record { not_negative = omega (arith, ints); greatest = lowest _ _ k _ _ (omega (arith, ints)) first second d.greatest }

-- the quotients by one divisor stand for the same value
pub same_value : (a b g m n : ℤ) → m *ℤ g ≡ a → n *ℤ g ≡ b → m *ℤ b ≡ a *ℤ n
same_value a b g m n ea eb = rw (← ea, ← eb) (ring (m ∷ n ∷ g ∷ []) (var 0 ⊗ (var 1 ⊗ var 2)) ((var 0 ⊗ var 2) ⊗ var 1) refl)

-- what `Frac::reduce` knows of its two quotients
pub record Reduces (num den g : ℤ) : Type 0 where
  pub num_fits : FitsSigned w128 (int_div num g)
  pub den_fits : FitsSigned w128 (int_div den g)
  pub positive : pos 0 <ℤ int_div den g
  pub same : int_div num g *ℤ den ≡ num *ℤ int_div den g
  pub lowest : IsGreatestDivisor (int_div num g) (int_div den g) (pos 1)

pub reduces : (num den g : ℤ) → FitsSigned w128 num → FitsSigned w128 den → pos 0 <ℤ den → IsGreatestDivisor num den g → Reduces num den g
reduces num den g fn fd p d =
    let g_pos = positive_divisor num den g p d in
    record {
      num_fits = quot_fits w128 num g fn g_pos;
      den_fits = quot_fits w128 den g fd g_pos;
      positive = positive_factor (int_div den g) g den (exact_second num den g d) g_pos p;
      same = same_value num den g (int_div num g) (int_div den g) (exact_first num den g d) (exact_second num den g d);
      lowest = lowest_terms num den g g_pos d;
    }
