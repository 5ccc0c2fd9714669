-- Common divisors of natural numbers and of their multiples, by Euclid's algorithm.
use Rattle.std.proofs.Common.{◌≡◌, ℕ, zero, suc, ◌+◌, ◌*◌, ◌/◌, ◌%◌, ◌<◌, arith, ap, sym, ◌∙◌, subst, mul_comm, one-mul, div-add-mod'}
use Rattle.std.specs.Int.{◌∣◌}
use Rattle.std.proofs.Math.Nat.{dvd_refl, dvd-zero, dvd-mod_iff, dvd-mul_left_of_dvd, dvd-mul_right, dvd-add_iff_right, div-mul_cancel, dvd_of_mul-dvd-mul_right, pos_of_dvd_of_pos}

-- g divides m and n, and what divides both k times m and k times n divides k times g
pub record IsCommon (m n g : ℕ) : Type 0 where
  pub first : g ∣ m
  pub second : g ∣ n
  pub scaled : (d k : ℕ) → d ∣ m * k → d ∣ n * k → d ∣ g * k

-- what divides two multiples divides that of the remainder
remainder : (m n d k : ℕ) → d ∣ m * k → d ∣ n * k → d ∣ m % n * k
remainder m n d k p q =
    let parts : m * k ≡ m / n * (n * k) + m % n * k = omega (arith, ap (λ (x : ℕ). x * k) (div-add-mod' m n)) in
    (dvd-add_iff_right d (dvd-mul_left_of_dvd d q (m / n))).1 (subst (λ x. d ∣ x) parts p)

pub common : (m n : ℕ) → (g : ℕ) × IsCommon m n g
common m n = steps (suc n) m n (omega arith)
  where
    steps : (f m n : ℕ) → n < f → (g : ℕ) × IsCommon m n g
    steps zero m n h = absurd (omega arith)
    steps (suc f) m zero h = (m, record { first = dvd_refl m; second = dvd-zero m; scaled = λ d k p q. p })
    steps (suc f) m (suc n) h =
        let (g, rest) = steps f (suc n) (m % suc n) (omega arith) in
        (g, record { first = (dvd-mod_iff g rest.first).0 rest.second; second = rest.first; scaled = λ d k p q. rest.scaled d k q (remainder m (suc n) d k p q) })

-- what divides the multiples by n of three numbers without a common divisor divides n
pub divides_factor : (m n a b c : ℕ) → 0 < m → ((k : ℕ) → k ∣ a → k ∣ b → k ∣ c → k ≡ 1) → m ∣ n * a → m ∣ n * b → m ∣ n * c → m ∣ n
divides_factor m n a b c positive lowest first second third =
    let (g, both) = common m n in
    let whole : m / g * g ≡ m = div-mul_cancel g both.first in
    let left : (a : ℕ) → m ∣ n * a → m / g ∣ a = λ a h.
    dvd_of_mul-dvd-mul_right (m / g) (pos_of_dvd_of_pos both.first positive) (subst (λ x. x ∣ a * g) (sym whole) (subst (λ x. m ∣ x) (mul_comm g a) (both.scaled m a (dvd-mul_right m a) h))) in
    let one : m / g ≡ 1 = lowest (m / g) (left a first) (left b second) (left c third) in
    let same : g ≡ m = sym (one-mul g) ∙ ap (λ x. x * g) (sym one) ∙ whole in
    subst (λ x. x ∣ n) same both.second
