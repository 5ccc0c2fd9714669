-- Rounding in two steps, and the powers of ten of a scale.
use Rattle.std.proofs.Common.{◌≡◌, ℕ, zero, suc, ◌+◌, ◌*◌, ◌<◌, ◌≤◌, ◌^◌, arith, subst, ◌∙◌, sym, mul-le-mul}
use Rattle.std.specs.Prelude.{ℤ, pos, ◌+ℤ◌, ◌-ℤ◌, ◌*ℤ◌, ◌<ℤ◌, ◌≤ℤ◌, unsigned_abs}
use Rattle.std.proofs.lemmas.Int.{ints}
use Rattle.integers.proofs.Comparisons.{twice_positive, times_one}
use Rattle.integers.specs.Floors.{IsFloor, floor_of}
use Rattle.integers.proofs.Floors.{floor_of-unique, IsFloor-nested, IsFloor-shifted}
use Rattle.integers.proofs.FloorSizes.{IsFloor-size}
use Rattle.integers.proofs.Ring.{mul_assoc}
use Rattle.integers.proofs.Signs.{mul_pos}
use Rattle.integers.proofs.Sizes.{abs_times, abs_plus}
use Rattle.sheet_plan.specs.Numbers.{nearest}

pub rounded_is : (r t f n w d : ℤ) → pos 0 <ℤ w → pos 0 <ℤ d → IsFloor t ((pos 2 *ℤ f) *ℤ n) w → IsFloor r (t +ℤ d) (pos 2 *ℤ d) → r ≡ nearest (f *ℤ n) (d *ℤ w)
rounded_is r t f n w d hw hd inner outer =
    floor_of-unique r ((pos 2 *ℤ f) *ℤ n +ℤ d *ℤ w) ((pos 2 *ℤ d) *ℤ w) (mul_pos (pos 2 *ℤ d) w (twice_positive d hd) hw) (IsFloor-nested r t ((pos 2 *ℤ f) *ℤ n) d w (pos 2 *ℤ d) hw inner outer)
    ∙ (λ i. floor_of (mul_assoc (pos 2) f n i +ℤ d *ℤ w) (mul_assoc (pos 2) d w i))

pub rounded_size : (r t d : ℤ) → pos 0 <ℤ d → 10 ^ 9 ≤ unsigned_abs d → unsigned_abs t ≤ 2 ^ 75 → IsFloor r (t +ℤ d) (pos 2 *ℤ d) → unsigned_abs r ≤ 2 ^ 45
rounded_size r t d hd least small f = IsFloor-size r (t +ℤ d) (pos 2 *ℤ d) (2 ^ 45) (twice_positive d hd) (omega (arith, ints)) f

-- the same of a whole number
pub whole_is : (r n d : ℤ) → pos 0 <ℤ d → IsFloor r (pos 2 *ℤ n +ℤ d) (pos 2 *ℤ d) → r ≡ nearest n (d *ℤ pos 1)
whole_is r n d hd f = floor_of-unique r (pos 2 *ℤ n +ℤ d) (pos 2 *ℤ d) (twice_positive d hd) f ∙ (λ i. floor_of (pos 2 *ℤ n +ℤ times_one d i) (pos 2 *ℤ times_one d i))

pub whole_size : (r f n d : ℤ) → pos 0 <ℤ d → 10 ^ 9 ≤ unsigned_abs d → unsigned_abs f ≤ 2 ^ 43 → unsigned_abs n ≤ 2 ^ 40 → IsFloor r (pos 2 *ℤ (f *ℤ n) +ℤ d) (pos 2 *ℤ d) → unsigned_abs r ≤ 2 ^ 54
whole_size r f n d hd least hf hn h = IsFloor-size r (pos 2 *ℤ (f *ℤ n) +ℤ d) (pos 2 *ℤ d) (2 ^ 54) (twice_positive d hd) (bound (f *ℤ n) d least (abs_times f n (2 ^ 43) (2 ^ 40) hf hn)) h
  where
    bound : (m d : ℤ) → 10 ^ 9 ≤ unsigned_abs d → unsigned_abs m ≤ 2 ^ 43 * 2 ^ 40 → unsigned_abs (pos 2 *ℤ m +ℤ d) ≤ 2 ^ 54 * unsigned_abs (pos 2 *ℤ d)
    bound m d least small = omega (arith, ints)

-- how large the floor of a multiple is
pub times_size : (f a c : ℤ) → unsigned_abs f ≤ 2 ^ 44 → unsigned_abs a ≤ 2 ^ 30 → unsigned_abs c ≤ 2 ^ 44 → unsigned_abs (f *ℤ a +ℤ c) ≤ 2 ^ 75
times_size f a c hf ha hc =
    let p : unsigned_abs (f *ℤ a) ≤ 2 ^ 44 * 2 ^ 30 = abs_times f a (2 ^ 44) (2 ^ 30) hf ha in
    let s = abs_plus (f *ℤ a) c (2 ^ 44 * 2 ^ 30) (2 ^ 44) p hc in
    omega arith

pub rest_size : (f r w : ℤ) → unsigned_abs f ≤ 2 ^ 44 → pos 0 ≤ℤ r → r <ℤ w → unsigned_abs (f *ℤ r) ≤ 2 ^ 44 * unsigned_abs w
rest_size f r w hf low below = abs_times f r (2 ^ 44) (unsigned_abs w) hf (omega (arith, ints))

-- the powers of ten from 10^9 to 10^15
pub record IsPower (p : ℕ) : Type 0 where
  pub least : 10 ^ 9 ≤ p
  pub greatest : p ≤ 10 ^ 15

pub power_bounds : (k : ℕ) → k ≤ 6 → IsPower (10 ^ (9 + k))
power_bounds zero h = record { least = omega arith; greatest = omega arith }
power_bounds (suc zero) h = record { least = omega arith; greatest = omega arith }
power_bounds (suc (suc zero)) h = record { least = omega arith; greatest = omega arith }
power_bounds (suc (suc (suc zero))) h = record { least = omega arith; greatest = omega arith }
power_bounds (suc (suc (suc (suc zero)))) h = record { least = omega arith; greatest = omega arith }
power_bounds (suc (suc (suc (suc (suc zero))))) h = record { least = omega arith; greatest = omega arith }
power_bounds (suc (suc (suc (suc (suc (suc zero)))))) h = record { least = omega arith; greatest = omega arith }
power_bounds (suc (suc (suc (suc (suc (suc (suc k))))))) h = absurd (omega arith)

pub record IsDivisor (n : ℕ) : Type 0 where
  pub least : 10 ^ 9 ≤ n
  pub greatest : n ≤ 10 ^ 17

pub divisor_bounds : (den p : ℕ) → 1 ≤ den → den ≤ 100 → IsPower p → IsDivisor (den * p)
divisor_bounds den p low high h =
    let least = mul-le-mul low h.least in
    let greatest = mul-le-mul high h.greatest in
    record { least = omega arith; greatest = omega arith }

-- what is left of n beside its whole part, of which t is the multiple
pub record IsRest (n t p : ℤ) : Type 0 where
  pub value : n ≡ p +ℤ (n -ℤ t)
  pub least : pos 0 ≤ℤ (n -ℤ t)
  pub size : unsigned_abs (n -ℤ t) < 2 ^ 70

pub rest_is : (n t p w : ℤ) → t ≡ p → p ≤ℤ n → n <ℤ (p +ℤ w) → unsigned_abs w < 2 ^ 70 → IsRest n t p
rest_is n t p w e low high small = record { value = omega (arith, ints); least = omega (arith, ints); size = omega (arith, ints) }

-- the floor of a multiple, from the whole part a and the rest r
pub from_parts : (f a r w n t u c : ℤ) → n ≡ a *ℤ w +ℤ r → t ≡ f *ℤ a → u ≡ f *ℤ r → IsFloor c u w → IsFloor (t +ℤ c) (f *ℤ n) w
from_parts f a r w n t u c e et eu h =
    let P : ℤ → Type 0 = λ z. IsFloor c z w in
    let Q : ℤ → Type 0 = λ z. IsFloor (z +ℤ c) (f *ℤ n) w in
    subst Q (sym et) (IsFloor-shifted c f a r w n e (subst P eu h))

pub parts_size : (f a r w t u c : ℤ) → unsigned_abs f ≤ 2 ^ 44 → unsigned_abs a ≤ 2 ^ 30 → pos 0 ≤ℤ r → r <ℤ w → t ≡ f *ℤ a → u ≡ f *ℤ r → IsFloor c u w → unsigned_abs (t +ℤ c) ≤ 2 ^ 75
parts_size f a r w t u c hf ha low below et eu h =
    let P : ℤ → Type 0 = λ z. unsigned_abs (z +ℤ c) ≤ 2 ^ 75 in
    let Q : ℤ → Type 0 = λ z. IsFloor c z w in
    subst P (sym et) (times_size f a c hf ha (IsFloor-size c (f *ℤ r) w (2 ^ 44) (above r w low below) (rest_size f r w hf low below) (subst Q eu h)))
  where
    above : (r w : ℤ) → pos 0 ≤ℤ r → r <ℤ w → pos 0 <ℤ w
    above r w h k = omega (arith, ints)
