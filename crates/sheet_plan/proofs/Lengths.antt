-- How long a length on the sheet may be.
use Rattle.std.proofs.Common.{◌≡◌, ℕ, zero, suc, ◌+◌, ◌*◌, ◌/◌, ◌<◌, ◌≤◌, ◌⊎◌, inl, inr, ◌^◌, arith, refl, Bool, true, false, mul-le-mul}
use Rattle.std.specs.Prelude.{nat_le, if◌then◌else◌, ℤ, pos, ◌+ℤ◌, ◌*ℤ◌, ◌<ℤ◌, unsigned_abs}
use Rattle.std.proofs.Math.Nat.{div-le_self}
use Rattle.std.proofs.lemmas.Bool.{leb-true, cases_lt}
use Rattle.std.proofs.lemmas.Int.{ints}
use Rattle.integers.proofs.Floors.{floor_of-is}
use Rattle.integers.proofs.Comparisons.{twice_positive}
use Rattle.integers.proofs.Sizes.{abs_times}
use Rattle.sheet_plan.specs.Numbers.{root_up_to, root_of, shortening_of, Measure, sheet_length}
use Rattle.sheet_plan.proofs.Rounding.{rounded_size, power_bounds, divisor_bounds}

-- the square of a root is at most its number
square_least : (n m : ℕ) → root_up_to n m * root_up_to n m ≤ n
square_least n zero = omega arith
square_least n (suc m) = go (square_least n m) (nat_le (suc m * suc m) n) refl
  where
    go : root_up_to n m * root_up_to n m ≤ n → (b : Bool) → nat_le (suc m * suc m) n ≡ b → (if b then suc m else root_up_to n m) * (if b then suc m else root_up_to n m) ≤ n
    go before true e = leb-true (suc m * suc m) n e
    go before false e = before

-- so the root of a number up to 10^18 is at most 10^9
root_small : (n : ℕ) → n ≤ 10 ^ 18 → root_of n ≤ 10 ^ 9
unfolding root_of
root_small n h = by_cases (cases_lt (10 ^ 9) (root_up_to n n))
  where
    by_cases : (10 ^ 9 < root_up_to n n) ⊎ (root_up_to n n ≤ 10 ^ 9) → root_up_to n n ≤ 10 ^ 9
    by_cases (inr l) = l
    by_cases (inl l) = absurd (let s = square_least n n in let more : 10 ^ 9 + 1 ≤ root_up_to n n = omega arith in let m : (10 ^ 9 + 1) * (10 ^ 9 + 1) ≤ root_up_to n n * root_up_to n n = mul-le-mul more more in omega arith)

shortening_small : (q : ℕ) → shortening_of q ≤ 10 ^ 9
shortening_small q = root_small (10 ^ 18 / q) (div-le_self (10 ^ 18) q)

factor_small : (num s : ℕ) → num ≤ 50 → s ≤ 10 ^ 9 → 100 * num * s ≤ 2 ^ 43
factor_small num s hn hs = let few : 100 * num ≤ 5000 = omega arith in let m : 100 * num * s ≤ 5000 * 10 ^ 9 = mul-le-mul few hs in omega arith

pub length_small : (m : Measure) (q : ℕ) (n : ℤ) → m.num ≤ 50 → 1 ≤ m.den → m.den ≤ 100 → m.decimals ≤ 6 → unsigned_abs n ≤ 2 ^ 30 → unsigned_abs (sheet_length m q n (pos 1)) ≤ 2 ^ 45
length_small m q n few low high decimals small =
    rounded_size (sheet_length m q n (pos 1)) (pos 2 *ℤ (f *ℤ n)) d positive least twice (floor_of-is (pos 2 *ℤ (f *ℤ n) +ℤ d) (pos 2 *ℤ d) (twice_positive d positive))
  where
    f : ℤ
    f = pos (100 * m.num * shortening_of q)

    d : ℤ
    d = pos (m.den * 10 ^ (9 + m.decimals)) *ℤ pos 1

    some : (k : ℕ) → 10 ^ 9 ≤ k → pos 0 <ℤ (pos k *ℤ pos 1)
    some k h = omega (arith, ints)

    large : (k : ℕ) → 10 ^ 9 ≤ k → 10 ^ 9 ≤ unsigned_abs (pos k *ℤ pos 1)
    large k h = omega (arith, ints)

    bounds : 10 ^ 9 ≤ m.den * 10 ^ (9 + m.decimals)
    bounds = (divisor_bounds m.den (10 ^ (9 + m.decimals)) low high (power_bounds m.decimals decimals)).least

    positive : pos 0 <ℤ d
    positive = some (m.den * 10 ^ (9 + m.decimals)) bounds

    least : 10 ^ 9 ≤ unsigned_abs d
    least = large (m.den * 10 ^ (9 + m.decimals)) bounds

    once : unsigned_abs (f *ℤ n) ≤ 2 ^ 43 * 2 ^ 30
    once = abs_times f n (2 ^ 43) (2 ^ 30) (factor_small m.num (shortening_of q) few (shortening_small q)) (omega arith)

    twice : unsigned_abs (pos 2 *ℤ (f *ℤ n)) ≤ 2 ^ 75
    twice = go (f *ℤ n) once
      where
        go : (p : ℤ) → unsigned_abs p ≤ 2 ^ 43 * 2 ^ 30 → unsigned_abs (pos 2 *ℤ p) ≤ 2 ^ 75
        go p h = omega (arith, ints)
