-- Dashes that fit a path, with the gaps between them.
use Rattle.std.proofs.Common.{◌≡◌, ℕ, ◌+◌, ◌-◌, ◌*◌, ◌/◌, ◌<◌, ◌≤◌, ◌^◌, ◌⊎◌, inl, inr, Bool, true, false, arith, subst, sym, mul-le-mul}
use Rattle.std.specs.Prelude.{max}
use Rattle.std.proofs.Math.Nat.{mul-div-le, lt-div-mul-add, max-eq_left, max-eq_right, le_refl}
use Rattle.std.proofs.lemmas.Bool.{cases_lt}
use Rattle.std.proofs.lemmas.Nat.{le-div}
use Rattle.sheet_page.specs.Dashes.{dashes_on, gaps_between, gap_on, dash_on, shared, IsFilled}
use Rattle.sheet_page.specs.declared.pens.Pens.{Pens}
use Rattle.sheet_page.specs.declared.pens.Pens.TheVariants.{Usual, Small}

-- of 1.5 mm or more each dash has at least 0.75 mm, with its gap
pub at_least : (pens : Pens) (closed : Bool) (length : ℕ) → 1500000 ≤ length → 750000 * dashes_on pens closed length ≤ length
at_least Usual true length long = omega arith
at_least Usual false length long = omega arith
at_least Small true length long = omega arith
at_least Small false length long = omega arith

-- and no dash has 2^32 of 10^-6 mm
pub at_most : (pens : Pens) (closed : Bool) (length : ℕ) → length < 2 ^ 32 * dashes_on pens closed length
at_most Usual true length = omega arith
at_most Usual false length = omega arith
at_most Small true length = omega arith
at_most Small false length = omega arith

-- there are no more gaps than dashes
pub few : (closed : Bool) (n : ℕ) → gaps_between closed n ≤ n
few true n = omega arith
few false n = omega arith

-- a gap is 0.5 mm, or a quarter of a dash
longer : (gap : ℕ) → (max 500000 gap ≡ gap) ⊎ (max 500000 gap ≡ 500000)
longer gap = by_cases (cases_lt 500000 gap)
  where
    by_cases : (500000 < gap) ⊎ (gap ≤ 500000) → (max 500000 gap ≡ gap) ⊎ (max 500000 gap ≡ 500000)
    by_cases (inl l) = inl (max-eq_right (omega arith))
    by_cases (inr l) = inr (max-eq_left l)

fifth : (n g q length : ℕ) → (4 * n + g) * q ≤ length → g * q ≤ n * q → 5 * (g * q) ≤ length
fifth n g q length whole few = omega arith

half : (n g length : ℕ) → g * 500000 ≤ n * 500000 → 750000 * n ≤ length → g * 500000 + 250000 * n ≤ length
half n g length few share = omega arith

rest_of : (n s length : ℕ) → 5 * s ≤ length → 750000 * n ≤ length → s + 250000 * n ≤ length
rest_of n s length few share = omega arith

-- gaps leave each dash 0.25 mm
pub room : (closed : Bool) (length n : ℕ) → 750000 * n ≤ length → gaps_between closed n * gap_on closed length n + 250000 * n ≤ length
room closed length n share = by_cases (longer q)
  where
    g : ℕ
    g = gaps_between closed n

    q : ℕ
    q = length / (4 * n + g)

    by_cases : (max 500000 q ≡ q) ⊎ (max 500000 q ≡ 500000) → g * max 500000 q + 250000 * n ≤ length
    by_cases (inl e) = subst (λ (x : ℕ). g * x + 250000 * n ≤ length) (sym e) (rest_of n (g * q) length (fifth n g q length (mul-div-le length (4 * n + g)) (mul-le-mul (few closed n) (le_refl q))) share)
    by_cases (inr e) = subst (λ (x : ℕ). g * x + 250000 * n ≤ length) (sym e) (half n g length (mul-le-mul (few closed n) (le_refl 500000)) share)

-- the dashes share the rest
within : (n d s length : ℕ) → n * d ≤ length - s → s ≤ length → n * d + s ≤ length
within n d s length part few = omega arith

whole : (n d s length : ℕ) → length - s < d * n + n → length < n * d + s + n
whole n d s length part = omega arith

pub fills : (closed : Bool) (length n : ℕ) → 2 ≤ n → 750000 * n ≤ length → IsFilled closed length n (shared closed length n)
fills closed length n two share =
    let s = gaps_between closed n * gap_on closed length n in
    let all = room closed length n share in
    record {
      within = within n (dash_on closed length n) s length (mul-div-le (length - s) n) (omega (arith, all));
      rest = whole n (dash_on closed length n) s length (lt-div-mul-add (omega (arith, two)));
    }

pub long_dash : (closed : Bool) (length n : ℕ) → 2 ≤ n → 750000 * n ≤ length → 250000 ≤ dash_on closed length n
long_dash closed length n two share =
    let all = room closed length n share in
    le-div 250000 (length - gaps_between closed n * gap_on closed length n) n (omega (arith, two)) (omega (arith, all))

-- dashes and gaps are short enough for 64 bits
short_dash : (n d : ℕ) → 2 ≤ n → n * d < 2 ^ 32 * n → d < 2 ^ 32
short_dash n d two small = by_cases (cases_lt d (2 ^ 32))
  where
    by_cases : (d < 2 ^ 32) ⊎ (2 ^ 32 ≤ d) → d < 2 ^ 32
    by_cases (inl l) = l
    by_cases (inr l) = absurd (let m = mul-le-mul (le_refl n) l in omega (arith, m, small))

pub dash_size : (closed : Bool) (length n : ℕ) → 2 ≤ n → length < 2 ^ 32 * n → dash_on closed length n < 2 ^ 32
dash_size closed length n two many =
    short_dash n (dash_on closed length n) two (let m = mul-div-le (length - gaps_between closed n * gap_on closed length n) n in omega (arith, m, many))

quotient_size : (n g q length : ℕ) → (4 * n + g) * q ≤ length → length < 2 ^ 32 * n → n * q < 2 ^ 32 * n
quotient_size n g q length part many = omega arith

pub gap_size : (closed : Bool) (length n : ℕ) → 2 ≤ n → length < 2 ^ 32 * n → gap_on closed length n < 2 ^ 32
gap_size closed length n two many =
    let g = gaps_between closed n in
    let q = length / (4 * n + g) in
    let small = short_dash n q two (quotient_size n g q length (mul-div-le length (4 * n + g)) many) in
    omega (arith, small)
