-- Two numbers that are written as `n/d`.
use Rattle.std.specs.Prelude.{ℕ, ℤ, pos, ◌<◌, ◌^◌}
use Rattle.exact_frac.specs.Divisors.{IsGreatestDivisor}

-- in lowest terms, and not a whole number
pub record IsRatio (num : ℤ) (den : ℕ) : Type 0 where
  pub more : 1 < den
  pub size : den < 2 ^ 70
  pub lowest : IsGreatestDivisor num (pos den) (pos 1)
