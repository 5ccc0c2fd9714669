-- Common divisors of whole numbers without a bound.
use Rattle.std.specs.Prelude.{ℤ, pos, ◌≤ℤ◌, unsigned_abs}
use Rattle.std.specs.Int.{IsGcd}

-- g is the greatest common divisor of a and b, and not negative
pub record IsGreatestDivisor (a b g : ℤ) : Type 0 where
  pub not_negative : pos 0 ≤ℤ g
  pub greatest : IsGcd (unsigned_abs a) (unsigned_abs b) (unsigned_abs g)
