-- What the numbers of a line are divided by.
use Rattle.std.specs.Prelude.{ℕ, ℤ, pos, ◌*ℤ◌, ◌<ℤ◌, unsigned_abs}
use Rattle.std.specs.Int.{◌∣◌}
use Rattle.lattice.specs.LowestTerms.{leading_of}

-- g is the greatest common divisor of all three, with the sign of the first of a and b that isn't 0
pub record IsLeadingDivisor (a b c g : ℤ) : Type 0 where
  pub leads : pos 0 <ℤ (leading_of a b *ℤ g)
  pub first : unsigned_abs g ∣ unsigned_abs a
  pub second : unsigned_abs g ∣ unsigned_abs b
  pub third : unsigned_abs g ∣ unsigned_abs c
  pub greatest : (n : ℕ) → n ∣ unsigned_abs a → n ∣ unsigned_abs b → n ∣ unsigned_abs c → n ∣ unsigned_abs g
