-- Places on the way from one corner to another: fractions from 0 to 1.
use Rattle.std.specs.Prelude.{◌<◌, ◌^◌, pos, ◌≤ℤ◌, unsigned_abs}
use Rattle.exact_frac.specs.declared.Frac.{Frac}

-- a share of the way, from 0 to 1, as small as a spot allows
pub record IsPlace (r : Frac) : Type 0 where
  pub least : pos 0 ≤ℤ r.num
  pub most : r.num ≤ℤ r.den
  pub small : unsigned_abs r.den < 2 ^ 69
