-- What a fraction stands for: `num / den`, where `den` is positive. Whole numbers have no bound here.
use Rattle.std.specs.Prelude.{◌≡◌, pos, ◌*ℤ◌}
use Rattle.std.specs.Ordering.{int_cmp}
use Rattle.std.specs.declared.cmp.Ordering.{Ordering}
use Rattle.exact_frac.specs.declared.Frac.{Frac}
use Rattle.exact_frac.specs.Divisors.{IsGreatestDivisor}

-- the order of two fractions: that of the cross products
abbrev pub order_of : Frac → Frac → Ordering
order_of x y = int_cmp (x.num *ℤ y.den) (y.num *ℤ x.den)

-- two fractions of one value
abbrev pub IsSameValue : Frac → Frac → Type 0
IsSameValue x y = x.num *ℤ y.den ≡ y.num *ℤ x.den

-- no number above 1 divides both parts
abbrev pub IsLowest : Frac → Type 0
IsLowest x = IsGreatestDivisor x.num x.den (pos 1)
