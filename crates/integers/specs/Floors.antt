-- The floor of a quotient of whole numbers, as a relation and as a function.
use Rattle.std.specs.Prelude.{ℤ, ◌+ℤ◌, ◌*ℤ◌, ◌≤ℤ◌, ◌<ℤ◌}
use Rattle.std.specs.Int.{int_div_euclid}

-- q is the floor of n / d, where d is positive: n lies from q * d to below the next multiple
pub record IsFloor (q n d : ℤ) : Type 0 where
  pub at_most : (q *ℤ d) ≤ℤ n
  pub rest_below : n <ℤ (q *ℤ d +ℤ d)

-- the floor of n / d, where d is positive
abbrev pub floor_of : ℤ → ℤ → ℤ
floor_of n d = int_div_euclid n d
