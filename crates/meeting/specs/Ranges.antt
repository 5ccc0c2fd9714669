-- Ranges of coordinates.
use Rattle.std.specs.Prelude.{◌≡◌, ℤ, ◌≤ℤ◌}
use Rattle.std.specs.Int.{int_min, int_max}
use Rattle.meeting.specs.declared.range.Range.{Range}

-- the number is in the range; both of its ends are
pub record IsInRange (r : Range) (n : ℤ) : Type 0 where
  pub from : r.from ≤ℤ n
  pub to : n ≤ℤ r.to

-- some number is in both ranges
pub record RangesMeet (r s : Range) : Type 0 where
  pub number : ℤ
  pub first : IsInRange r number
  pub second : IsInRange s number

-- from the lesser of p and q to the greater
pub record IsEdgeRange (p q : ℤ) (r : Range) : Type 0 where
  pub from : r.from ≡ int_min p q
  pub to : r.to ≡ int_max p q

-- from the least of a, b and c to the greatest
pub record IsTriangleRange (a b c : ℤ) (r : Range) : Type 0 where
  pub from : r.from ≡ int_min (int_min a b) c
  pub to : r.to ≡ int_max (int_max a b) c
