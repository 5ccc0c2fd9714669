-- Places on hatch lines: their order, and where a spot can be.
use Rattle.std.specs.Prelude.{◌≡◌, ◌*◌, ◌<◌, ◌≤◌, ◌^◌, ℤ, ◌-ℤ◌, ◌*ℤ◌, unsigned_abs}
use Rattle.std.specs.Ordering.{int_cmp, ordering_then}
use Rattle.std.specs.declared.cmp.Ordering.{Ordering}
use Rattle.exact_frac.specs.declared.Frac.{Frac}
use Rattle.exact_frac.specs.Frac.{order_of}
use Rattle.hatch_fill.specs.declared.places.HatchPlace.{HatchPlace}

-- by U - V, and then by U
abbrev pub place_order : HatchPlace → HatchPlace → Ordering
place_order s t = ordering_then (int_cmp s.diagonal t.diagonal) (order_of s.across t.across)

-- the place has this U - V and this U, in these very terms
pub record IsPlaceAt (diagonal : ℤ) (across : Frac) (t : HatchPlace) : Type 0 where
  pub line : t.diagonal ≡ diagonal
  pub num : t.across.num ≡ across.num
  pub den : t.across.den ≡ across.den

-- n / m is at most 2^21 in size
abbrev pub IsNear : ℤ → ℤ → Type 0
IsNear n m = unsigned_abs n ≤ 2 ^ 21 * unsigned_abs m

-- a spot can be where U - V is this number and U is n / m
pub record HasSpot (diagonal n m : ℤ) : Type 0 where
  pub short : unsigned_abs m < 2 ^ 69
  pub across : IsNear n m
  pub upward : IsNear (n -ℤ (diagonal *ℤ m)) m
