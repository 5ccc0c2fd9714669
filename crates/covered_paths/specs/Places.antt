-- The place of a line in the order of lines: visible ones first, and then hidden ones, the longest first.
use Rattle.std.specs.Prelude.{ℕ, ◌+◌, ◌-◌, ◌*◌, ◌^◌, min, Bool, cond, List, map, sum, unsigned_abs}
use Rattle.sheet_plan.specs.Numbers.{root_of}
use Rattle.covered_paths.specs.Within.{long}
use Rattle.covered_paths.specs.declared.legs.Leg.{Leg}

-- the length of a leg in 10^-6 mm, cut off
abbrev pub length_of : Leg → ℕ
length_of s = root_of (100000000 * unsigned_abs (long s))

-- that of all legs; what is longer than 2^63 counts as so long
abbrev pub length_along : List Leg → ℕ
length_along legs = min (sum (map length_of legs)) (2 ^ 63)

-- a visible line is before each hidden one, and a longer hidden line before a shorter one
abbrev pub rank_of : Bool → List Leg → ℕ
rank_of hidden legs = cond hidden (2 ^ 63 + 1 - length_along legs) 0

-- of lines that are alike in this the one with the lower number, which is below 2^64, is first
abbrev pub place_of : ℕ → Bool → List Leg → ℕ
place_of number hidden legs = rank_of hidden legs * 2 ^ 64 + number
