-- How much of the lines of a view runs near others.
use Rattle.std.specs.Prelude.{ℕ, zero, suc, ◌+◌, ◌-◌, ◌*◌, ◌/◌, min, max, nat_le, nat_lt, if◌then◌else◌, ℤ, pos, ◌+ℤ◌, ◌-ℤ◌, ◌*ℤ◌, unsigned_abs, Bool, true, false, not, ◌&&◌, ◌||◌, ◌==◌, List, [], ◌∷◌, map, sum}
use Rattle.std.specs.List.{list_any}
use Rattle.near_lines.specs.declared.near.Spot.{Spot}
use Rattle.near_lines.specs.declared.sides.Side.{Side}
use Rattle.sheet_plan.specs.Numbers.{root_of}

-- ---- two sides
-- how far a side goes to the right and down
abbrev pub across : Side → ℤ
across s = pos s.x2 -ℤ pos s.x1

abbrev pub down : Side → ℤ
down s = pos s.y2 -ℤ pos s.y1

-- the sizes of the cross product and of the dot product of two sides
abbrev pub cross : Side → Side → ℕ
cross s t = unsigned_abs ((across s *ℤ down t) -ℤ (down s *ℤ across t))

abbrev pub dot : Side → Side → ℕ
dot s t = unsigned_abs ((across s *ℤ across t) +ℤ (down s *ℤ down t))

-- they go one way, or opposite ways, to less than 1 in 5
abbrev pub goes_along : Side → Side → Bool
goes_along s t = nat_lt (5 * cross s t) (dot s t)

-- the place is an end of the side
abbrev pub is_end : ℕ → ℕ → Side → Bool
is_end x y t = ((x == t.x1) && (y == t.y1)) || ((x == t.x2) && (y == t.y2))

-- they have an end in common
abbrev pub share_end : Side → Side → Bool
share_end s t = is_end s.x1 s.y1 t || is_end s.x2 s.y2 t

-- two sides of different paths with no common end, which go one way or opposite ways
abbrev pub run_together : Side → Side → Bool
run_together s t = not (s.path == t.path) && (not (share_end s t) && goes_along s t)

-- ---- a point and a side
-- it is in the side's box, or no farther outside than this
abbrev pub is_about : ℕ → Spot → Side → Bool
is_about d p t = (nat_le (min t.x1 t.x2) (p.x + d) && nat_le p.x (max t.x1 t.x2 + d)) && (nat_le (min t.y1 t.y2) (p.y + d) && nat_le p.y (max t.y1 t.y2 + d))

-- the squared length of a side
abbrev pub square_of : Side → ℕ
square_of t = unsigned_abs (across t) * unsigned_abs (across t) + unsigned_abs (down t) * unsigned_abs (down t)

-- how far the point is from the side's line, times the side's length
abbrev pub aside : Spot → Side → ℕ
aside p t = unsigned_abs (((pos p.x -ℤ pos t.x1) *ℤ down t) -ℤ ((pos p.y -ℤ pos t.y1) *ℤ across t))

-- it is no farther than this from the side's line
abbrev pub is_in_line : ℕ → Spot → Side → Bool
is_in_line d p t = nat_le (aside p t * aside p t) (d * d * square_of t)

abbrev pub is_beside : ℕ → Spot → Side → Bool
is_beside d p t = is_about d p t && is_in_line d p t

-- ---- two sides near one another
abbrev pub first_end : Side → Spot
first_end s = record { x = s.x1; y = s.y1 }

abbrev pub second_end : Side → Spot
second_end s = record { x = s.x2; y = s.y2 }

-- an end of one of the two is so near to the other
abbrev pub is_close : ℕ → Side → Side → Bool
is_close d p t = (is_beside d (first_end p) t || is_beside d (second_end p) t) || (is_beside d (first_end t) p || is_beside d (second_end t) p)

-- a part of the first side is so near to the second, and the two run together
abbrev pub is_near : ℕ → Side → Side → Side → Bool
is_near d s p t = is_close d p t && run_together s t

-- ---- lengths
-- the length of a side in 10^-4 mm, cut off
abbrev pub length_of : Side → ℕ
length_of s = root_of (10000 * square_of s)

-- the fewest equal parts of it that are no longer than 2 d, or one more; d is in hundredths of a millimetre
abbrev pub parts_of : ℕ → Side → ℕ
parts_of d s = length_of s / (200 * d) + 1

-- between two coordinates, k of n parts of the way, cut off to whole hundredths of a millimetre
abbrev pub between : ℕ → ℕ → ℕ → ℕ → ℕ
between n k a b = (a * (n - k) + b * k) / n

-- the part with this number, of n
abbrev pub part_of : ℕ → ℕ → Side → Side
part_of n k s = record { path = s.path; x1 = between n k s.x1 s.x2; y1 = between n k s.y1 s.y2; x2 = between n (k + 1) s.x1 s.x2; y2 = between n (k + 1) s.y1 s.y2 }

-- of the first k of n parts of a side, those that are near one of these sides
abbrev pub near_parts : ℕ → List Side → Side → ℕ → ℕ → ℕ
near_parts d all s n zero = 0
near_parts d all s n (suc k) = near_parts d all s n k + (if list_any (is_near d s (part_of n k s)) all then 1 else 0)

-- how long those of a side are together, cut off
abbrev pub near_length : ℕ → List Side → Side → ℕ
near_length d all s = near_parts d all s (parts_of d s) (parts_of d s) * length_of s / parts_of d s

-- and those of all sides
abbrev pub near_total : ℕ → List Side → ℕ
near_total d all = sum (map (near_length d all) all)
