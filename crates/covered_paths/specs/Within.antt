-- Places on a leg of a path, and which are within a distance of another leg.
use Rattle.std.specs.Prelude.{◌≤◌, ◌^◌, Bool, ◌&&◌, ◌||◌, ℤ, pos, ◌+ℤ◌, ◌-ℤ◌, ◌*ℤ◌, ◌<ℤ◌, unsigned_abs}
use Rattle.std.specs.Int.Signed.{lt_z}
use Rattle.covered_paths.specs.Numbers.{at_most}
use Rattle.covered_paths.specs.declared.legs.Leg.{Leg}
use Rattle.covered_paths.specs.declared.legs.Place.{Place}

-- how far a leg goes to the right and down
abbrev pub across : Leg → ℤ
across s = s.x2 -ℤ s.x1

abbrev pub down : Leg → ℤ
down s = s.y2 -ℤ s.y1

-- the square of a leg's length
abbrev pub long : Leg → ℤ
long s = (across s *ℤ across s) +ℤ (down s *ℤ down s)

-- some of so many parts of the way along a leg
pub record IsPlace (p : Place) : Type 0 where
  pub positive : pos 0 <ℤ p.whole
  pub whole_small : unsigned_abs p.whole ≤ 2 ^ 37
  pub part_small : unsigned_abs p.part ≤ 2 ^ 37

-- how far a place of a leg is from a point, to the right and down, times the place's whole
abbrev pub gap_across : Leg → Place → ℤ → ℤ
gap_across s p x = (p.whole *ℤ (s.x1 -ℤ x)) +ℤ (p.part *ℤ across s)

abbrev pub gap_down : Leg → Place → ℤ → ℤ
gap_down s p y = (p.whole *ℤ (s.y1 -ℤ y)) +ℤ (p.part *ℤ down s)

-- the square of the distance, times that of the place's whole
abbrev pub most : ℤ → Place → ℤ
most far p = (far *ℤ p.whole) *ℤ (far *ℤ p.whole)

-- a place of a leg is within the distance of a point
unfoldable pub is_near : ℤ → Leg → Place → ℤ → ℤ → Bool
is_near far s p x y = at_most ((gap_across s p x *ℤ gap_across s p x) +ℤ (gap_down s p y *ℤ gap_down s p y)) (most far p)

-- how far it is from the first end of another leg, along that leg and across it
abbrev pub ahead : Leg → Place → Leg → ℤ
ahead s p t = (gap_across s p t.x1 *ℤ across t) +ℤ (gap_down s p t.y1 *ℤ down t)

abbrev pub aside : Leg → Place → Leg → ℤ
aside s p t = (gap_across s p t.x1 *ℤ down t) -ℤ (gap_down s p t.y1 *ℤ across t)

-- the foot on the other leg's line is on that leg, and at none of its ends
unfoldable pub is_foot : Leg → Place → Leg → Bool
is_foot s p t = lt_z (pos 0) (ahead s p t) && lt_z (ahead s p t) (p.whole *ℤ long t)

-- the place is within the distance of the other leg's line
unfoldable pub is_beside : ℤ → Leg → Place → Leg → Bool
is_beside far s p t = at_most (aside s p t *ℤ aside s p t) (most far p *ℤ long t)

-- a place of a leg is within the distance of another leg: of one of its ends, or of the foot on it
unfoldable pub is_within : ℤ → Leg → Place → Leg → Bool
is_within far s p t = is_near far s p t.x1 t.y1 || (is_near far s p t.x2 t.y2 || (is_foot s p t && is_beside far s p t))
