-- Which legs lie within a distance of others.
use Rattle.std.specs.Prelude.{Bool, ◌&&◌, ◌||◌, not, cond, nat_lt, ℤ, pos, ◌+ℤ◌, ◌*ℤ◌, List, [], ◌∷◌, length}
use Rattle.std.specs.List.{filter, list_all, list_any}
use Rattle.std.specs.Int.Signed.{lt_z}
use Rattle.covered_paths.specs.Numbers.{at_most}
use Rattle.covered_paths.specs.Splits.{places}
use Rattle.covered_paths.specs.Within.{across, down, is_within, long}
use Rattle.covered_paths.specs.declared.legs.Leg.{Leg}
use Rattle.covered_paths.specs.declared.legs.Place.{Place}

-- ---- which legs count for a leg
-- the smaller and the larger of two numbers
unfoldable pub lower : ℤ → ℤ → ℤ
lower a b = cond (lt_z b a) b a

unfoldable pub upper : ℤ → ℤ → ℤ
upper a b = cond (lt_z a b) b a

-- what lies between c and d is more than a distance above what lies between a and b
unfoldable pub is_below : ℤ → ℤ → ℤ → ℤ → ℤ → Bool
is_below far a b c d = lt_z (upper a b +ℤ far) (lower c d)

-- the one is so far above or below the other
unfoldable pub is_apart : ℤ → ℤ → ℤ → ℤ → ℤ → Bool
is_apart far a b c d = is_below far a b c d || is_below far c d a b

unfoldable pub is_far_off : ℤ → Leg → Leg → Bool
is_far_off far s t = is_apart far s.x1 s.x2 t.x1 t.x2 || is_apart far s.y1 s.y2 t.y1 t.y2

-- two points are one
unfoldable pub is_one : ℤ → ℤ → ℤ → ℤ → Bool
is_one x y u v = at_most x u && (at_most u x && (at_most y v && at_most v y))

-- how far the one leg goes along the other
abbrev pub along : Leg → Leg → ℤ
along s t = (across s *ℤ across t) +ℤ (down s *ℤ down t)

-- their lines part by less than 10 degrees: the square of the cosine is above 0.969846
unfoldable pub is_in_line : Leg → Leg → Bool
is_in_line s t = lt_z ((long s *ℤ long t) *ℤ pos 969846) ((along s t *ℤ along s t) *ℤ pos 1000000)

-- both begin at one point or both end at one; the one begins where the other ends
unfoldable pub is_side_by_side : Leg → Leg → Bool
is_side_by_side s t = is_one s.x1 s.y1 t.x1 t.y1 || is_one s.x2 s.y2 t.x2 t.y2

unfoldable pub is_end_to_end : Leg → Leg → Bool
is_end_to_end s t = is_one s.x1 s.y1 t.x2 t.y2 || is_one s.x2 s.y2 t.x1 t.y1

-- where they have a common end they part there by less than 10 degrees
unfoldable pub is_narrow_beside : Leg → Leg → Bool
is_narrow_beside s t = not (is_side_by_side s t) || (is_in_line s t && lt_z (pos 0) (along s t))

unfoldable pub is_narrow_ahead : Leg → Leg → Bool
is_narrow_ahead s t = not (is_end_to_end s t) || (is_in_line s t && lt_z (along s t) (pos 0))

unfoldable pub is_narrow : Leg → Leg → Bool
is_narrow s t = is_narrow_beside s t && is_narrow_ahead s t

unfoldable pub may_cover : ℤ → Leg → Leg → Bool
may_cover far s t = not (is_far_off far s t) && is_narrow s t

-- ---- which lie within the distance of those
-- both places of a leg are within the distance of one other leg, and so is each point between them
abbrev pub is_reached : ℤ → Leg → Place → Place → Leg → Bool
is_reached far s p q t = is_within far s p t && is_within far s q t

-- from a place on, the next places and the end of the leg, each two by one of the other legs
abbrev pub whole_place : Place
whole_place = record { part = pos 1; whole = pos 1 }

abbrev pub is_covered_from : ℤ → Leg → List Leg → Place → List Place → Bool
is_covered_from far s near p [] = list_any (is_reached far s p whole_place) near
is_covered_from far s near p (q ∷ qs) = list_any (is_reached far s p q) near && is_covered_from far s near q qs

abbrev pub is_covered_by : ℤ → Leg → List Leg → Bool
is_covered_by far s near = is_covered_from far s near (record { part = pos 0; whole = pos 1 }) (places s near)

-- a leg lies within the distance of other legs, of which no more than 64 count for it
abbrev pub are_few : List Leg → Bool
are_few near = not (nat_lt 64 (length near))

abbrev pub is_covered_by_few : ℤ → Leg → List Leg → Bool
is_covered_by_few far s near = are_few near && is_covered_by far s near

abbrev pub is_covered : ℤ → List Leg → Leg → Bool
is_covered far others s = is_covered_by_few far s (filter (may_cover far s) others)

-- each leg of a path does so
abbrev pub covers : ℤ → List Leg → List Leg → Bool
covers far others legs = list_all (is_covered far others) legs
