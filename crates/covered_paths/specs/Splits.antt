-- The places at which a leg is split.
use Rattle.std.specs.Prelude.{Bool, ◌&&◌, cond, ℤ, pos, ◌+ℤ◌, ◌-ℤ◌, ◌*ℤ◌, List, [], ◌∷◌, ◌++◌}
use Rattle.std.specs.List.{flat_map}
use Rattle.std.specs.Int.Signed.{lt_z}
use Rattle.covered_paths.specs.Within.{across, down, IsPlace}
use Rattle.covered_paths.specs.declared.legs.Leg.{Leg}
use Rattle.covered_paths.specs.declared.legs.Place.{Place}

-- ---- where a leg is split
abbrev pub is_between : ℤ → ℤ → Bool
is_between n m = lt_z (pos 0) n && lt_z n m

-- the place of n of m parts of the way, if that is between the ends
unfoldable pub split : ℤ → ℤ → List Place
split n m = cond (is_between n m) (record { part = n; whole = m } ∷ []) (cond (is_between (pos 0 -ℤ n) (pos 0 -ℤ m)) (record { part = pos 0 -ℤ n; whole = pos 0 -ℤ m } ∷ []) [])

-- where the line through a point, upright to another leg, meets a leg
unfoldable pub split_by : Leg → Leg → ℤ → ℤ → List Place
split_by s t x y = split (((x -ℤ s.x1) *ℤ across t) +ℤ ((y -ℤ s.y1) *ℤ down t)) ((across s *ℤ across t) +ℤ (down s *ℤ down t))

-- at the foot of an end of another leg, and where the perpendicular to that leg at this end meets it
unfoldable pub splits_at : Leg → Leg → ℤ → ℤ → List Place
splits_at s t x y = split_by s s x y ++ split_by s t x y

-- so at its first end, and at its second
unfoldable pub first_splits : Leg → Leg → List Place
first_splits s t = splits_at s t t.x1 t.y1

unfoldable pub second_splits : Leg → Leg → List Place
second_splits s t = splits_at s t t.x2 t.y2

unfoldable pub splits : Leg → Leg → List Place
splits s t = first_splits s t ++ second_splits s t

-- ---- in their order
unfoldable pub is_before : Place → Place → Bool
is_before p q = lt_z (p.part *ℤ q.whole) (q.part *ℤ p.whole)

abbrev pub insert : Place → List Place → List Place
insert p [] = p ∷ []
insert p (q ∷ qs) = cond (is_before q p) (q ∷ insert p qs) (p ∷ q ∷ qs)

abbrev pub insert_all : List Place → List Place → List Place
insert_all sorted [] = sorted
insert_all sorted (p ∷ ps) = insert_all (insert p sorted) ps

-- the places at which a leg is split by others
unfoldable pub places : Leg → List Leg → List Place
places s near = insert_all [] (flat_map (splits s) near)

-- places, each of them
abbrev pub ArePlaces : List Place → Type 0
ArePlaces [] = Unit {0}
ArePlaces (p ∷ ps) = IsPlace p × ArePlaces ps
