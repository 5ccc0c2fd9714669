-- The places at which a leg is split are places.
use Rattle.std.proofs.Common.{◌≡◌, ◌≤◌, ◌^◌, Bool, true, false, List, [], ◌∷◌, ◌++◌, refl, arith, unsigned_abs}
use Rattle.std.specs.Prelude.{ℤ, pos, ◌+ℤ◌, ◌-ℤ◌, ◌*ℤ◌, ◌<ℤ◌, cond}
use Rattle.std.specs.List.{flat_map}
use Rattle.std.specs.Int.Signed.{lt_z}
use Rattle.std.proofs.lemmas.Int.{ints}
use Rattle.integers.proofs.Worth.{known, plus, times, size_of}
use Rattle.covered_paths.specs.Splits.{ArePlaces, first_splits, insert, insert_all, is_before, is_between, places, second_splits, split, split_by, splits, splits_at}
use Rattle.covered_paths.specs.Within.{IsPlace, across, down}
use Rattle.covered_paths.specs.declared.legs.Leg.{Leg}
use Rattle.covered_paths.specs.declared.legs.Place.{Place}
use Rattle.covered_paths.proofs.Truths.{both_left, both_right, less_is}

no_larger : (n m : ℤ) → pos 0 <ℤ n → n <ℤ m → unsigned_abs m ≤ 2 ^ 37 → unsigned_abs n ≤ 2 ^ 37
no_larger n m h k s = omega (arith, ints)

above : (n m : ℤ) → pos 0 <ℤ n → n <ℤ m → pos 0 <ℤ m
above n m h k = omega (arith, ints)

is_place : (n m : ℤ) → unsigned_abs m ≤ 2 ^ 37 → is_between n m ≡ true → IsPlace (record { part = n; whole = m })
is_place n m small h =
    let first = less_is (pos 0) n (both_left (lt_z (pos 0) n) (lt_z n m) h) in
    let second = less_is n m (both_right (lt_z (pos 0) n) (lt_z n m) h) in
    record { positive = above n m first second; whole_small = small; part_small = no_larger n m first second small }

turned_small : (m : ℤ) → unsigned_abs m ≤ 2 ^ 37 → unsigned_abs (pos 0 -ℤ m) ≤ 2 ^ 37
turned_small m h = omega (arith, ints)

one_of : (p q : Place) (a b : Bool) → (a ≡ true → IsPlace p) → (b ≡ true → IsPlace q) → ArePlaces (cond a (p ∷ []) (cond b (q ∷ []) []))
one_of p q true b h k = (h refl, tt)
one_of p q false true h k = (k refl, tt)
one_of p q false false h k = tt

split_places : (n m : ℤ) → unsigned_abs m ≤ 2 ^ 37 → ArePlaces (split n m)
unfolding split
split_places n m h =
    one_of (record { part = n; whole = m }) (record { part = pos 0 -ℤ n; whole = pos 0 -ℤ m }) (is_between n m) (is_between (pos 0 -ℤ n) (pos 0 -ℤ m))
    (is_place n m h) (is_place (pos 0 -ℤ n) (pos 0 -ℤ m) (turned_small m h))

append_places : (ps qs : List Place) → ArePlaces ps → ArePlaces qs → ArePlaces (ps ++ qs)
append_places [] qs h k = k
append_places (p ∷ ps) qs h k = (h.0, append_places ps qs h.1 k)

dot_small : (a b c d : ℤ) → unsigned_abs a ≤ 2 ^ 18 → unsigned_abs b ≤ 2 ^ 18 → unsigned_abs c ≤ 2 ^ 18 → unsigned_abs d ≤ 2 ^ 18 → unsigned_abs ((a *ℤ c) +ℤ (b *ℤ d)) ≤ 2 ^ 37
dot_small a b c d h k l m = size_of (2 ^ 37) (plus (times (known a (2 ^ 18) h) (known c (2 ^ 18) l)) (times (known b (2 ^ 18) k) (known d (2 ^ 18) m))) tt

way_small : (a b : ℤ) → unsigned_abs a ≤ 2 ^ 17 → unsigned_abs b ≤ 2 ^ 17 → unsigned_abs (a -ℤ b) ≤ 2 ^ 18
way_small a b h k = omega (arith, ints)

across_small : (s : Leg) → unsigned_abs (across s) ≤ 2 ^ 18
across_small s = way_small s.x2 s.x1 s.x2_near s.x1_near

down_small : (s : Leg) → unsigned_abs (down s) ≤ 2 ^ 18
down_small s = way_small s.y2 s.y1 s.y2_near s.y1_near

split_by_places : (s t : Leg) (x y : ℤ) → ArePlaces (split_by s t x y)
unfolding split_by
split_by_places s t x y =
    split_places (((x -ℤ s.x1) *ℤ across t) +ℤ ((y -ℤ s.y1) *ℤ down t)) ((across s *ℤ across t) +ℤ (down s *ℤ down t))
    (dot_small (across s) (down s) (across t) (down t) (across_small s) (down_small s) (across_small t) (down_small t))

splits_at_places : (s t : Leg) (x y : ℤ) → ArePlaces (splits_at s t x y)
unfolding splits_at
splits_at_places s t x y = append_places (split_by s s x y) (split_by s t x y) (split_by_places s s x y) (split_by_places s t x y)

first_places : (s t : Leg) → ArePlaces (first_splits s t)
unfolding first_splits
first_places s t = splits_at_places s t t.x1 t.y1

second_places : (s t : Leg) → ArePlaces (second_splits s t)
unfolding second_splits
second_places s t = splits_at_places s t t.x2 t.y2

splits_places : (s t : Leg) → ArePlaces (splits s t)
unfolding splits
splits_places s t = append_places (first_splits s t) (second_splits s t) (first_places s t) (second_places s t)

all_splits_places : (s : Leg) (near : List Leg) → ArePlaces (flat_map (splits s) near)
all_splits_places s [] = tt
all_splits_places s (t ∷ ts) = append_places (splits s t) (flat_map (splits s) ts) (splits_places s t) (all_splits_places s ts)

insert_places : (p : Place) (qs : List Place) → IsPlace p → ArePlaces qs → ArePlaces (insert p qs)
insert_places p [] h k = (h, tt)
insert_places p (q ∷ qs) h k = by (insert_places p qs h k.1) (is_before q p)
  where
    by : ArePlaces (insert p qs) → (b : Bool) → ArePlaces (cond b (q ∷ insert p qs) (p ∷ q ∷ qs))
    by rest true = (k.0, rest)
    by rest false = (h, k)

insert_all_places : (sorted ps : List Place) → ArePlaces sorted → ArePlaces ps → ArePlaces (insert_all sorted ps)
insert_all_places sorted [] h k = h
insert_all_places sorted (p ∷ ps) h k = insert_all_places (insert p sorted) ps (insert_places p sorted k.0 h) k.1

pub are_places : (s : Leg) (near : List Leg) → ArePlaces (places s near)
unfolding places
are_places s near = insert_all_places [] (flat_map (splits s) near) tt (all_splits_places s near)
