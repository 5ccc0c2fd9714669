-- A side that misses the box around sides isn't near any of them.
use Rattle.std.proofs.Common.{◌≡◌, ◌⊎◌, inl, inr, ℕ, ◌+◌, ◌-◌, ◌≤◌, ◌<◌, min, max, Bool, true, false, List, [], ◌∷◌, All, arith}
use Rattle.std.specs.Prelude.{nat_lt, nat_le, ◌&&◌, ◌||◌, fold}
use Rattle.std.specs.List.{list_any}
use Rattle.std.proofs.lemmas.Bool.{ltb-true, lt-leb, or_cases, and_left, and_right}
use Rattle.std.proofs.lemmas.List.Elements.{All-cons, All-nil}
use Rattle.std.proofs.lemmas.List.Folds.{list_any_none}
use Rattle.near_lines.specs.Near.{first_end, is_about, is_beside, is_close, is_in_line, is_near, run_together, second_end}
use Rattle.near_lines.specs.Scales.{extent_of, no_extent, widened}
use Rattle.near_lines.specs.declared.extent.Extent.{Extent}
use Rattle.near_lines.specs.declared.near.Spot.{Spot}
use Rattle.near_lines.specs.declared.sides.Side.{Side}
use Rattle.near_lines.specs.inner.Chunks.{is_missed}

-- the side is in the box
record IsIn (e : Extent) (s : Side) : Type 0 where
  left : e.left ≤ min s.x1 s.x2
  right : max s.x1 s.x2 ≤ e.right
  top : e.top ≤ min s.y1 s.y2
  bottom : max s.y1 s.y2 ≤ e.bottom

-- ---- the box around sides
new_in : (e : Extent) (s : Side) → IsIn (widened e s) s
new_in e s = record { left = omega arith; right = omega arith; top = omega arith; bottom = omega arith }

still_in : (e : Extent) (s t : Side) → IsIn e t → IsIn (widened e s) t
still_in e s t h =
    let left = h.left in
    let right = h.right in
    let top = h.top in
    let bottom = h.bottom in
    record { left = omega arith; right = omega arith; top = omega arith; bottom = omega arith }

kept_in : (e : Extent) (sides : List Side) (t : Side) → IsIn e t → IsIn (fold widened e sides) t
kept_in e [] t h = h
kept_in e (s ∷ rest) t h = kept_in (widened e s) rest t (still_in e s t h)

all_in : (e : Extent) (sides : List Side) → All (IsIn (fold widened e sides)) sides
all_in e [] = All-nil (IsIn e)
all_in e (s ∷ rest) = All-cons (IsIn (fold widened (widened e s) rest)) s rest (kept_in (widened e s) rest s (new_in e s)) (all_in (widened e s) rest)

-- ---- a side outside
-- two stretches of a line, from a to b and from c to e, that are farther apart than d
abbrev AreApart : (d a b c e : ℕ) → Type 0
AreApart d a b c e = (max a b + d < min c e) ⊎ (max c e + d < min a b)

first_out : (d a b c e : ℕ) → AreApart d a b c e → (nat_le (min c e) (a + d) && nat_le a (max c e + d)) ≡ false
first_out d a b c e (inl h) = and_left (nat_le (min c e) (a + d)) (nat_le a (max c e + d)) (lt-leb (min c e) (a + d) (omega arith))
first_out d a b c e (inr h) = and_right (nat_le (min c e) (a + d)) (nat_le a (max c e + d)) (lt-leb a (max c e + d) (omega arith))

second_out : (d a b c e : ℕ) → AreApart d a b c e → (nat_le (min c e) (b + d) && nat_le b (max c e + d)) ≡ false
second_out d a b c e (inl h) = and_left (nat_le (min c e) (b + d)) (nat_le b (max c e + d)) (lt-leb (min c e) (b + d) (omega arith))
second_out d a b c e (inr h) = and_right (nat_le (min c e) (b + d)) (nat_le b (max c e + d)) (lt-leb b (max c e + d) (omega arith))

turned : (d a b c e : ℕ) → AreApart d a b c e → AreApart d c e a b
turned d a b c e (inl h) = inr h
turned d a b c e (inr h) = inl h

-- a point that is out across, or down, isn't beside the side
out_across : (d : ℕ) (p : Spot) (t : Side) → (nat_le (min t.x1 t.x2) (p.x + d) && nat_le p.x (max t.x1 t.x2 + d)) ≡ false → is_beside d p t ≡ false
out_across d p t h = and_left (is_about d p t) (is_in_line d p t) (and_left (nat_le (min t.x1 t.x2) (p.x + d) && nat_le p.x (max t.x1 t.x2 + d)) _ h)

out_down : (d : ℕ) (p : Spot) (t : Side) → (nat_le (min t.y1 t.y2) (p.y + d) && nat_le p.y (max t.y1 t.y2 + d)) ≡ false → is_beside d p t ≡ false
out_down d p t h = and_left (is_about d p t) (is_in_line d p t) (and_right _ (nat_le (min t.y1 t.y2) (p.y + d) && nat_le p.y (max t.y1 t.y2 + d)) h)

apart_across : (d : ℕ) (p t : Side) → AreApart d p.x1 p.x2 t.x1 t.x2 → is_close d p t ≡ false
apart_across d p t h =
    let g : AreApart d t.x1 t.x2 p.x1 p.x2 = turned d p.x1 p.x2 t.x1 t.x2 h in
    let p1 = out_across d (first_end p) t (first_out d p.x1 p.x2 t.x1 t.x2 h) in
    let p2 = out_across d (second_end p) t (second_out d p.x1 p.x2 t.x1 t.x2 h) in
    let t1 = out_across d (first_end t) p (first_out d t.x1 t.x2 p.x1 p.x2 g) in
    let t2 = out_across d (second_end t) p (second_out d t.x1 t.x2 p.x1 p.x2 g) in
    λ i. (p1 i || p2 i) || (t1 i || t2 i)

apart_down : (d : ℕ) (p t : Side) → AreApart d p.y1 p.y2 t.y1 t.y2 → is_close d p t ≡ false
apart_down d p t h =
    let g : AreApart d t.y1 t.y2 p.y1 p.y2 = turned d p.y1 p.y2 t.y1 t.y2 h in
    let p1 = out_down d (first_end p) t (first_out d p.y1 p.y2 t.y1 t.y2 h) in
    let p2 = out_down d (second_end p) t (second_out d p.y1 p.y2 t.y1 t.y2 h) in
    let t1 = out_down d (first_end t) p (first_out d t.y1 t.y2 p.y1 p.y2 g) in
    let t2 = out_down d (second_end t) p (second_out d t.y1 t.y2 p.y1 p.y2 g) in
    λ i. (p1 i || p2 i) || (t1 i || t2 i)

-- a box from low to high misses a stretch that is in it
box_apart : (d a b c e low high : ℕ) → low ≤ min c e → max c e ≤ high → (nat_lt (max a b + d) low ≡ true) ⊎ (nat_lt high (min a b - d) ≡ true) → AreApart d a b c e
box_apart d a b c e low high from to (inl m) = let less = ltb-true (max a b + d) low m in inl (omega arith)
box_apart d a b c e low high from to (inr m) = let less = ltb-true high (min a b - d) m in inr (omega arith)

misses : (d : ℕ) (p : Side) (e : Extent) (t : Side) → is_missed d p e ≡ true → IsIn e t → is_close d p t ≡ false
misses d p e t m h =
    by (or_cases (nat_lt (max p.x1 p.x2 + d) e.left || nat_lt e.right (min p.x1 p.x2 - d)) (nat_lt (max p.y1 p.y2 + d) e.top || nat_lt e.bottom (min p.y1 p.y2 - d)) m)
  where
    by : ((nat_lt (max p.x1 p.x2 + d) e.left || nat_lt e.right (min p.x1 p.x2 - d)) ≡ true) ⊎ ((nat_lt (max p.y1 p.y2 + d) e.top || nat_lt e.bottom (min p.y1 p.y2 - d)) ≡ true) → is_close d p t ≡ false
    by (inl a) = apart_across d p t (box_apart d p.x1 p.x2 t.x1 t.x2 e.left e.right h.left h.right (or_cases (nat_lt (max p.x1 p.x2 + d) e.left) (nat_lt e.right (min p.x1 p.x2 - d)) a))
    by (inr a) = apart_down d p t (box_apart d p.y1 p.y2 t.y1 t.y2 e.top e.bottom h.top h.bottom (or_cases (nat_lt (max p.y1 p.y2 + d) e.top) (nat_lt e.bottom (min p.y1 p.y2 - d)) a))

away : (d : ℕ) (s p : Side) (e : Extent) (t : Side) → is_missed d p e ≡ true → IsIn e t → is_near d s p t ≡ false
away d s p e t m h = and_left (is_close d p t) (run_together s t) (misses d p e t m h)

all_away : (d : ℕ) (s p : Side) (e : Extent) (sides : List Side) → is_missed d p e ≡ true → All (IsIn e) sides → All (λ t. is_near d s p t ≡ false) sides
all_away d s p e sides m h = λ k t within. away d s p e _ m (h k t within)

pub none_near : (d : ℕ) (s p : Side) (sides : List Side) → is_missed d p (extent_of sides) ≡ true → list_any (is_near d s p) sides ≡ false
none_near d s p sides m = list_any_none (is_near d s p) sides (all_away d s p (extent_of sides) sides m (all_in no_extent sides))
