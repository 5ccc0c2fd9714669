-- A point that is outside a box is within the distance of no leg in the box.
use Rattle.std.proofs.Common.{◌≡◌, inl, inr, Bool, true, false, List, [], ◌∷◌, refl, ap, subst, arith}
use Rattle.std.specs.Prelude.{ℤ, pos, ◌+ℤ◌, ◌-ℤ◌, ◌*ℤ◌, ◌<ℤ◌, ◌≤ℤ◌, not, cond, fold, ◌||◌}
use Rattle.std.specs.List.{list_any}
use Rattle.std.specs.Int.Signed.{lt_z}
use Rattle.std.proofs.lemmas.Int.{ints}
use Rattle.integers.proofs.Comparisons.{at_most_by, at_most_of_less, gap_of_at_most, sum_not_negative}
use Rattle.integers.proofs.Ring.{var, con, ◌⊕◌, ◌⊖◌, ◌⊗◌, ring, gap_of_less}
use Rattle.integers.proofs.Signs.{mul_nonneg, mul_pos, square_nonneg}
use Rattle.covered_paths.specs.Covering.{lower, upper}
use Rattle.covered_paths.specs.Points.{EachLeg, IsPointNear}
use Rattle.covered_paths.specs.Within.{is_within}
use Rattle.covered_paths.specs.declared.extent.Extent.{Extent}
use Rattle.covered_paths.specs.declared.legs.Leg.{Leg}
use Rattle.covered_paths.specs.declared.legs.Place.{Place}
use Rattle.covered_paths.specs.inner.Boxes.{extent_of, is_missed, is_outside, no_extent, widened}
use Rattle.covered_paths.proofs.PlacePoints.{place_near}
use Rattle.covered_paths.proofs.Short.{root}
use Rattle.covered_paths.proofs.Truths.{at_most_is, either, less_is}

-- ---- the lower and the upper of two numbers
same_at_most : (a : ℤ) → a ≤ℤ a
same_at_most a = omega (arith, ints)

through : (a b c : ℤ) → a ≤ℤ b → b ≤ℤ c → a ≤ℤ c
through a b c h k = omega (arith, ints)

lower_first : (a b : ℤ) → lower a b ≤ℤ a
unfolding lower
lower_first a b = by (lt_z b a) refl
  where
    by : (c : Bool) → lt_z b a ≡ c → cond c b a ≤ℤ a
    by true e = at_most_of_less b a (less_is b a e)
    by false e = same_at_most a

lower_second : (a b : ℤ) → lower a b ≤ℤ b
unfolding lower
lower_second a b = by (lt_z b a) refl
  where
    by : (c : Bool) → lt_z b a ≡ c → cond c b a ≤ℤ b
    by true e = same_at_most b
    by false e = at_most_is a b (ap not e)

upper_first : (a b : ℤ) → a ≤ℤ upper a b
unfolding upper
upper_first a b = by (lt_z a b) refl
  where
    by : (c : Bool) → lt_z a b ≡ c → a ≤ℤ cond c b a
    by true e = at_most_of_less a b (less_is a b e)
    by false e = same_at_most a

upper_second : (a b : ℤ) → b ≤ℤ upper a b
unfolding upper
upper_second a b = by (lt_z a b) refl
  where
    by : (c : Bool) → lt_z a b ≡ c → b ≤ℤ cond c b a
    by true e = same_at_most b
    by false e = at_most_is b a (ap not e)

-- ---- legs in boxes
-- two numbers are from low to high
record AreBetween (low high a b : ℤ) : Type 0 where
  low_first : low ≤ℤ a
  low_second : low ≤ℤ b
  high_first : a ≤ℤ high
  high_second : b ≤ℤ high

record IsIn (e : Extent) (t : Leg) : Type 0 where
  across : AreBetween e.left e.right t.x1 t.x2
  down : AreBetween e.top e.bottom t.y1 t.y2

new_between : (low high a b : ℤ) → AreBetween (lower low (lower a b)) (upper high (upper a b)) a b
new_between low high a b = record {
  low_first = through _ _ _ (lower_second low (lower a b)) (lower_first a b);
  low_second = through _ _ _ (lower_second low (lower a b)) (lower_second a b);
  high_first = through _ _ _ (upper_first a b) (upper_second high (upper a b));
  high_second = through _ _ _ (upper_second a b) (upper_second high (upper a b));
}

still_between : (low high a b z u : ℤ) → AreBetween low high a b → AreBetween (lower low z) (upper high u) a b
still_between low high a b z u h = record {
  low_first = through _ _ _ (lower_first low z) h.low_first;
  low_second = through _ _ _ (lower_first low z) h.low_second;
  high_first = through _ _ _ h.high_first (upper_first high u);
  high_second = through _ _ _ h.high_second (upper_first high u);
}

new_in : (e : Extent) (s : Leg) → IsIn (widened e s) s
new_in e s = record { across = new_between e.left e.right s.x1 s.x2; down = new_between e.top e.bottom s.y1 s.y2 }

still_in : (e : Extent) (s t : Leg) → IsIn e t → IsIn (widened e s) t
still_in e s t h = record {
  across = still_between e.left e.right t.x1 t.x2 (lower s.x1 s.x2) (upper s.x1 s.x2) h.across;
  down = still_between e.top e.bottom t.y1 t.y2 (lower s.y1 s.y2) (upper s.y1 s.y2) h.down;
}

kept_in : (e : Extent) (legs : List Leg) (t : Leg) → IsIn e t → IsIn (fold widened e legs) t
kept_in e [] t h = h
kept_in e (s ∷ rest) t h = kept_in (widened e s) rest t (still_in e s t h)

all_in : (e : Extent) (legs : List Leg) → EachLeg (IsIn (fold widened e legs)) legs
all_in e [] = tt
all_in e (s ∷ rest) = (kept_in (widened e s) rest s (new_in e s), all_in (widened e s) rest)

-- ---- points that are near a leg
first_part : (u v w : ℤ) → pos 0 ≤ℤ v → (u +ℤ v) ≤ℤ w → u ≤ℤ w
first_part u v w h k = omega (arith, ints)

second_part : (u v w : ℤ) → pos 0 ≤ℤ u → (u +ℤ v) ≤ℤ w → v ≤ℤ w
second_part u v w h k = omega (arith, ints)

turned : (d : ℤ) → d *ℤ d ≡ (pos 0 -ℤ d) *ℤ (pos 0 -ℤ d)
turned d = ring (d ∷ []) (var 0 ⊗ var 0) ((con (pos 0) ⊖ var 0) ⊗ (con (pos 0) ⊖ var 0)) refl

not_below : (p q r s : ℤ) → pos 0 <ℤ ((p -ℤ q) -ℤ r) → p ≤ℤ s → (pos 0 -ℤ (q -ℤ s)) ≤ℤ r → ⊥
not_below p q r s h k l = omega (arith, ints)

not_above : (p q r s : ℤ) → pos 0 <ℤ ((q -ℤ r) -ℤ p) → s ≤ℤ p → (q -ℤ s) ≤ℤ r → ⊥
not_above p q r s h k l = omega (arith, ints)

-- along an axis: a point x, whose weight is k, is within the distance of the point of a leg with the weights i and j
module _ (far k x i j a b low high : ℤ) (hf : pos 0 ≤ℤ far) (hk : pos 0 <ℤ k) (hi : pos 0 ≤ℤ i) (hj : pos 0 ≤ℤ j) (sum : i +ℤ j ≡ k *ℤ pos 1) (h : AreBetween low high a b)
    (near : (((k *ℤ x) -ℤ ((i *ℤ a) +ℤ (j *ℤ b))) *ℤ ((k *ℤ x) -ℤ ((i *ℤ a) +ℤ (j *ℤ b)))) ≤ℤ ((far *ℤ (k *ℤ pos 1)) *ℤ (far *ℤ (k *ℤ pos 1)))) where
  long_enough : pos 0 ≤ℤ (far *ℤ (k *ℤ pos 1))
  long_enough = mul_nonneg far (k *ℤ pos 1) hf (subst (λ (z : ℤ). pos 0 ≤ℤ z) sum (sum_not_negative i j hi hj))

  from_low : (low *ℤ (k *ℤ pos 1)) ≤ℤ ((i *ℤ a) +ℤ (j *ℤ b))
  from_low =
      subst (λ (w : ℤ). (low *ℤ w) ≤ℤ ((i *ℤ a) +ℤ (j *ℤ b))) sum
      (at_most_by (low *ℤ (i +ℤ j)) ((i *ℤ a) +ℤ (j *ℤ b)) ((i *ℤ (a -ℤ low)) +ℤ (j *ℤ (b -ℤ low)))
      (ring (i ∷ j ∷ a ∷ b ∷ low ∷ [])
      (((var 0 ⊗ var 2) ⊕ (var 1 ⊗ var 3)) ⊖ (var 4 ⊗ (var 0 ⊕ var 1)))
      ((var 0 ⊗ (var 2 ⊖ var 4)) ⊕ (var 1 ⊗ (var 3 ⊖ var 4))) refl)
      (sum_not_negative _ _ (mul_nonneg i (a -ℤ low) hi (gap_of_at_most _ _ h.low_first)) (mul_nonneg j (b -ℤ low) hj (gap_of_at_most _ _ h.low_second))))

  to_high : ((i *ℤ a) +ℤ (j *ℤ b)) ≤ℤ (high *ℤ (k *ℤ pos 1))
  to_high =
      subst (λ (w : ℤ). ((i *ℤ a) +ℤ (j *ℤ b)) ≤ℤ (high *ℤ w)) sum
      (at_most_by ((i *ℤ a) +ℤ (j *ℤ b)) (high *ℤ (i +ℤ j)) ((i *ℤ (high -ℤ a)) +ℤ (j *ℤ (high -ℤ b)))
      (ring (i ∷ j ∷ a ∷ b ∷ high ∷ [])
      ((var 4 ⊗ (var 0 ⊕ var 1)) ⊖ ((var 0 ⊗ var 2) ⊕ (var 1 ⊗ var 3)))
      ((var 0 ⊗ (var 4 ⊖ var 2)) ⊕ (var 1 ⊗ (var 4 ⊖ var 3))) refl)
      (sum_not_negative _ _ (mul_nonneg i (high -ℤ a) hi (gap_of_at_most _ _ h.high_first)) (mul_nonneg j (high -ℤ b) hj (gap_of_at_most _ _ h.high_second))))

  below : (x +ℤ far) <ℤ low → ⊥
  below l =
      not_below (low *ℤ (k *ℤ pos 1)) (k *ℤ x) (far *ℤ (k *ℤ pos 1)) ((i *ℤ a) +ℤ (j *ℤ b))
      (subst (λ (z : ℤ). pos 0 <ℤ z)
      (ring (low ∷ k ∷ x ∷ far ∷ []) (var 1 ⊗ (var 0 ⊖ (var 2 ⊕ var 3))) (((var 0 ⊗ (var 1 ⊗ con (pos 1))) ⊖ (var 1 ⊗ var 2)) ⊖ (var 3 ⊗ (var 1 ⊗ con (pos 1)))) refl)
      (mul_pos k (low -ℤ (x +ℤ far)) hk (gap_of_less (x +ℤ far) low l)))
      from_low
      (root (pos 0 -ℤ ((k *ℤ x) -ℤ ((i *ℤ a) +ℤ (j *ℤ b)))) (far *ℤ (k *ℤ pos 1)) long_enough
      (subst (λ (z : ℤ). z ≤ℤ ((far *ℤ (k *ℤ pos 1)) *ℤ (far *ℤ (k *ℤ pos 1)))) (turned ((k *ℤ x) -ℤ ((i *ℤ a) +ℤ (j *ℤ b)))) near))

  above : high <ℤ (x -ℤ far) → ⊥
  above l =
      not_above (high *ℤ (k *ℤ pos 1)) (k *ℤ x) (far *ℤ (k *ℤ pos 1)) ((i *ℤ a) +ℤ (j *ℤ b))
      (subst (λ (z : ℤ). pos 0 <ℤ z)
      (ring (high ∷ k ∷ x ∷ far ∷ []) (var 1 ⊗ ((var 2 ⊖ var 3) ⊖ var 0)) (((var 1 ⊗ var 2) ⊖ (var 3 ⊗ (var 1 ⊗ con (pos 1)))) ⊖ (var 0 ⊗ (var 1 ⊗ con (pos 1)))) refl)
      (mul_pos k ((x -ℤ far) -ℤ high) hk (gap_of_less high (x -ℤ far) l)))
      to_high
      (root ((k *ℤ x) -ℤ ((i *ℤ a) +ℤ (j *ℤ b))) (far *ℤ (k *ℤ pos 1)) long_enough near)

  not_outside : is_outside far x low high ≡ true → ⊥
  unfolding is_outside
  not_outside m = elim (either (lt_z (x +ℤ far) low) (lt_z high (x -ℤ far)) m) [ inl e ↦ below (less_is (x +ℤ far) low e) | inr e ↦ above (less_is high (x -ℤ far) e) ]

point_in : (far : ℤ) → pos 0 ≤ℤ far → (x y : ℤ) (e : Extent) (t : Leg) → is_missed far x y e ≡ true → IsIn e t → IsPointNear far x y (pos 1) t → ⊥
unfolding is_missed
point_in far hf x y e t m h p =
    let at = p.at in
    let dx = (p.scale *ℤ x) -ℤ ((at.i *ℤ t.x1) +ℤ (at.j *ℤ t.x2)) in
    let dy = (p.scale *ℤ y) -ℤ ((at.i *ℤ t.y1) +ℤ (at.j *ℤ t.y2)) in
    let r = far *ℤ (p.scale *ℤ pos 1) in
    elim (either (is_outside far x e.left e.right) (is_outside far y e.top e.bottom) m) [
      | inl o ↦ not_outside far p.scale x at.i at.j t.x1 t.x2 e.left e.right hf p.positive at.first at.second at.sum h.across (first_part (dx *ℤ dx) (dy *ℤ dy) (r *ℤ r) (square_nonneg dy) at.near) o
      | inr o ↦ not_outside far p.scale y at.i at.j t.y1 t.y2 e.top e.bottom hf p.positive at.first at.second at.sum h.down (second_part (dx *ℤ dx) (dy *ℤ dy) (r *ℤ r) (square_nonneg dx) at.near) o
    ]

-- ---- the first point of a leg
abbrev start : Place
start = record { part = pos 0; whole = pos 1 }

at_start : (a b : ℤ) → (pos 1 *ℤ a) +ℤ (pos 0 *ℤ (b -ℤ a)) ≡ a
at_start a b = ring (a ∷ b ∷ []) ((con (pos 1) ⊗ var 0) ⊕ (con (pos 0) ⊗ (var 1 ⊖ var 0))) (var 0) refl

one_there : pos 0 <ℤ pos 1
one_there = omega (arith, ints)

away : (far : ℤ) → pos 0 ≤ℤ far → (s : Leg) (e : Extent) (t : Leg) → is_missed far s.x1 s.y1 e ≡ true → IsIn e t → is_within far s start t ≡ false
away far hf s e t m h = by (is_within far s start t) refl
  where
    by : (b : Bool) → is_within far s start t ≡ b → b ≡ false
    by false k = refl
    by true k =
        absurd (point_in far hf s.x1 s.y1 e t m h
        (subst (λ (x : ℤ). IsPointNear far x s.y1 (pos 1) t) (at_start s.x1 s.x2)
        (subst (λ (y : ℤ). IsPointNear far ((pos 1 *ℤ s.x1) +ℤ (pos 0 *ℤ (s.x2 -ℤ s.x1))) y (pos 1) t) (at_start s.y1 s.y2) (place_near far s start t one_there k))))

both : (a b : Bool) → a ≡ false → b ≡ false → (a || b) ≡ false
both false b e f = f
both true b e f = absurd cc

all_away : (far : ℤ) → pos 0 ≤ℤ far → (s : Leg) (e : Extent) (ts : List Leg) → is_missed far s.x1 s.y1 e ≡ true → EachLeg (IsIn e) ts → list_any (is_within far s start) ts ≡ false
all_away far hf s e [] m h = refl
all_away far hf s e (t ∷ ts) m h = both (is_within far s start t) (list_any (is_within far s start) ts) (away far hf s e t m h.0) (all_away far hf s e ts m h.1)

pub own_away : (far : ℤ) → pos 0 ≤ℤ far → (s t : Leg) → is_missed far s.x1 s.y1 (widened no_extent t) ≡ true → is_within far s start t ≡ false
own_away far hf s t m = away far hf s (widened no_extent t) t m (new_in no_extent t)

pub none_near : (far : ℤ) → pos 0 ≤ℤ far → (s : Leg) (ts : List Leg) → is_missed far s.x1 s.y1 (extent_of ts) ≡ true → list_any (is_within far s start) ts ≡ false
none_near far hf s ts m = all_away far hf s (extent_of ts) ts m (all_in no_extent ts)
