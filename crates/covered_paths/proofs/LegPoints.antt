-- Of a leg that is covered each point is within the distance of one of the legs that cover it.
use Rattle.std.proofs.Common.{◌≡◌, true, List, [], ◌∷◌, refl, subst, ◌∙◌, arith}
use Rattle.std.specs.Prelude.{ℤ, pos, ◌+ℤ◌, ◌-ℤ◌, ◌*ℤ◌, ◌<ℤ◌, ◌≤ℤ◌}
use Rattle.std.specs.List.{filter, list_any}
use Rattle.std.proofs.lemmas.Int.{ints, by_lt_z}
use Rattle.integers.proofs.Comparisons.{at_most_of_less, gap_of_at_most}
use Rattle.integers.proofs.Ring.{var, con, ◌⊕◌, ◌⊖◌, ◌⊗◌, ring, by_one, mul_comm}
use Rattle.integers.proofs.Signs.{mul_nonneg, mul_nonpos, zero_of_mul}
use Rattle.covered_paths.specs.Covering.{are_few, covers, is_covered, is_covered_by, is_covered_from, is_reached, may_cover, whole_place}
use Rattle.covered_paths.specs.Points.{EachLeg, EachPointNear, IsPointNear, SomeLeg}
use Rattle.covered_paths.specs.Splits.{ArePlaces, places}
use Rattle.covered_paths.specs.Within.{is_within}
use Rattle.covered_paths.specs.declared.legs.Leg.{Leg}
use Rattle.covered_paths.specs.declared.legs.Place.{Place}
use Rattle.covered_paths.proofs.NearPoints.{mixed}
use Rattle.covered_paths.proofs.PlacePoints.{place_near}
use Rattle.covered_paths.proofs.PlaceSizes.{are_places}
use Rattle.covered_paths.proofs.Truths.{both_left, both_right, each_leg, some_leg, unfiltered}

-- ---- a place between two places
-- (j / w) is between n / m and k / l, with u = k w - j l, v = j m - n w and d = k m - n l
weights : (i j m n l k : ℤ) → (((k *ℤ (i +ℤ j)) -ℤ (j *ℤ l)) *ℤ m) +ℤ (((j *ℤ m) -ℤ (n *ℤ (i +ℤ j))) *ℤ l) ≡ ((k *ℤ m) -ℤ (n *ℤ l)) *ℤ (i +ℤ j)
weights i j m n l k =
    ring (i ∷ j ∷ m ∷ n ∷ l ∷ k ∷ [])
    ((((var 5 ⊗ (var 0 ⊕ var 1)) ⊖ (var 1 ⊗ var 4)) ⊗ var 2) ⊕ (((var 1 ⊗ var 2) ⊖ (var 3 ⊗ (var 0 ⊕ var 1))) ⊗ var 4))
    (((var 5 ⊗ var 2) ⊖ (var 3 ⊗ var 4)) ⊗ (var 0 ⊕ var 1)) refl

values : (i j m n l k a b : ℤ)
    → (((k *ℤ (i +ℤ j)) -ℤ (j *ℤ l)) *ℤ ((m *ℤ a) +ℤ (n *ℤ (b -ℤ a)))) +ℤ (((j *ℤ m) -ℤ (n *ℤ (i +ℤ j))) *ℤ ((l *ℤ a) +ℤ (k *ℤ (b -ℤ a))))
    ≡ ((k *ℤ m) -ℤ (n *ℤ l)) *ℤ ((i *ℤ a) +ℤ (j *ℤ b))
values i j m n l k a b =
    ring (i ∷ j ∷ m ∷ n ∷ l ∷ k ∷ a ∷ b ∷ [])
    ((((var 5 ⊗ (var 0 ⊕ var 1)) ⊖ (var 1 ⊗ var 4)) ⊗ ((var 2 ⊗ var 6) ⊕ (var 3 ⊗ (var 7 ⊖ var 6)))) ⊕ (((var 1 ⊗ var 2) ⊖ (var 3 ⊗ (var 0 ⊕ var 1))) ⊗ ((var 4 ⊗ var 6) ⊕ (var 5 ⊗ (var 7 ⊖ var 6)))))
    (((var 5 ⊗ var 2) ⊖ (var 3 ⊗ var 4)) ⊗ ((var 0 ⊗ var 6) ⊕ (var 1 ⊗ var 7))) refl

-- where the two are one place it is that place
alone : (w m : ℤ) → (w *ℤ m) +ℤ (pos 0 *ℤ m) ≡ m *ℤ w
alone w m = ring (w ∷ m ∷ []) ((var 0 ⊗ var 1) ⊕ (con (pos 0) ⊗ var 1)) (var 1 ⊗ var 0) refl

alone_value : (i j m n a b : ℤ) → j *ℤ m ≡ n *ℤ (i +ℤ j) → ((i +ℤ j) *ℤ ((m *ℤ a) +ℤ (n *ℤ (b -ℤ a)))) +ℤ (pos 0 *ℤ ((m *ℤ a) +ℤ (n *ℤ (b -ℤ a)))) ≡ m *ℤ ((i *ℤ a) +ℤ (j *ℤ b))
alone_value i j m n a b e =
    by_one _ _ (j *ℤ m) (n *ℤ (i +ℤ j)) (a -ℤ b)
    (ring (i ∷ j ∷ m ∷ n ∷ a ∷ b ∷ [])
    ((((var 0 ⊕ var 1) ⊗ ((var 2 ⊗ var 4) ⊕ (var 3 ⊗ (var 5 ⊖ var 4)))) ⊕ (con (pos 0) ⊗ ((var 2 ⊗ var 4) ⊕ (var 3 ⊗ (var 5 ⊖ var 4))))) ⊖ (var 2 ⊗ ((var 0 ⊗ var 4) ⊕ (var 1 ⊗ var 5))))
    (((var 1 ⊗ var 2) ⊖ (var 3 ⊗ (var 0 ⊕ var 1))) ⊗ (var 4 ⊖ var 5)) refl) e

second_none : (a b c : ℤ) → a +ℤ b ≡ c → pos 0 ≤ℤ a → pos 0 ≤ℤ b → c ≤ℤ pos 0 → b ≡ pos 0
second_none a b c e h k l = omega (arith, ints)

same_of_none : (a b : ℤ) → a -ℤ b ≡ pos 0 → a ≡ b
same_of_none a b e = omega (arith, ints)

zero_least : pos 0 ≤ℤ pos 0
zero_least = omega (arith, ints)

to_end : (i j : ℤ) → pos 0 ≤ℤ i → (j *ℤ pos 1) ≤ℤ (pos 1 *ℤ (i +ℤ j))
to_end i j h = omega (arith, ints)

from_start : (w j : ℤ) → pos 0 ≤ℤ j → (pos 0 *ℤ w) ≤ℤ (j *ℤ pos 1)
from_start w j h = omega (arith, ints)

one_more : pos 0 <ℤ pos 1
one_more = omega (arith, ints)

-- ---- the points of a leg
module _ (far : ℤ) (hf : pos 0 ≤ℤ far) (s : Leg) (i j : ℤ) (hi : pos 0 ≤ℤ i) (hj : pos 0 ≤ℤ j) (hw : pos 0 <ℤ (i +ℤ j)) where
  abbrev IsNear : Leg → Type 0
  IsNear t = IsPointNear far ((i *ℤ s.x1) +ℤ (j *ℤ s.x2)) ((i *ℤ s.y1) +ℤ (j *ℤ s.y2)) (i +ℤ j) t

  module _ (p q : Place) (hp : pos 0 <ℤ p.whole) (hq : pos 0 <ℤ q.whole) (after : (p.part *ℤ (i +ℤ j)) ≤ℤ (j *ℤ p.whole)) (before : (j *ℤ q.whole) ≤ℤ (q.part *ℤ (i +ℤ j))) (t : Leg) where
    apart : is_within far s p t ≡ true → is_within far s q t ≡ true → pos 0 <ℤ ((q.part *ℤ p.whole) -ℤ (p.part *ℤ q.whole)) → IsNear t
    apart h k hd =
        mixed far t ((q.part *ℤ (i +ℤ j)) -ℤ (j *ℤ q.whole)) ((j *ℤ p.whole) -ℤ (p.part *ℤ (i +ℤ j))) ((q.part *ℤ p.whole) -ℤ (p.part *ℤ q.whole)) _ _ _ _ _ _ _ _ _ hf
        (gap_of_at_most _ _ before) (gap_of_at_most _ _ after) hd
        (values i j p.whole p.part q.whole q.part s.x1 s.x2) (values i j p.whole p.part q.whole q.part s.y1 s.y2) (weights i j p.whole p.part q.whole q.part)
        (place_near far s p t hp h) (place_near far s q t hq k)

    together : is_within far s p t ≡ true → ((q.part *ℤ p.whole) -ℤ (p.part *ℤ q.whole)) ≤ℤ pos 0 → IsNear t
    together h hd =
        mixed far t (i +ℤ j) (pos 0) p.whole _ _ _ _ _ _ _ _ _ hf (at_most_of_less _ _ hw) zero_least hp
        (alone_value i j p.whole p.part s.x1 s.x2 same) (alone_value i j p.whole p.part s.y1 s.y2 same) (alone (i +ℤ j) p.whole)
        (place_near far s p t hp h) (place_near far s p t hp h)
      where
        none : ((j *ℤ p.whole) -ℤ (p.part *ℤ (i +ℤ j))) *ℤ q.whole ≡ pos 0
        none =
            second_none (((q.part *ℤ (i +ℤ j)) -ℤ (j *ℤ q.whole)) *ℤ p.whole) (((j *ℤ p.whole) -ℤ (p.part *ℤ (i +ℤ j))) *ℤ q.whole) _
            (weights i j p.whole p.part q.whole q.part)
            (mul_nonneg _ p.whole (gap_of_at_most _ _ before) (at_most_of_less _ _ hp)) (mul_nonneg _ q.whole (gap_of_at_most _ _ after) (at_most_of_less _ _ hq))
            (subst (λ (z : ℤ). z ≤ℤ pos 0) (mul_comm (i +ℤ j) ((q.part *ℤ p.whole) -ℤ (p.part *ℤ q.whole))) (mul_nonpos (i +ℤ j) _ hw hd))

        same : j *ℤ p.whole ≡ p.part *ℤ (i +ℤ j)
        same = same_of_none _ _ (zero_of_mul q.whole _ hq (mul_comm q.whole _ ∙ none))

    between : is_reached far s p q t ≡ true → IsNear t
    between h =
        let first = both_left (is_within far s p t) (is_within far s q t) h in
        let second = both_right (is_within far s p t) (is_within far s q t) h in
        by_lt_z (pos 0) ((q.part *ℤ p.whole) -ℤ (p.part *ℤ q.whole)) (apart first second) (together first)

  from_place : (near : List Leg) (p : Place) (qs : List Place) → pos 0 <ℤ p.whole → ArePlaces qs → is_covered_from far s near p qs ≡ true → (p.part *ℤ (i +ℤ j)) ≤ℤ (j *ℤ p.whole) → SomeLeg IsNear near
  from_place near p [] hp hqs h after =
      some_leg IsNear (is_reached far s p whole_place) (λ t e. between p whole_place hp one_more after (to_end i j hi) t e) near h
  from_place near p (q ∷ qs) hp hqs h after =
      let first = both_left (list_any (is_reached far s p q) near) (is_covered_from far s near q qs) h in
      let rest = both_right (list_any (is_reached far s p q) near) (is_covered_from far s near q qs) h in
      by_lt_z (q.part *ℤ (i +ℤ j)) (j *ℤ q.whole)
      (λ less. from_place near q qs hqs.0.positive hqs.1 rest (at_most_of_less _ _ less))
      (λ most. some_leg IsNear (is_reached far s p q) (λ t e. between p q hp hqs.0.positive after most t e) near first)

  pub point_near : (near : List Leg) → is_covered_by far s near ≡ true → SomeLeg IsNear near
  point_near near h = from_place near (record { part = pos 0; whole = pos 1 }) (places s near) one_more (are_places s near) h (from_start (i +ℤ j) j hj)

pub each_point : (far : ℤ) → pos 0 ≤ℤ far → (others : List Leg) (s : Leg) → is_covered far others s ≡ true → EachPointNear far others s
each_point far hf others s h i j hi hj hw =
    unfiltered (IsPointNear far ((i *ℤ s.x1) +ℤ (j *ℤ s.x2)) ((i *ℤ s.y1) +ℤ (j *ℤ s.y2)) (i +ℤ j)) (may_cover far s) others
    (point_near far hf s i j hi hj hw (filter (may_cover far s) others) (both_right (are_few (filter (may_cover far s) others)) (is_covered_by far s (filter (may_cover far s) others)) h))

-- of each leg that is covered
pub each_covered : (far : ℤ) → pos 0 ≤ℤ far → (others legs : List Leg) → covers far others legs ≡ true → EachLeg (EachPointNear far others) legs
each_covered far hf others legs h = each_leg (EachPointNear far others) (is_covered far others) (λ s e. each_point far hf others s e) legs h
