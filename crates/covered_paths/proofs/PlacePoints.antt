-- A place of a leg that is within the distance of another leg, as a point near that leg.
use Rattle.std.proofs.Common.{◌≡◌, ◌⊎◌, inl, inr, true, [], ◌∷◌, refl, arith}
use Rattle.std.specs.Prelude.{ℤ, pos, ◌+ℤ◌, ◌-ℤ◌, ◌*ℤ◌, ◌<ℤ◌, ◌≤ℤ◌, ◌&&◌, ◌||◌}
use Rattle.std.specs.Int.Signed.{lt_z}
use Rattle.std.proofs.lemmas.Int.{ints}
use Rattle.integers.proofs.Comparisons.{at_most_by, at_most_of_less, gap_of_at_most, not_negative_of_positive, positive_of_more, sum_not_negative}
use Rattle.integers.proofs.Ring.{var, con, ◌⊕◌, ◌⊖◌, ◌⊗◌, ring}
use Rattle.integers.proofs.Signs.{mul_nonneg, pos_of_mul, square_nonneg}
use Rattle.covered_paths.specs.Points.{IsPointNear}
use Rattle.covered_paths.specs.Within.{across, ahead, aside, down, gap_across, gap_down, is_beside, is_foot, is_near, is_within, long}
use Rattle.covered_paths.specs.declared.legs.Leg.{Leg}
use Rattle.covered_paths.specs.declared.legs.Place.{Place}
use Rattle.covered_paths.proofs.Short.{IsShort, short_same}
use Rattle.covered_paths.proofs.Truths.{at_most_is, both_left, both_right, either, less_is}

-- how far to the right and down a place is, times its whole
abbrev pub place_x : Leg → Place → ℤ
place_x s p = (p.whole *ℤ s.x1) +ℤ (p.part *ℤ (s.x2 -ℤ s.x1))

abbrev pub place_y : Leg → Place → ℤ
place_y s p = (p.whole *ℤ s.y1) +ℤ (p.part *ℤ (s.y2 -ℤ s.y1))

-- ---- near an end
once : (m : ℤ) → m +ℤ pos 0 ≡ pos 1 *ℤ m
once m = omega (arith, ints)

once_more : (m : ℤ) → pos 0 +ℤ m ≡ pos 1 *ℤ m
once_more m = omega (arith, ints)

far_once : (far m : ℤ) → far *ℤ m ≡ far *ℤ (pos 1 *ℤ m)
far_once far m = ring (far ∷ m ∷ []) (var 0 ⊗ var 1) (var 0 ⊗ (con (pos 1) ⊗ var 1)) refl

to_first : (m n a b x u : ℤ) → (m *ℤ (a -ℤ x)) +ℤ (n *ℤ (b -ℤ a)) ≡ (pos 1 *ℤ ((m *ℤ a) +ℤ (n *ℤ (b -ℤ a)))) -ℤ ((m *ℤ x) +ℤ (pos 0 *ℤ u))
to_first m n a b x u =
    ring (m ∷ n ∷ a ∷ b ∷ x ∷ u ∷ [])
    ((var 0 ⊗ (var 2 ⊖ var 4)) ⊕ (var 1 ⊗ (var 3 ⊖ var 2)))
    ((con (pos 1) ⊗ ((var 0 ⊗ var 2) ⊕ (var 1 ⊗ (var 3 ⊖ var 2)))) ⊖ ((var 0 ⊗ var 4) ⊕ (con (pos 0) ⊗ var 5))) refl

to_second : (m n a b x u : ℤ) → (m *ℤ (a -ℤ u)) +ℤ (n *ℤ (b -ℤ a)) ≡ (pos 1 *ℤ ((m *ℤ a) +ℤ (n *ℤ (b -ℤ a)))) -ℤ ((pos 0 *ℤ x) +ℤ (m *ℤ u))
to_second m n a b x u =
    ring (m ∷ n ∷ a ∷ b ∷ x ∷ u ∷ [])
    ((var 0 ⊗ (var 2 ⊖ var 5)) ⊕ (var 1 ⊗ (var 3 ⊖ var 2)))
    ((con (pos 1) ⊗ ((var 0 ⊗ var 2) ⊕ (var 1 ⊗ (var 3 ⊖ var 2)))) ⊖ ((con (pos 0) ⊗ var 4) ⊕ (var 0 ⊗ var 5))) refl

zero_there : pos 0 ≤ℤ pos 0
zero_there = omega (arith, ints)

one_there : pos 0 <ℤ pos 1
one_there = omega (arith, ints)

-- ---- near a foot
-- with L = u u + v v, A = g u + h v and S = g v - h u
foot_x : (m n a b x c v h : ℤ)
    → v *ℤ ((((m *ℤ (a -ℤ x)) +ℤ (n *ℤ (b -ℤ a))) *ℤ v) -ℤ (h *ℤ (c -ℤ x)))
    ≡ ((((c -ℤ x) *ℤ (c -ℤ x)) +ℤ (v *ℤ v)) *ℤ ((m *ℤ a) +ℤ (n *ℤ (b -ℤ a))))
    -ℤ ((((m *ℤ (((c -ℤ x) *ℤ (c -ℤ x)) +ℤ (v *ℤ v))) -ℤ ((((m *ℤ (a -ℤ x)) +ℤ (n *ℤ (b -ℤ a))) *ℤ (c -ℤ x)) +ℤ (h *ℤ v))) *ℤ x)
    +ℤ (((((m *ℤ (a -ℤ x)) +ℤ (n *ℤ (b -ℤ a))) *ℤ (c -ℤ x)) +ℤ (h *ℤ v)) *ℤ c))
foot_x m n a b x c v h =
    let G = (var 0 ⊗ (var 2 ⊖ var 4)) ⊕ (var 1 ⊗ (var 3 ⊖ var 2)) in
    let U = var 5 ⊖ var 4 in
    let L = (U ⊗ U) ⊕ (var 6 ⊗ var 6) in
    let A = (G ⊗ U) ⊕ (var 7 ⊗ var 6) in
    ring (m ∷ n ∷ a ∷ b ∷ x ∷ c ∷ v ∷ h ∷ [])
    (var 6 ⊗ ((G ⊗ var 6) ⊖ (var 7 ⊗ U)))
    ((L ⊗ ((var 0 ⊗ var 2) ⊕ (var 1 ⊗ (var 3 ⊖ var 2)))) ⊖ ((((var 0 ⊗ L) ⊖ A) ⊗ var 4) ⊕ (A ⊗ var 5))) refl

foot_y : (m n a b y c u g : ℤ)
    → (pos 0 -ℤ u) *ℤ ((g *ℤ (c -ℤ y)) -ℤ (((m *ℤ (a -ℤ y)) +ℤ (n *ℤ (b -ℤ a))) *ℤ u))
    ≡ (((u *ℤ u) +ℤ ((c -ℤ y) *ℤ (c -ℤ y))) *ℤ ((m *ℤ a) +ℤ (n *ℤ (b -ℤ a))))
    -ℤ ((((m *ℤ ((u *ℤ u) +ℤ ((c -ℤ y) *ℤ (c -ℤ y)))) -ℤ ((g *ℤ u) +ℤ (((m *ℤ (a -ℤ y)) +ℤ (n *ℤ (b -ℤ a))) *ℤ (c -ℤ y)))) *ℤ y)
    +ℤ (((g *ℤ u) +ℤ (((m *ℤ (a -ℤ y)) +ℤ (n *ℤ (b -ℤ a))) *ℤ (c -ℤ y))) *ℤ c))
foot_y m n a b y c u g =
    let H = (var 0 ⊗ (var 2 ⊖ var 4)) ⊕ (var 1 ⊗ (var 3 ⊖ var 2)) in
    let V = var 5 ⊖ var 4 in
    let L = (var 6 ⊗ var 6) ⊕ (V ⊗ V) in
    let A = (var 7 ⊗ var 6) ⊕ (H ⊗ V) in
    ring (m ∷ n ∷ a ∷ b ∷ y ∷ c ∷ u ∷ g ∷ [])
    ((con (pos 0) ⊖ var 6) ⊗ ((var 7 ⊗ V) ⊖ (H ⊗ var 6)))
    ((L ⊗ ((var 0 ⊗ var 2) ⊕ (var 1 ⊗ (var 3 ⊖ var 2)))) ⊖ ((((var 0 ⊗ L) ⊖ A) ⊗ var 4) ⊕ (A ⊗ var 5))) refl

-- the way from the foot is upright, and as long as S
foot_short : (far m u v s : ℤ) → (s *ℤ s) ≤ℤ (((far *ℤ m) *ℤ (far *ℤ m)) *ℤ ((u *ℤ u) +ℤ (v *ℤ v)))
    → IsShort (far *ℤ (((u *ℤ u) +ℤ (v *ℤ v)) *ℤ m)) (v *ℤ s) ((pos 0 -ℤ u) *ℤ s)
foot_short far m u v s h =
    at_most_by (((v *ℤ s) *ℤ (v *ℤ s)) +ℤ (((pos 0 -ℤ u) *ℤ s) *ℤ ((pos 0 -ℤ u) *ℤ s)))
    ((far *ℤ (((u *ℤ u) +ℤ (v *ℤ v)) *ℤ m)) *ℤ (far *ℤ (((u *ℤ u) +ℤ (v *ℤ v)) *ℤ m)))
    (((u *ℤ u) +ℤ (v *ℤ v)) *ℤ ((((far *ℤ m) *ℤ (far *ℤ m)) *ℤ ((u *ℤ u) +ℤ (v *ℤ v))) -ℤ (s *ℤ s)))
    (ring (far ∷ m ∷ u ∷ v ∷ s ∷ [])
    (((var 0 ⊗ (((var 2 ⊗ var 2) ⊕ (var 3 ⊗ var 3)) ⊗ var 1)) ⊗ (var 0 ⊗ (((var 2 ⊗ var 2) ⊕ (var 3 ⊗ var 3)) ⊗ var 1)))
    ⊖ (((var 3 ⊗ var 4) ⊗ (var 3 ⊗ var 4)) ⊕ (((con (pos 0) ⊖ var 2) ⊗ var 4) ⊗ ((con (pos 0) ⊖ var 2) ⊗ var 4))))
    (((var 2 ⊗ var 2) ⊕ (var 3 ⊗ var 3)) ⊗ ((((var 0 ⊗ var 1) ⊗ (var 0 ⊗ var 1)) ⊗ ((var 2 ⊗ var 2) ⊕ (var 3 ⊗ var 3))) ⊖ (var 4 ⊗ var 4))) refl)
    (mul_nonneg _ _ (sum_not_negative _ _ (square_nonneg u) (square_nonneg v)) (gap_of_at_most _ _ h))

whole_of : (m l a : ℤ) → ((m *ℤ l) -ℤ a) +ℤ a ≡ l *ℤ m
whole_of m l a = ring (m ∷ l ∷ a ∷ []) (((var 0 ⊗ var 1) ⊖ var 2) ⊕ var 2) (var 1 ⊗ var 0) refl

-- ---- the three cases
module _ (far : ℤ) (s : Leg) (p : Place) (t : Leg) (hm : pos 0 <ℤ p.whole) where
  abbrev IsPlaceNear : Type 0
  IsPlaceNear = IsPointNear far (place_x s p) (place_y s p) p.whole t

  by_first : is_near far s p t.x1 t.y1 ≡ true → IsPlaceNear
  unfolding is_near
  by_first h = record {
    scale = pos 1;
    positive = one_there;
    at = record {
      i = p.whole;
      j = pos 0;
      first = not_negative_of_positive p.whole hm;
      second = zero_there;
      sum = once p.whole;
      near = short_same _ _ _ _ _ _ (far_once far p.whole) (to_first p.whole p.part s.x1 s.x2 t.x1 t.x2) (to_first p.whole p.part s.y1 s.y2 t.y1 t.y2) (at_most_is _ _ h);
    };
  }

  by_second : is_near far s p t.x2 t.y2 ≡ true → IsPlaceNear
  unfolding is_near
  by_second h = record {
    scale = pos 1;
    positive = one_there;
    at = record {
      i = pos 0;
      j = p.whole;
      first = zero_there;
      second = not_negative_of_positive p.whole hm;
      sum = once_more p.whole;
      near = short_same _ _ _ _ _ _ (far_once far p.whole) (to_second p.whole p.part s.x1 s.x2 t.x1 t.x2) (to_second p.whole p.part s.y1 s.y2 t.y1 t.y2) (at_most_is _ _ h);
    };
  }

  by_foot : is_foot s p t ≡ true → is_beside far s p t ≡ true → IsPlaceNear
  unfolding is_foot is_beside
  by_foot h k =
      let first = less_is (pos 0) (ahead s p t) (both_left (lt_z (pos 0) (ahead s p t)) (lt_z (ahead s p t) (p.whole *ℤ long t)) h) in
      let second = less_is (ahead s p t) (p.whole *ℤ long t) (both_right (lt_z (pos 0) (ahead s p t)) (lt_z (ahead s p t) (p.whole *ℤ long t)) h) in
      record {
        scale = long t;
        positive = pos_of_mul p.whole (long t) hm (positive_of_more (ahead s p t) (p.whole *ℤ long t) first second);
        at = record {
          i = (p.whole *ℤ long t) -ℤ ahead s p t;
          j = ahead s p t;
          first = gap_of_at_most _ _ (at_most_of_less _ _ second);
          second = at_most_of_less _ _ first;
          sum = whole_of p.whole (long t) (ahead s p t);
          near = short_same _ _ _ _ _ _ refl (foot_x p.whole p.part s.x1 s.x2 t.x1 t.x2 (down t) (gap_down s p t.y1)) (foot_y p.whole p.part s.y1 s.y2 t.y1 t.y2 (across t) (gap_across s p t.x1))
              (foot_short far p.whole (across t) (down t) (aside s p t) (at_most_is _ _ k));
        };
      }

  pub place_near : is_within far s p t ≡ true → IsPlaceNear
  unfolding is_within
  place_near h = by (either (is_near far s p t.x1 t.y1) (is_near far s p t.x2 t.y2 || (is_foot s p t && is_beside far s p t)) h)
    where
      later : (is_near far s p t.x2 t.y2 ≡ true) ⊎ ((is_foot s p t && is_beside far s p t) ≡ true) → IsPlaceNear
      later (inl e) = by_second e
      later (inr e) = by_foot (both_left (is_foot s p t) (is_beside far s p t) e) (both_right (is_foot s p t) (is_beside far s p t) e)

      by : (is_near far s p t.x1 t.y1 ≡ true) ⊎ ((is_near far s p t.x2 t.y2 || (is_foot s p t && is_beside far s p t)) ≡ true) → IsPlaceNear
      by (inl e) = by_first e
      by (inr e) = later (either (is_near far s p t.x2 t.y2) (is_foot s p t && is_beside far s p t) e)
