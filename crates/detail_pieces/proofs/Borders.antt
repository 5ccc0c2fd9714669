-- How far points are over the border of a half plane: along a line of sight, and at sums of two spots.
use Rattle.std.proofs.Common.{◌≡◌, ◌⊎◌, inl, inr, ℕ, zero, suc, [], ◌∷◌, refl, sym, ap, ◌∙◌, ◌+◌, ◌<◌, arith}
use Rattle.std.specs.Prelude.{ℤ, pos, ◌+ℤ◌, ◌-ℤ◌, ◌*ℤ◌, ◌<ℤ◌, ◌≤ℤ◌}
use Rattle.std.proofs.lemmas.Int.{ints}
use Rattle.integers.proofs.Comparisons.{not_negative_at, not_negative_of_positive, sum_not_negative, less_not_at_most}
use Rattle.integers.proofs.Absolutes.{natural_not_negative}
use Rattle.integers.proofs.Ring.{var, con, ◌⊕◌, ◌⊖◌, ◌⊗◌, ring, by_one, mul_comm}
use Rattle.integers.proofs.Signs.{mul_neg, mul_nonneg, nonneg_of_mul}
use Rattle.integers.proofs.Weighted.{at_second}
use Rattle.lattice.specs.declared.points.Spot.{Spot}
use Rattle.lattice.specs.Triple.{Triple, dot, right_axis, up_axis}
use Rattle.lattice.specs.Points.{Point, IsPoint, of_spot, scaled, OnOneSight}
use Rattle.lattice.proofs.OnLines.{product_of_sum}
use Rattle.geometry.specs.Pieces.{spot_sum, LiesBetween}
use Rattle.geometry.proofs.OnLines.{sum_is_point}
use Rattle.geometry.proofs.Sights.{sight_back, sight_on}
use Rattle.line_merge.proofs.Given.{between_turned}
use Rattle.detail_pieces.specs.declared.sides.Bound.{Bound}
use Rattle.detail_pieces.specs.declared.sides.Bound.TheVariants.{Least, Most}
use Rattle.detail_pieces.specs.declared.sides.Side.{Side}
use Rattle.detail_pieces.specs.declared.sides.ViewAxis.{ViewAxis}
use Rattle.detail_pieces.specs.declared.sides.ViewAxis.TheVariants.{Across, Upward}
use Rattle.detail_pieces.specs.inner.Sides.{seen_of, over_by, over_of, AreOnePlace}

-- how far the point is over a border on which U, or V, is k
abbrev pub over_border : Triple → Bound → ViewAxis → ℤ → Point → ℤ
over_border d bound axis k p = over_by bound (seen_of d axis p) (k *ℤ p.w)

-- ---- along a line of sight
seen_same : (d : Triple) (axis : ViewAxis) (p q : Point) → OnOneSight d p q → seen_of d axis p *ℤ q.w ≡ seen_of d axis q *ℤ p.w
seen_same d Upward p q h = h.upward
seen_same d Across p q h = h.across

pub over_by_same : (bound : Bound) (k s w t v : ℤ) → s *ℤ v ≡ t *ℤ w → over_by bound s (k *ℤ w) *ℤ v ≡ over_by bound t (k *ℤ v) *ℤ w
over_by_same Least k s w t v e = by_one _ _ (s *ℤ v) (t *ℤ w) (pos 1)
    (ring (k ∷ s ∷ w ∷ t ∷ v ∷ []) (((var 1 ⊖ (var 0 ⊗ var 2)) ⊗ var 4) ⊖ ((var 3 ⊖ (var 0 ⊗ var 4)) ⊗ var 2)) (((var 1 ⊗ var 4) ⊖ (var 3 ⊗ var 2)) ⊗ con (pos 1)) refl) e
over_by_same Most k s w t v e = by_one _ _ (s *ℤ v) (t *ℤ w) (pos 0 -ℤ pos 1)
    (ring (k ∷ s ∷ w ∷ t ∷ v ∷ []) ((((var 0 ⊗ var 2) ⊖ var 1) ⊗ var 4) ⊖ (((var 0 ⊗ var 4) ⊖ var 3) ⊗ var 2)) (((var 1 ⊗ var 4) ⊖ (var 3 ⊗ var 2)) ⊗ (con (pos 0) ⊖ con (pos 1))) refl) e

pub over_same : (d : Triple) (h : Side) (p q : Point) → OnOneSight d p q → over_of d h p *ℤ q.w ≡ over_of d h q *ℤ p.w
over_same d h p q k = over_by_same h.bound h.at (seen_of d h.axis p) p.w (seen_of d h.axis q) q.w (seen_same d h.axis p q k)

-- ---- sums
seen_sum : (d : Triple) (axis : ViewAxis) (a b : Spot) (i j : ℕ) → seen_of d axis (spot_sum a b i j) ≡ (pos i *ℤ seen_of d axis (of_spot a)) +ℤ (pos j *ℤ seen_of d axis (of_spot b))
seen_sum d Upward a b i j = product_of_sum (up_axis d) (pos i) (pos j) (of_spot a) (of_spot b)
seen_sum d Across a b i j = product_of_sum (right_axis d) (pos i) (pos j) (of_spot a) (of_spot b)

over_by_sum : (bound : Bound) (k i j s t w v : ℤ) → over_by bound ((i *ℤ s) +ℤ (j *ℤ t)) (k *ℤ ((i *ℤ w) +ℤ (j *ℤ v))) ≡ (i *ℤ over_by bound s (k *ℤ w)) +ℤ (j *ℤ over_by bound t (k *ℤ v))
over_by_sum Least k i j s t w v =
    ring (k ∷ i ∷ j ∷ s ∷ t ∷ w ∷ v ∷ []) (((var 1 ⊗ var 3) ⊕ (var 2 ⊗ var 4)) ⊖ (var 0 ⊗ ((var 1 ⊗ var 5) ⊕ (var 2 ⊗ var 6)))) ((var 1 ⊗ (var 3 ⊖ (var 0 ⊗ var 5))) ⊕ (var 2 ⊗ (var 4 ⊖ (var 0 ⊗ var 6)))) refl
over_by_sum Most k i j s t w v =
    ring (k ∷ i ∷ j ∷ s ∷ t ∷ w ∷ v ∷ []) ((var 0 ⊗ ((var 1 ⊗ var 5) ⊕ (var 2 ⊗ var 6))) ⊖ ((var 1 ⊗ var 3) ⊕ (var 2 ⊗ var 4))) ((var 1 ⊗ ((var 0 ⊗ var 5) ⊖ var 3)) ⊕ (var 2 ⊗ ((var 0 ⊗ var 6) ⊖ var 4))) refl

pub border_sum : (d : Triple) (bound : Bound) (axis : ViewAxis) (k : ℤ) (a b : Spot) (i j : ℕ)
    → over_border d bound axis k (spot_sum a b i j) ≡ (pos i *ℤ over_border d bound axis k (of_spot a)) +ℤ (pos j *ℤ over_border d bound axis k (of_spot b))
border_sum d bound axis k a b i j =
    ap (λ (x : ℤ). over_by bound x (k *ℤ ((pos i *ℤ a.w) +ℤ (pos j *ℤ b.w)))) (seen_sum d axis a b i j)
    ∙ over_by_sum bound k (pos i) (pos j) (seen_of d axis (of_spot a)) (seen_of d axis (of_spot b)) a.w b.w

pub over_sum : (d : Triple) (h : Side) (a b : Spot) (i j : ℕ) → over_of d h (spot_sum a b i j) ≡ (pos i *ℤ over_of d h (of_spot a)) +ℤ (pos j *ℤ over_of d h (of_spot b))
over_sum d h a b i j = border_sum d h.bound h.axis h.at a b i j

-- ---- signs along a line of sight
pub border_along : (d : Triple) (bound : Bound) (axis : ViewAxis) (k : ℤ) (p q : Point) → IsPoint p → IsPoint q → OnOneSight d p q
    → pos 0 ≤ℤ over_border d bound axis k p → pos 0 ≤ℤ over_border d bound axis k q
border_along d bound axis k p q hp hq same h =
    nonneg_of_mul p.w (over_border d bound axis k q) hp
    (not_negative_at _ _ (mul_comm p.w (over_border d bound axis k q) ∙ sym (over_by_same bound k (seen_of d axis p) p.w (seen_of d axis q) q.w (seen_same d axis p q same)))
    (mul_nonneg (over_border d bound axis k p) q.w h (not_negative_of_positive q.w hq)))

pub not_negative_along : (d : Triple) (h : Side) (p q : Point) → IsPoint p → IsPoint q → OnOneSight d p q → pos 0 ≤ℤ over_of d h p → pos 0 ≤ℤ over_of d h q
not_negative_along d h p q hp hq same k = border_along d h.bound h.axis h.at p q hp hq same k

pub not_positive_along : (d : Triple) (h : Side) (p q : Point) → IsPoint p → IsPoint q → OnOneSight d p q → over_of d h p ≤ℤ pos 0 → over_of d h q ≤ℤ pos 0
not_positive_along d h p q hp hq same k = go (over_of d h p) (over_of d h q) p.w q.w hp hq (over_same d h p q same) k
  where
    back : (f : ℤ) → f ≤ℤ pos 0 → pos 0 ≤ℤ (pos 0 -ℤ f)
    back f h = omega (arith, ints)

    forth : (f : ℤ) → pos 0 ≤ℤ (pos 0 -ℤ f) → f ≤ℤ pos 0
    forth f h = omega (arith, ints)

    go : (f g w v : ℤ) → pos 0 <ℤ w → pos 0 <ℤ v → f *ℤ v ≡ g *ℤ w → f ≤ℤ pos 0 → g ≤ℤ pos 0
    go f g w v hw hv e k = forth g (nonneg_of_mul w (pos 0 -ℤ g) hw
        (not_negative_at _ _ (by_one (w *ℤ (pos 0 -ℤ g)) ((pos 0 -ℤ f) *ℤ v) (f *ℤ v) (g *ℤ w) (pos 1)
        (ring (f ∷ g ∷ w ∷ v ∷ []) ((var 2 ⊗ (con (pos 0) ⊖ var 1)) ⊖ ((con (pos 0) ⊖ var 0) ⊗ var 3)) (((var 0 ⊗ var 3) ⊖ (var 1 ⊗ var 2)) ⊗ con (pos 1)) refl) e)
        (mul_nonneg (pos 0 -ℤ f) v (back f k) (not_negative_of_positive v hv))))

module _ (d : Triple) (h : Side) (a b : Spot) (p : Point) (hp : IsPoint p) where
  -- between two spots that are not outside nothing is
  pub not_outside : pos 0 ≤ℤ over_of d h (of_spot a) → pos 0 ≤ℤ over_of d h (of_spot b) → LiesBetween d a b p → pos 0 ≤ℤ over_of d h p
  not_outside ha hb (i, j, some, same) =
      not_negative_along d h (spot_sum a b i j) p (sum_is_point a b i j some) hp same
      (not_negative_at _ _ (over_sum d h a b i j) (sum_not_negative _ _ (mul_nonneg (pos i) _ (natural_not_negative i) ha) (mul_nonneg (pos j) _ (natural_not_negative j) hb)))

  -- between two that are not inside nothing is
  pub not_inside : over_of d h (of_spot a) ≤ℤ pos 0 → over_of d h (of_spot b) ≤ℤ pos 0 → LiesBetween d a b p → over_of d h p ≤ℤ pos 0
  not_inside ha hb (i, j, some, same) =
      not_positive_along d h (spot_sum a b i j) p (sum_is_point a b i j some) hp same
      (at _ _ (over_sum d h a b i j) (sum _ _ (part i _ ha) (part j _ hb)))
    where
      part : (i : ℕ) (f : ℤ) → f ≤ℤ pos 0 → (pos i *ℤ f) ≤ℤ pos 0
      part i f h =
          let k = mul_nonneg (pos i) (pos 0 -ℤ f) (natural_not_negative i) (back f h) in
          forth _ _ (ring (pos i ∷ f ∷ []) (var 0 ⊗ (con (pos 0) ⊖ var 1)) (con (pos 0) ⊖ (var 0 ⊗ var 1)) refl) k
        where
          back : (f : ℤ) → f ≤ℤ pos 0 → pos 0 ≤ℤ (pos 0 -ℤ f)
          back f h = omega (arith, ints)

          forth : (g f : ℤ) → g ≡ pos 0 -ℤ f → pos 0 ≤ℤ g → f ≤ℤ pos 0
          forth g f e h = omega (arith, ints)

      sum : (f g : ℤ) → f ≤ℤ pos 0 → g ≤ℤ pos 0 → (f +ℤ g) ≤ℤ pos 0
      sum f g h k = omega (arith, ints)

      at : (f g : ℤ) → f ≡ g → g ≤ℤ pos 0 → f ≤ℤ pos 0
      at f g e h = omega (arith, ints)

-- ---- two spots that are not inside, of which one is outside
module _ (d : Triple) (h : Side) where
  -- a sum without the first is seen where the second is
  at_last : (a b : Spot) (j : ℕ) → OnOneSight d (of_spot b) (spot_sum a b 0 j)
  at_last a b j = record { across = end (right_axis d); upward = end (up_axis d) }
    where
      end : (r : Triple) → dot r (scaled (of_spot b)) *ℤ (spot_sum a b 0 j).w ≡ dot r (scaled (spot_sum a b 0 j)) *ℤ b.w
      end r = at_second (dot r (scaled (of_spot a))) a.w (dot r (scaled (of_spot b))) b.w (pos j) ∙ ap (λ (o : ℤ). o *ℤ b.w) (sym (product_of_sum r (pos 0) (pos j) (of_spot a) (of_spot b)))

  -- what between them isn't outside is seen where the other one is
  last_place : (a b : Spot) → over_of d h (of_spot a) <ℤ pos 0 → over_of d h (of_spot b) ≤ℤ pos 0
      → (p : Point) → IsPoint p → LiesBetween d a b p → pos 0 ≤ℤ over_of d h p → OnOneSight d (of_spot b) p
  last_place a b ha hb p hp (zero, j, some, same) k = sight_on d (of_spot b) (spot_sum a b 0 j) p (sum_is_point a b 0 j some) (at_last a b j) same
  last_place a b ha hb p hp (suc i, j, some, same) k =
      absurd (less_not_at_most _ _ (negative (over_of d h (spot_sum a b (suc i) j)) _ _ (over_sum d h a b (suc i) j) (mul_neg (pos (suc i)) _ (more i) ha) (rest j (over_of d h (of_spot b)) hb))
      (not_negative_along d h p (spot_sum a b (suc i) j) hp (sum_is_point a b (suc i) j some) (sight_back d (spot_sum a b (suc i) j) p same) k))
    where
      more : (i : ℕ) → pos 0 <ℤ pos (suc i)
      more i = omega (arith, ints)

      negative : (f x y : ℤ) → f ≡ x +ℤ y → x <ℤ pos 0 → y ≤ℤ pos 0 → f <ℤ pos 0
      negative f x y e h k = omega (arith, ints)

      rest : (j : ℕ) (y : ℤ) → y ≤ℤ pos 0 → (pos j *ℤ y) ≤ℤ pos 0
      rest j y h = turned _ _ (ring (pos j ∷ y ∷ []) (var 0 ⊗ (con (pos 0) ⊖ var 1)) (con (pos 0) ⊖ (var 0 ⊗ var 1)) refl) (mul_nonneg (pos j) (pos 0 -ℤ y) (natural_not_negative j) (back y h))
        where
          back : (y : ℤ) → y ≤ℤ pos 0 → pos 0 ≤ℤ (pos 0 -ℤ y)
          back y h = omega (arith, ints)

          turned : (x y : ℤ) → x ≡ pos 0 -ℤ y → pos 0 ≤ℤ x → y ≤ℤ pos 0
          turned x y e h = omega (arith, ints)

  pub one_place : (a b : Spot) → over_of d h (of_spot a) ≤ℤ pos 0 → over_of d h (of_spot b) ≤ℤ pos 0 → (over_of d h (of_spot a) <ℤ pos 0) ⊎ (over_of d h (of_spot b) <ℤ pos 0)
      → AreOnePlace d (λ p. LiesBetween d a b p × (pos 0 ≤ℤ over_of d h p))
  one_place a b ha hb (inl less) p q hp hq k l =
      sight_on d p (of_spot b) q b.positive (sight_back d (of_spot b) p (last_place a b less hb p hp k.0 k.1)) (last_place a b less hb q hq l.0 l.1)
  one_place a b ha hb (inr less) p q hp hq k l =
      sight_on d p (of_spot a) q a.positive (sight_back d (of_spot a) p (last_place b a less ha p hp (between_turned d a b p k.0) k.1))
      (last_place b a less ha q hq (between_turned d a b q l.0) l.1)
