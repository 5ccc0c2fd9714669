-- A strip whose end outside of a half plane is put where it meets the border: what lies on it, and its ends.
use Rattle.std.proofs.Common.{◌≡◌, ℕ, zero, suc, [], ◌∷◌, refl, sym, ap, ◌∙◌, ◌+◌, ◌<◌, unsigned_abs, arith}
use Rattle.std.specs.Prelude.{ℤ, pos, negsuc, ◌+ℤ◌, ◌-ℤ◌, ◌*ℤ◌, ◌<ℤ◌, ◌≤ℤ◌, ◌↔◌}
use Rattle.std.proofs.lemmas.Int.{ints}
use Rattle.integers.proofs.Absolutes.{abs_of_positive, abs_of_negative, natural_not_negative}
use Rattle.integers.proofs.Comparisons.{not_negative_at, not_negative_of_positive, positive_at, positive_not_zero, sum_not_negative, zero_times}
use Rattle.integers.proofs.Orders.{same_of_products}
use Rattle.integers.proofs.Ring.{var, con, ◌⊕◌, ◌⊖◌, ◌⊗◌, ring, by_two}
use Rattle.integers.proofs.Signs.{mul_nonneg, mul_pos}
use Rattle.integers.proofs.Weighted.{sum_pos}
use Rattle.lattice.specs.declared.points.Spot.{Spot}
use Rattle.lattice.specs.declared.lines.Line.{Line}
use Rattle.lattice.specs.Triple.{Triple, dot, right_axis, up_axis}
use Rattle.lattice.specs.Points.{Point, IsPoint, of_spot, scaled, OnOneSight}
use Rattle.lattice.specs.Lines.{IsOnLine, AreStripEnds}
use Rattle.lattice.proofs.OnLines.{product_of_sum, on_line_of_sight}
use Rattle.geometry.specs.Pieces.{spot_sum, LiesBetween}
use Rattle.geometry.proofs.OnLines.{sum_is_point}
use Rattle.geometry.proofs.Sights.{sight_back}
use Rattle.detail_pieces.specs.declared.sides.Side.{Side}
use Rattle.detail_pieces.specs.inner.Sides.{over_of, meeting_of}
use Rattle.detail_pieces.proofs.Borders.{over_same, over_sum, not_negative_along, not_outside}
use Rattle.detail_pieces.proofs.Meetings.{meets, meeting_is_point, meeting_on_line}

-- ---- sums of two spots along an axis
-- p is seen with the sum of a and b with these weights, along the axis r
abbrev IsSumAlong : Triple → Spot → Spot → ℤ → ℤ → Point → Type 0
IsSumAlong r a b i j p = ((i *ℤ dot r (scaled (of_spot a))) +ℤ (j *ℤ dot r (scaled (of_spot b)))) *ℤ p.w ≡ dot r (scaled p) *ℤ ((i *ℤ a.w) +ℤ (j *ℤ b.w))

sum_along : (r : Triple) (a b : Spot) (i j : ℕ) (p : Point) → dot r (scaled (spot_sum a b i j)) *ℤ p.w ≡ dot r (scaled p) *ℤ (spot_sum a b i j).w → IsSumAlong r a b (pos i) (pos j) p
sum_along r a b i j p e = ap (λ (x : ℤ). x *ℤ p.w) (sym (product_of_sum r (pos i) (pos j) (of_spot a) (of_spot b))) ∙ e

along_sum : (r : Triple) (a b : Spot) (i j : ℕ) (p : Point) → IsSumAlong r a b (pos i) (pos j) p → dot r (scaled (spot_sum a b i j)) *ℤ p.w ≡ dot r (scaled p) *ℤ (spot_sum a b i j).w
along_sum r a b i j p e = ap (λ (x : ℤ). x *ℤ p.w) (product_of_sum r (pos i) (pos j) (of_spot a) (of_spot b)) ∙ e

-- with whole weights of at least 0, not both 0
lies_by : (d : Triple) (a b : Spot) (p : Point) (i j : ℤ) → pos 0 ≤ℤ i → pos 0 ≤ℤ j → pos 0 <ℤ (i +ℤ j) → IsSumAlong (right_axis d) a b i j p → IsSumAlong (up_axis d) a b i j p → LiesBetween d a b p
lies_by d a b p (pos i) (pos j) hi hj some e f = (i, j, natural i j some, record { across = along_sum (right_axis d) a b i j p e; upward = along_sum (up_axis d) a b i j p f })
  where
    natural : (i j : ℕ) → pos 0 <ℤ (pos i +ℤ pos j) → 0 < i + j
    natural i j h = omega (arith, ints)
lies_by d a b p (pos i) (negsuc j) hi hj some e f = absurd (omega (arith, ints, hj))
lies_by d a b p (negsuc i) j hi hj some e f = absurd (omega (arith, ints, hi))

-- the two spots exchanged
pub between_back : (d : Triple) (a b : Spot) (p : Point) → LiesBetween d a b p → LiesBetween d b a p
between_back d a b p (i, j, some, same) =
    lies_by d b a p (pos j) (pos i) (natural_not_negative j) (natural_not_negative i) (sum i j some)
    (turned (right_axis d) (sum_along (right_axis d) a b i j p same.across)) (turned (up_axis d) (sum_along (up_axis d) a b i j p same.upward))
  where
    sum : (i j : ℕ) → 0 < i + j → pos 0 <ℤ (pos j +ℤ pos i)
    sum i j h = omega (arith, ints)

    exchanged : (i j s t w v x y : ℤ) → ((i *ℤ s) +ℤ (j *ℤ t)) *ℤ x ≡ y *ℤ ((i *ℤ w) +ℤ (j *ℤ v)) → ((j *ℤ t) +ℤ (i *ℤ s)) *ℤ x ≡ y *ℤ ((j *ℤ v) +ℤ (i *ℤ w))
    exchanged i j s t w v x y e =
        ring (i ∷ j ∷ s ∷ t ∷ x ∷ []) (((var 1 ⊗ var 3) ⊕ (var 0 ⊗ var 2)) ⊗ var 4) (((var 0 ⊗ var 2) ⊕ (var 1 ⊗ var 3)) ⊗ var 4) refl
        ∙ e ∙ ring (i ∷ j ∷ w ∷ v ∷ y ∷ []) (var 4 ⊗ ((var 0 ⊗ var 2) ⊕ (var 1 ⊗ var 3))) (var 4 ⊗ ((var 1 ⊗ var 3) ⊕ (var 0 ⊗ var 2))) refl

    turned : (r : Triple) → IsSumAlong r a b (pos i) (pos j) p → IsSumAlong r b a (pos j) (pos i) p
    turned r e = exchanged (pos i) (pos j) (dot r (scaled (of_spot a))) (dot r (scaled (of_spot b))) a.w b.w p.w (dot r (scaled p)) e

-- ---- c is a sum of a and b with the weights m and n: s, t and k are the products with an axis, w, v and z the divisors
-- a sum of a and c is one of a and b
widened : (m n i j s t k w v z x y : ℤ) → ((m *ℤ s) +ℤ (n *ℤ t)) *ℤ z ≡ k *ℤ ((m *ℤ w) +ℤ (n *ℤ v)) → ((i *ℤ s) +ℤ (j *ℤ k)) *ℤ x ≡ y *ℤ ((i *ℤ w) +ℤ (j *ℤ z))
    → ((((i *ℤ ((m *ℤ w) +ℤ (n *ℤ v))) +ℤ ((j *ℤ z) *ℤ m)) *ℤ s) +ℤ (((j *ℤ z) *ℤ n) *ℤ t)) *ℤ x ≡ y *ℤ ((((i *ℤ ((m *ℤ w) +ℤ (n *ℤ v))) +ℤ ((j *ℤ z) *ℤ m)) *ℤ w) +ℤ (((j *ℤ z) *ℤ n) *ℤ v))
widened m n i j s t k w v z x y e f =
    by_two _ _ (((m *ℤ s) +ℤ (n *ℤ t)) *ℤ z) (k *ℤ ((m *ℤ w) +ℤ (n *ℤ v))) (j *ℤ x) (((i *ℤ s) +ℤ (j *ℤ k)) *ℤ x) (y *ℤ ((i *ℤ w) +ℤ (j *ℤ z))) ((m *ℤ w) +ℤ (n *ℤ v))
    (ring (m ∷ n ∷ i ∷ j ∷ s ∷ t ∷ k ∷ w ∷ v ∷ z ∷ x ∷ y ∷ [])
    ((((((var 2 ⊗ ((var 0 ⊗ var 7) ⊕ (var 1 ⊗ var 8))) ⊕ ((var 3 ⊗ var 9) ⊗ var 0)) ⊗ var 4) ⊕ (((var 3 ⊗ var 9) ⊗ var 1) ⊗ var 5)) ⊗ var 10)
    ⊖ (var 11 ⊗ ((((var 2 ⊗ ((var 0 ⊗ var 7) ⊕ (var 1 ⊗ var 8))) ⊕ ((var 3 ⊗ var 9) ⊗ var 0)) ⊗ var 7) ⊕ (((var 3 ⊗ var 9) ⊗ var 1) ⊗ var 8))))
    ((((((var 0 ⊗ var 4) ⊕ (var 1 ⊗ var 5)) ⊗ var 9) ⊖ (var 6 ⊗ ((var 0 ⊗ var 7) ⊕ (var 1 ⊗ var 8)))) ⊗ (var 3 ⊗ var 10))
    ⊕ (((((var 2 ⊗ var 4) ⊕ (var 3 ⊗ var 6)) ⊗ var 10) ⊖ (var 11 ⊗ ((var 2 ⊗ var 7) ⊕ (var 3 ⊗ var 9)))) ⊗ ((var 0 ⊗ var 7) ⊕ (var 1 ⊗ var 8)))) refl) e f

-- a sum of a and b is one of a and c
narrowed : (m n i j s t k w v z x y : ℤ) → ((m *ℤ s) +ℤ (n *ℤ t)) *ℤ z ≡ k *ℤ ((m *ℤ w) +ℤ (n *ℤ v)) → ((i *ℤ s) +ℤ (j *ℤ t)) *ℤ x ≡ y *ℤ ((i *ℤ w) +ℤ (j *ℤ v))
    → (((((i *ℤ n) -ℤ (j *ℤ m)) *ℤ z) *ℤ s) +ℤ ((j *ℤ ((m *ℤ w) +ℤ (n *ℤ v))) *ℤ k)) *ℤ x ≡ y *ℤ (((((i *ℤ n) -ℤ (j *ℤ m)) *ℤ z) *ℤ w) +ℤ ((j *ℤ ((m *ℤ w) +ℤ (n *ℤ v))) *ℤ z))
narrowed m n i j s t k w v z x y e f =
    by_two _ _ (((m *ℤ s) +ℤ (n *ℤ t)) *ℤ z) (k *ℤ ((m *ℤ w) +ℤ (n *ℤ v))) (pos 0 -ℤ (j *ℤ x)) (((i *ℤ s) +ℤ (j *ℤ t)) *ℤ x) (y *ℤ ((i *ℤ w) +ℤ (j *ℤ v))) (z *ℤ n)
    (ring (m ∷ n ∷ i ∷ j ∷ s ∷ t ∷ k ∷ w ∷ v ∷ z ∷ x ∷ y ∷ [])
    (((((((var 2 ⊗ var 1) ⊖ (var 3 ⊗ var 0)) ⊗ var 9) ⊗ var 4) ⊕ ((var 3 ⊗ ((var 0 ⊗ var 7) ⊕ (var 1 ⊗ var 8))) ⊗ var 6)) ⊗ var 10)
    ⊖ (var 11 ⊗ (((((var 2 ⊗ var 1) ⊖ (var 3 ⊗ var 0)) ⊗ var 9) ⊗ var 7) ⊕ ((var 3 ⊗ ((var 0 ⊗ var 7) ⊕ (var 1 ⊗ var 8))) ⊗ var 9))))
    ((((((var 0 ⊗ var 4) ⊕ (var 1 ⊗ var 5)) ⊗ var 9) ⊖ (var 6 ⊗ ((var 0 ⊗ var 7) ⊕ (var 1 ⊗ var 8)))) ⊗ (con (pos 0) ⊖ (var 3 ⊗ var 10)))
    ⊕ (((((var 2 ⊗ var 4) ⊕ (var 3 ⊗ var 5)) ⊗ var 10) ⊖ (var 11 ⊗ ((var 2 ⊗ var 7) ⊕ (var 3 ⊗ var 8)))) ⊗ (var 9 ⊗ var 1))) refl) e f

-- the weights are positive
widened_some : (m n w z : ℤ) (i j : ℕ) → pos 0 <ℤ m → pos 0 <ℤ n → pos 0 <ℤ w → pos 0 <ℤ z → 0 < i + j → pos 0 <ℤ (((pos i *ℤ w) +ℤ ((pos j *ℤ z) *ℤ m)) +ℤ ((pos j *ℤ z) *ℤ n))
widened_some m n w z i j hm hn hw hz some =
    positive_at _ _ (ring (m ∷ n ∷ w ∷ z ∷ pos i ∷ pos j ∷ []) (((var 4 ⊗ var 2) ⊕ ((var 5 ⊗ var 3) ⊗ var 0)) ⊕ ((var 5 ⊗ var 3) ⊗ var 1)) ((var 4 ⊗ var 2) ⊕ (var 5 ⊗ (var 3 ⊗ (var 0 ⊕ var 1)))) refl)
    (sum_pos w (z *ℤ (m +ℤ n)) i j hw (mul_pos z (m +ℤ n) hz (add m n hm hn)) some)
  where
    add : (m n : ℤ) → pos 0 <ℤ m → pos 0 <ℤ n → pos 0 <ℤ (m +ℤ n)
    add m n h k = omega (arith, ints)

narrowed_some : (m n w z : ℤ) (i j : ℕ) → pos 0 <ℤ n → pos 0 <ℤ w → pos 0 <ℤ z → pos 0 ≤ℤ ((pos i *ℤ n) -ℤ (pos j *ℤ m)) → 0 < i + j → pos 0 <ℤ ((((pos i *ℤ n) -ℤ (pos j *ℤ m)) *ℤ z) +ℤ (pos j *ℤ w))
narrowed_some m n w z (suc i) zero hn hw hz h some =
    positive_at _ _ (ring (m ∷ n ∷ w ∷ z ∷ pos (suc i) ∷ []) ((((var 4 ⊗ var 1) ⊖ (con (pos 0) ⊗ var 0)) ⊗ var 3) ⊕ (con (pos 0) ⊗ var 2)) ((var 4 ⊗ var 1) ⊗ var 3) refl)
    (mul_pos (pos (suc i) *ℤ n) z (mul_pos (pos (suc i)) n (omega (arith, ints)) hn) hz)
narrowed_some m n w z zero zero hn hw hz h some = absurd (omega arith)
narrowed_some m n w z i (suc j) hn hw hz h some = sum _ _ (mul_nonneg _ z h (not_negative_of_positive z hz)) (mul_pos (pos (suc j)) w (omega (arith, ints)) hw)
  where
    sum : (a b : ℤ) → pos 0 ≤ℤ a → pos 0 <ℤ b → pos 0 <ℤ (a +ℤ b)
    sum a b h k = omega (arith, ints)

-- ---- the strip from a, inside, to c, which is seen where the way from a to b, outside, meets the border
module _ (d : Triple) (h : Side) (a b c : Spot) (inside : pos 0 <ℤ over_of d h (of_spot a)) (outside : over_of d h (of_spot b) <ℤ pos 0) (same : OnOneSight d (meeting_of d h a b) (of_spot c)) where
  abbrev m : ℤ
  m = pos (unsigned_abs (over_of d h (of_spot b)))

  abbrev n : ℤ
  n = pos (unsigned_abs (over_of d h (of_spot a)))

  m_positive : pos 0 <ℤ m
  m_positive = go (over_of d h (of_spot b)) outside
    where
      go : (f : ℤ) → f <ℤ pos 0 → pos 0 <ℤ pos (unsigned_abs f)
      go f h = omega (arith, ints)

  n_positive : pos 0 <ℤ n
  n_positive = go (over_of d h (of_spot a)) inside
    where
      go : (f : ℤ) → pos 0 <ℤ f → pos 0 <ℤ pos (unsigned_abs f)
      go f h = omega (arith, ints)

  pub cut_on_border : over_of d h (of_spot c) ≡ pos 0
  cut_on_border =
      same_of_products (over_of d h (of_spot c)) (pos 0) (meeting_of d h a b).w (meeting_is_point d h a b inside outside)
      (sym (over_same d h (meeting_of d h a b) (of_spot c) same) ∙ ap (λ (x : ℤ). x *ℤ c.w) (meets d h a b inside outside) ∙ zero_times c.w ∙ sym (zero_times (meeting_of d h a b).w))

  meeting_across : IsSumAlong (right_axis d) a b m n (of_spot c)
  meeting_across = sum_along (right_axis d) a b (unsigned_abs (over_of d h (of_spot b))) (unsigned_abs (over_of d h (of_spot a))) (of_spot c) same.across

  meeting_upward : IsSumAlong (up_axis d) a b m n (of_spot c)
  meeting_upward = sum_along (up_axis d) a b (unsigned_abs (over_of d h (of_spot b))) (unsigned_abs (over_of d h (of_spot a))) (of_spot c) same.upward

  module _ (p : Point) (hp : IsPoint p) where
    within_strip : LiesBetween d a c p → LiesBetween d a b p
    within_strip (i, j, some, k) =
        lies_by d a b p ((pos i *ℤ ((m *ℤ a.w) +ℤ (n *ℤ b.w))) +ℤ ((pos j *ℤ c.w) *ℤ m)) ((pos j *ℤ c.w) *ℤ n)
        (sum_not_negative _ _ (mul_nonneg (pos i) _ (natural_not_negative i) (not_negative_of_positive _ (meeting_is_point d h a b inside outside)))
        (mul_nonneg _ m (mul_nonneg (pos j) c.w (natural_not_negative j) (not_negative_of_positive c.w c.positive)) (not_negative_of_positive m m_positive)))
        (mul_nonneg _ n (mul_nonneg (pos j) c.w (natural_not_negative j) (not_negative_of_positive c.w c.positive)) (not_negative_of_positive n n_positive))
        (widened_some m n ((m *ℤ a.w) +ℤ (n *ℤ b.w)) c.w i j m_positive n_positive (meeting_is_point d h a b inside outside) c.positive some)
        (along (right_axis d) meeting_across (sum_along (right_axis d) a c i j p k.across)) (along (up_axis d) meeting_upward (sum_along (up_axis d) a c i j p k.upward))
      where
        along : (r : Triple) → IsSumAlong r a b m n (of_spot c) → IsSumAlong r a c (pos i) (pos j) p → IsSumAlong r a b ((pos i *ℤ ((m *ℤ a.w) +ℤ (n *ℤ b.w))) +ℤ ((pos j *ℤ c.w) *ℤ m)) ((pos j *ℤ c.w) *ℤ n) p
        along r e f = widened m n (pos i) (pos j) (dot r (scaled (of_spot a))) (dot r (scaled (of_spot b))) (dot r (scaled (of_spot c))) a.w b.w c.w p.w (dot r (scaled p)) e f

    -- the weights of a sum that is not outside
    not_outside_sum : (i j : ℕ) → 0 < i + j → OnOneSight d (spot_sum a b i j) p → pos 0 ≤ℤ over_of d h p → pos 0 ≤ℤ ((pos i *ℤ n) -ℤ (pos j *ℤ m))
    not_outside_sum i j some k up =
        not_negative_at _ _ (weigh (pos i) (pos j) (over_of d h (of_spot a)) (over_of d h (of_spot b)) n m (abs_of_positive _ inside) (abs_of_negative _ outside) ∙ sym (over_sum d h a b i j))
        (not_negative_along d h p (spot_sum a b i j) hp (sum_is_point a b i j some) (sight_back d (spot_sum a b i j) p k) up)
      where
        weigh : (i j f g n m : ℤ) → n ≡ f → m ≡ pos 0 -ℤ g → (i *ℤ n) -ℤ (j *ℤ m) ≡ (i *ℤ f) +ℤ (j *ℤ g)
        weigh i j f g n m e k = (λ o. (i *ℤ e o) -ℤ (j *ℤ k o)) ∙ ring (i ∷ j ∷ f ∷ g ∷ []) ((var 0 ⊗ var 2) ⊖ (var 1 ⊗ (con (pos 0) ⊖ var 3))) ((var 0 ⊗ var 2) ⊕ (var 1 ⊗ var 3)) refl

    within_cut : LiesBetween d a b p → pos 0 ≤ℤ over_of d h p → LiesBetween d a c p
    within_cut (i, j, some, k) up =
        lies_by d a c p (((pos i *ℤ n) -ℤ (pos j *ℤ m)) *ℤ c.w) (pos j *ℤ ((m *ℤ a.w) +ℤ (n *ℤ b.w)))
        (mul_nonneg _ c.w (not_outside_sum i j some k up) (not_negative_of_positive c.w c.positive))
        (mul_nonneg (pos j) _ (natural_not_negative j) (not_negative_of_positive _ (meeting_is_point d h a b inside outside)))
        (narrowed_some m n ((m *ℤ a.w) +ℤ (n *ℤ b.w)) c.w i j n_positive (meeting_is_point d h a b inside outside) c.positive (not_outside_sum i j some k up) some)
        (along (right_axis d) meeting_across (sum_along (right_axis d) a b i j p k.across)) (along (up_axis d) meeting_upward (sum_along (up_axis d) a b i j p k.upward))
      where
        along : (r : Triple) → IsSumAlong r a b m n (of_spot c) → IsSumAlong r a b (pos i) (pos j) p → IsSumAlong r a c (((pos i *ℤ n) -ℤ (pos j *ℤ m)) *ℤ c.w) (pos j *ℤ ((m *ℤ a.w) +ℤ (n *ℤ b.w))) p
        along r e f = narrowed m n (pos i) (pos j) (dot r (scaled (of_spot a))) (dot r (scaled (of_spot b))) (dot r (scaled (of_spot c))) a.w b.w c.w p.w (dot r (scaled p)) e f

    pub lies_cut : LiesBetween d a c p ↔ (LiesBetween d a b p × (pos 0 ≤ℤ over_of d h p))
    lies_cut = (
      (λ k. (within_strip k, not_outside d h a c p hp (not_negative_of_positive _ inside) (zero (over_of d h (of_spot c)) cut_on_border) k)),
      (λ k. within_cut k.0 k.1),
    )
      where
        zero : (f : ℤ) → f ≡ pos 0 → pos 0 ≤ℤ f
        zero f e = omega (arith, ints)

    -- the other way round
    pub lies_cut_back : LiesBetween d c a p ↔ (LiesBetween d b a p × (pos 0 ≤ℤ over_of d h p))
    lies_cut_back = (
      (λ k. let l = lies_cut.0 (between_back d c a p k) in (between_back d a b p l.0, l.1)),
      (λ k. between_back d a c p (lies_cut.1 (between_back d b a p k.0, k.1))),
    )

  -- its ends
  pub cut_on_line : (l : Line) → IsOnLine d l (of_spot a) → IsOnLine d l (of_spot b) → IsOnLine d l (of_spot c)
  cut_on_line l on_a on_b =
      on_line_of_sight d l (meeting_of d h a b) (of_spot c) (meeting_is_point d h a b inside outside) same (meeting_on_line d h a b inside outside l on_a on_b)

  pub cut_apart : ¬ OnOneSight d (of_spot a) (of_spot c)
  cut_apart k = positive_not_zero (over_of d h (of_spot a) *ℤ c.w) (mul_pos _ c.w inside c.positive) (over_same d h (of_spot a) (of_spot c) k ∙ ap (λ (x : ℤ). x *ℤ a.w) cut_on_border ∙ zero_times a.w)

  pub cut_ends : (l : Line) → IsOnLine d l (of_spot a) → IsOnLine d l (of_spot b) → AreStripEnds d l a c
  cut_ends l on_a on_b = record { first = on_a; second = cut_on_line l on_a on_b; apart = cut_apart }

  pub cut_ends_back : (l : Line) → IsOnLine d l (of_spot a) → IsOnLine d l (of_spot b) → AreStripEnds d l c a
  cut_ends_back l on_a on_b = record { first = cut_on_line l on_a on_b; second = on_a; apart = λ k. cut_apart (sight_back d (of_spot c) (of_spot a) k) }
