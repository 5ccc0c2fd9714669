-- An edge and a triangle on two sides of a plane have a common point only at an end of the edge that is in the plane.
use Rattle.std.proofs.Common.{◌≡◌, ℕ, zero, suc, ◌+◌, ◌<◌, [], ◌∷◌, refl, sym, ap, subst, ◌∙◌, arith}
use Rattle.std.specs.Prelude.{ℤ, pos, negsuc, ◌+ℤ◌, ◌-ℤ◌, ◌*ℤ◌, ◌≤ℤ◌, ◌<ℤ◌}
use Rattle.std.proofs.lemmas.Int.{ints}
use Rattle.integers.proofs.Comparisons.{sum_not_negative, sum_positive_first}
use Rattle.integers.proofs.Ring.{var, con, ◌⊕◌, ◌⊖◌, ◌⊗◌, ring}
use Rattle.integers.proofs.Signs.{mul_nonneg, mul_pos}
use Rattle.lattice.specs.declared.points.Corner.{Corner}
use Rattle.lattice.specs.Points.{Point, point_of, AreOnePoint, of_corner}
use Rattle.lattice.specs.Triple.{Triple, dot}
use Rattle.geometry.specs.Faces.{edge_sum, face_sum}

-- ---- weights and values
natural : (n : ℕ) → pos 0 ≤ℤ pos n
natural n = omega (arith, ints)

positive : (n : ℕ) → pos 0 <ℤ pos (suc n)
positive n = omega (arith, ints)

opposite : (f : ℤ) → f ≤ℤ pos 0 → pos 0 ≤ℤ (pos 0 -ℤ f)
opposite f h = omega (arith, ints, h)

opposite_less : (f : ℤ) → f <ℤ pos 0 → pos 0 <ℤ (pos 0 -ℤ f)
opposite_less f h = omega (arith, ints, h)

below_both : (r s : ℤ) → pos 0 ≤ℤ r → pos 0 <ℤ s → s ≡ pos 0 -ℤ r → ⊥
below_both r s h k e = absurd (omega (arith, ints, h, k, e))

-- a sum that isn't negative has no weight at a negative value
no_weight : (i j : ℕ) (f g r : ℤ) → f <ℤ pos 0 → g ≤ℤ pos 0 → pos 0 ≤ℤ r → (pos i *ℤ f) +ℤ (pos j *ℤ g) ≡ r → i ≡ 0
no_weight zero j f g r low most h e = refl
no_weight (suc i) j f g r low most h e =
    absurd (below_both r _ h (sum_positive_first _ _ (mul_pos (pos (suc i)) (pos 0 -ℤ f) (positive i) (opposite_less f low)) (mul_nonneg (pos j) (pos 0 -ℤ g) (natural j) (opposite g most)))
    (ring (pos (suc i) ∷ pos j ∷ f ∷ g ∷ []) ((var 0 ⊗ (con (pos 0) ⊖ var 2)) ⊕ (var 1 ⊗ (con (pos 0) ⊖ var 3))) (con (pos 0) ⊖ ((var 0 ⊗ var 2) ⊕ (var 1 ⊗ var 3))) refl
    ∙ ap (λ (z : ℤ). pos 0 -ℤ z) e))

turned : (x y : ℤ) → x +ℤ y ≡ y +ℤ x
turned x y = omega (arith, ints)

-- ---- a common point, by its weights
module _ (a b c p q : Corner) (i j l m n : ℕ) (same : edge_sum p q i j ≡ face_sum a b c l m n) where
  -- the value at the point, from the edge and from the triangle
  abbrev pub Level : (Corner → ℤ) → Type 0
  Level f = (pos i *ℤ f p) +ℤ (pos j *ℤ f q) ≡ ((pos l *ℤ f a) +ℤ (pos m *ℤ f b)) +ℤ (pos n *ℤ f c)

  scaled : (s : ℤ) (f : Corner → ℤ) → Level f → Level (λ k. s *ℤ f k)
  scaled s f h =
      ring (pos i ∷ pos j ∷ s ∷ f p ∷ f q ∷ []) ((var 0 ⊗ (var 2 ⊗ var 3)) ⊕ (var 1 ⊗ (var 2 ⊗ var 4))) (var 2 ⊗ ((var 0 ⊗ var 3) ⊕ (var 1 ⊗ var 4))) refl
      ∙ ap (λ (z : ℤ). s *ℤ z) h
      ∙ ring (pos l ∷ pos m ∷ pos n ∷ s ∷ f a ∷ f b ∷ f c ∷ []) (var 3 ⊗ (((var 0 ⊗ var 4) ⊕ (var 1 ⊗ var 5)) ⊕ (var 2 ⊗ var 6))) (((var 0 ⊗ (var 3 ⊗ var 4)) ⊕ (var 1 ⊗ (var 3 ⊗ var 5))) ⊕ (var 2 ⊗ (var 3 ⊗ var 6))) refl

  summed : (f g : Corner → ℤ) → Level f → Level g → Level (λ k. f k +ℤ g k)
  summed f g h k =
      ring (pos i ∷ pos j ∷ f p ∷ f q ∷ g p ∷ g q ∷ []) ((var 0 ⊗ (var 2 ⊕ var 4)) ⊕ (var 1 ⊗ (var 3 ⊕ var 5))) (((var 0 ⊗ var 2) ⊕ (var 1 ⊗ var 3)) ⊕ ((var 0 ⊗ var 4) ⊕ (var 1 ⊗ var 5))) refl
      ∙ (λ t. h t +ℤ k t)
      ∙ ring (pos l ∷ pos m ∷ pos n ∷ f a ∷ f b ∷ f c ∷ g a ∷ g b ∷ g c ∷ []) ((((var 0 ⊗ var 3) ⊕ (var 1 ⊗ var 4)) ⊕ (var 2 ⊗ var 5)) ⊕ (((var 0 ⊗ var 6) ⊕ (var 1 ⊗ var 7)) ⊕ (var 2 ⊗ var 8)))
      (((var 0 ⊗ (var 3 ⊕ var 6)) ⊕ (var 1 ⊗ (var 4 ⊕ var 7))) ⊕ (var 2 ⊗ (var 5 ⊕ var 8))) refl

  constant : (v : ℤ) → Level (λ k. v)
  constant v =
      ring (pos i ∷ pos j ∷ v ∷ []) ((var 0 ⊗ var 2) ⊕ (var 1 ⊗ var 2)) ((var 0 ⊕ var 1) ⊗ var 2) refl
      ∙ ap (λ (k : Point). k.w *ℤ v) same
      ∙ ring (pos l ∷ pos m ∷ pos n ∷ v ∷ []) (((var 0 ⊕ var 1) ⊕ var 2) ⊗ var 3) (((var 0 ⊗ var 3) ⊕ (var 1 ⊗ var 3)) ⊕ (var 2 ⊗ var 3)) refl

  -- a coordinate, moved, and turned
  pub moved_level : (f : Corner → ℤ) → Level f → (v : ℤ) → Level (λ k. f k +ℤ v)
  moved_level f h v = summed f (λ k. v) h (constant v)

  pub turned_level : (f : Corner → ℤ) → Level f → (v : ℤ) → Level (λ k. (negsuc 0 *ℤ f k) +ℤ v)
  turned_level f h v = summed (λ k. negsuc 0 *ℤ f k) (λ k. v) (scaled (negsuc 0) f h) (constant v)

  -- a plane's function of a corner
  pub on_plane : (w : Triple) (v : ℤ) → Level (λ k. dot w (of_corner k) +ℤ v)
  on_plane w v =
      let x : Level (λ k. k.x) = ap (λ (k : Point). k.x) same in
      let y : Level (λ k. k.y) = ap (λ (k : Point). k.y) same in
      let z : Level (λ k. k.z) = ap (λ (k : Point). k.z) same in
      summed (λ k. dot w (of_corner k)) (λ k. v)
      (summed (λ k. (w.x *ℤ k.x) +ℤ (w.y *ℤ k.y)) (λ k. w.z *ℤ k.z) (summed (λ k. w.x *ℤ k.x) (λ k. w.y *ℤ k.y) (scaled w.x (λ k. k.x) x) (scaled w.y (λ k. k.y) y)) (scaled w.z (λ k. k.z) z))
      (constant v)

  module _ (f : Corner → ℤ) (level : Level f) (above_a : pos 0 ≤ℤ f a) (above_b : pos 0 ≤ℤ f b) (above_c : pos 0 ≤ℤ f c) (below_p : f p ≤ℤ pos 0) (below_q : f q ≤ℤ pos 0) where
    not_negative : pos 0 ≤ℤ (((pos l *ℤ f a) +ℤ (pos m *ℤ f b)) +ℤ (pos n *ℤ f c))
    not_negative = sum_not_negative _ _ (sum_not_negative _ _ (mul_nonneg (pos l) (f a) (natural l) above_a) (mul_nonneg (pos m) (f b) (natural m) above_b)) (mul_nonneg (pos n) (f c) (natural n) above_c)

    -- an end that isn't in the plane has no weight
    pub first_end : f p <ℤ pos 0 → i ≡ 0
    first_end low = no_weight i j (f p) (f q) _ low below_q not_negative level

    pub second_end : f q <ℤ pos 0 → j ≡ 0
    second_end low = no_weight j i (f q) (f p) _ low below_p not_negative (turned (pos j *ℤ f q) (pos i *ℤ f p) ∙ level)

  -- where both ends are below, there is no common point
  pub none_common : (f : Corner → ℤ) → Level f → pos 0 ≤ℤ f a → pos 0 ≤ℤ f b → pos 0 ≤ℤ f c → f p <ℤ pos 0 → f q <ℤ pos 0 → 0 < i + j → ⊥
  none_common f level above_a above_b above_c low_p low_q some =
      let first = first_end f level above_a above_b above_c (at_most (f p) low_p) (at_most (f q) low_q) low_p in
      let second = second_end f level above_a above_b above_c (at_most (f p) low_p) (at_most (f q) low_q) low_q in
      absurd (omega (arith, first, second, some))
    where
      at_most : (z : ℤ) → z <ℤ pos 0 → z ≤ℤ pos 0
      at_most z h = omega (arith, ints, h)

-- ---- the point where the other end has no weight
at_first : (p q : Corner) (i : ℕ) → AreOnePoint (point_of p) (edge_sum p q i 0)
at_first p q i = record {
  x = ring (p.x ∷ pos i ∷ q.x ∷ []) (var 0 ⊗ (var 1 ⊕ con (pos 0))) (((var 1 ⊗ var 0) ⊕ (con (pos 0) ⊗ var 2)) ⊗ con (pos 1)) refl;
  y = ring (p.y ∷ pos i ∷ q.y ∷ []) (var 0 ⊗ (var 1 ⊕ con (pos 0))) (((var 1 ⊗ var 0) ⊕ (con (pos 0) ⊗ var 2)) ⊗ con (pos 1)) refl;
  z = ring (p.z ∷ pos i ∷ q.z ∷ []) (var 0 ⊗ (var 1 ⊕ con (pos 0))) (((var 1 ⊗ var 0) ⊕ (con (pos 0) ⊗ var 2)) ⊗ con (pos 1)) refl;
}

at_second : (p q : Corner) (j : ℕ) → AreOnePoint (point_of q) (edge_sum p q 0 j)
at_second p q j = record {
  x = ring (q.x ∷ pos j ∷ p.x ∷ []) (var 0 ⊗ (con (pos 0) ⊕ var 1)) (((con (pos 0) ⊗ var 2) ⊕ (var 1 ⊗ var 0)) ⊗ con (pos 1)) refl;
  y = ring (q.y ∷ pos j ∷ p.y ∷ []) (var 0 ⊗ (con (pos 0) ⊕ var 1)) (((con (pos 0) ⊗ var 2) ⊕ (var 1 ⊗ var 0)) ⊗ con (pos 1)) refl;
  z = ring (q.z ∷ pos j ∷ p.z ∷ []) (var 0 ⊗ (con (pos 0) ⊕ var 1)) (((con (pos 0) ⊗ var 2) ⊕ (var 1 ⊗ var 0)) ⊗ con (pos 1)) refl;
}

pub is_first_end : (p q : Corner) (i j : ℕ) (point : Point) → point ≡ edge_sum p q i j → j ≡ 0 → AreOnePoint (point_of p) point
is_first_end p q i j point e none = subst (λ (k : Point). AreOnePoint (point_of p) k) (sym (e ∙ ap (λ (m : ℕ). edge_sum p q i m) none)) (at_first p q i)

pub is_second_end : (p q : Corner) (i j : ℕ) (point : Point) → point ≡ edge_sum p q i j → i ≡ 0 → AreOnePoint (point_of q) point
is_second_end p q i j point e none = subst (λ (k : Point). AreOnePoint (point_of q) k) (sym (e ∙ ap (λ (m : ℕ). edge_sum p q m j) none)) (at_second p q j)
