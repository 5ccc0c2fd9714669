-- A step along a line of sight on which some point is in the box where spots are: it ends on the same line, in the box on its axis,
-- and it leaves the box on no other.
use Rattle.std.proofs.Common.{◌≡◌, inl, inr, zero, suc, [], ◌∷◌, refl, ◌^◌, arith, unsigned_abs}
use Rattle.std.specs.Prelude.{ℤ, pos, negsuc, ◌+ℤ◌, ◌-ℤ◌, ◌*ℤ◌, ◌<ℤ◌, ◌≤ℤ◌}
use Rattle.std.proofs.lemmas.Int.{ints}
use Rattle.integers.proofs.Comparisons.{not_negative_at, not_negative_of_positive, sum_not_negative, positive_not_zero}
use Rattle.integers.proofs.Ring.{var, con, ◌⊕◌, ◌⊖◌, ◌⊗◌, ring, by_one, by_two, by_three, same_of_gap}
use Rattle.integers.proofs.Signs.{mul_nonneg, mul_pos, nonneg_of_mul, zero_of_mul}
use Rattle.lattice.specs.Triple.{Triple}
use Rattle.lattice.specs.Points.{Point, DifferAlong}
use Rattle.detail_pieces.specs.inner.Places.{IsNear, IsInBox}
use Rattle.detail_pieces.specs.inner.Steps.{turned, turned_point, IsPushTo, IsNoPush, IsPush, IsStep}

-- ---- near coordinates
-- a sum with weights of at least 0
pub near_mix : (a b x g w v : ℤ) → pos 0 ≤ℤ a → pos 0 ≤ℤ b → IsNear x w → IsNear g v → IsNear ((a *ℤ x) +ℤ (b *ℤ g)) ((a *ℤ w) +ℤ (b *ℤ v))
near_mix a b x g w v ha hb h k = record {
  low = not_negative_at _ _ (ring (a ∷ b ∷ x ∷ g ∷ w ∷ v ∷ pos (2 ^ 21) ∷ [])
      (((var 0 ⊗ var 2) ⊕ (var 1 ⊗ var 3)) ⊕ (var 6 ⊗ ((var 0 ⊗ var 4) ⊕ (var 1 ⊗ var 5))))
      ((var 0 ⊗ (var 2 ⊕ (var 6 ⊗ var 4))) ⊕ (var 1 ⊗ (var 3 ⊕ (var 6 ⊗ var 5)))) refl)
      (sum_not_negative _ _ (mul_nonneg a _ ha h.low) (mul_nonneg b _ hb k.low));
  high = not_negative_at _ _ (ring (a ∷ b ∷ x ∷ g ∷ w ∷ v ∷ pos (2 ^ 21) ∷ [])
      ((var 6 ⊗ ((var 0 ⊗ var 4) ⊕ (var 1 ⊗ var 5))) ⊖ ((var 0 ⊗ var 2) ⊕ (var 1 ⊗ var 3)))
      ((var 0 ⊗ ((var 6 ⊗ var 4) ⊖ var 2)) ⊕ (var 1 ⊗ ((var 6 ⊗ var 5) ⊖ var 3))) refl)
      (sum_not_negative _ _ (mul_nonneg a _ ha h.high) (mul_nonneg b _ hb k.high));
}

-- the same fraction in other terms
pub near_same : (x w y v : ℤ) → pos 0 <ℤ w → pos 0 <ℤ v → x *ℤ v ≡ y *ℤ w → IsNear x w → IsNear y v
near_same x w y v hw hv e h = record {
  low = nonneg_of_mul w _ hw (not_negative_at _ _ (by_one (w *ℤ (y +ℤ (pos (2 ^ 21) *ℤ v))) (v *ℤ (x +ℤ (pos (2 ^ 21) *ℤ w))) (x *ℤ v) (y *ℤ w) (pos 0 -ℤ pos 1)
      (ring (x ∷ w ∷ y ∷ v ∷ pos (2 ^ 21) ∷ [])
      ((var 1 ⊗ (var 2 ⊕ (var 4 ⊗ var 3))) ⊖ (var 3 ⊗ (var 0 ⊕ (var 4 ⊗ var 1))))
      (((var 0 ⊗ var 3) ⊖ (var 2 ⊗ var 1)) ⊗ (con (pos 0) ⊖ con (pos 1))) refl) e)
      (mul_nonneg v _ (not_negative_of_positive v hv) h.low));
  high = nonneg_of_mul w _ hw (not_negative_at _ _ (by_one (w *ℤ ((pos (2 ^ 21) *ℤ v) -ℤ y)) (v *ℤ ((pos (2 ^ 21) *ℤ w) -ℤ x)) (x *ℤ v) (y *ℤ w) (pos 1)
      (ring (x ∷ w ∷ y ∷ v ∷ pos (2 ^ 21) ∷ [])
      ((var 1 ⊗ ((var 4 ⊗ var 3) ⊖ var 2)) ⊖ (var 3 ⊗ ((var 4 ⊗ var 1) ⊖ var 0)))
      (((var 0 ⊗ var 3) ⊖ (var 2 ⊗ var 1)) ⊗ con (pos 1)) refl) e)
      (mul_nonneg v _ (not_negative_of_positive v hv) h.high));
}

-- ---- one step: the coordinate x over w, that of the point in the box over v, and the direction's component a
-- the end of the step is the sum of the start and of the point in the box with weights of at least 0, in other terms
record IsMixed (x w v a n m s e : ℤ) : Type 0 where
  a0 : ℤ
  b0 : ℤ
  first : pos 0 ≤ℤ a0
  second : pos 0 ≤ℤ b0
  some : pos 0 <ℤ ((a0 *ℤ w) +ℤ (b0 *ℤ v))
  scale : pos 0 <ℤ s
  balance : ((s *ℤ b0) *ℤ n) +ℤ ((m *ℤ e) *ℤ ((a0 *ℤ w) +ℤ (b0 *ℤ v))) ≡ pos 0
  home : IsNear ((s *ℤ x) -ℤ (e *ℤ a)) (s *ℤ w)

module _ (x g w v a n m s e : ℤ) (hw : pos 0 <ℤ w) (hv : pos 0 <ℤ v) (hm : pos 0 <ℤ m) (near : IsNear g v) (along : m *ℤ ((g *ℤ w) -ℤ (x *ℤ v)) ≡ n *ℤ a) where
  stays : IsNoPush x w s e → IsMixed x w v a n m s e
  stays h = record {
    a0 = pos 1;
    b0 = pos 0;
    first = omega (arith, ints);
    second = omega (arith, ints);
    some = only w v hw;
    scale = one s h.scale;
    balance = by_one _ _ e (pos 0) (m *ℤ ((pos 1 *ℤ w) +ℤ (pos 0 *ℤ v)))
        (ring (s ∷ n ∷ m ∷ e ∷ w ∷ v ∷ [])
        ((((var 0 ⊗ con (pos 0)) ⊗ var 1) ⊕ ((var 2 ⊗ var 3) ⊗ ((con (pos 1) ⊗ var 4) ⊕ (con (pos 0) ⊗ var 5)))) ⊖ con (pos 0))
        ((var 3 ⊖ con (pos 0)) ⊗ (var 2 ⊗ ((con (pos 1) ⊗ var 4) ⊕ (con (pos 0) ⊗ var 5)))) refl) h.none;
    home = near_same x w _ _ hw (by s w hw h.scale) (by_two (x *ℤ (s *ℤ w)) (((s *ℤ x) -ℤ (e *ℤ a)) *ℤ w) e (pos 0) (a *ℤ w) s (pos 1) (pos 0)
        (ring (x ∷ w ∷ a ∷ s ∷ e ∷ [])
        ((var 0 ⊗ (var 3 ⊗ var 1)) ⊖ (((var 3 ⊗ var 0) ⊖ (var 4 ⊗ var 2)) ⊗ var 1))
        (((var 4 ⊖ con (pos 0)) ⊗ (var 2 ⊗ var 1)) ⊕ ((var 3 ⊖ con (pos 1)) ⊗ con (pos 0))) refl) h.none h.scale) h.near;
  }
    where
      only : (w v : ℤ) → pos 0 <ℤ w → pos 0 <ℤ ((pos 1 *ℤ w) +ℤ (pos 0 *ℤ v))
      only w v h = omega (arith, ints)

      one : (s : ℤ) → s ≡ pos 1 → pos 0 <ℤ s
      one s e = omega (arith, ints)

      by : (s w : ℤ) → pos 0 <ℤ w → s ≡ pos 1 → pos 0 <ℤ (s *ℤ w)
      by s w h e = mul_pos s w (one s e) h

  -- a direction with no part along the axis never leads there
  abs_positive : (r : ℤ) → pos 0 <ℤ r → (a ≡ pos 0 → m *ℤ r ≡ pos 0) → pos 0 <ℤ pos (unsigned_abs a)
  abs_positive r hr nowhere = counts a (λ z. positive_not_zero (m *ℤ r) (mul_pos m r hm hr) (nowhere z))
    where
      counts : (a : ℤ) → (a ≡ pos 0 → ⊥) → pos 0 <ℤ pos (unsigned_abs a)
      counts (pos zero) h = absurd (h refl)
      counts (pos (suc k)) h = omega (arith, ints)
      counts (negsuc k) h = omega (arith, ints)

  weight : (a0 b0 : ℤ) → pos 0 ≤ℤ a0 → pos 0 <ℤ b0 → pos 0 <ℤ ((a0 *ℤ w) +ℤ (b0 *ℤ v))
  weight a0 b0 h k = sum _ _ (mul_nonneg a0 w h (not_negative_of_positive w hw)) (mul_pos b0 v k hv)
    where
      sum : (a b : ℤ) → pos 0 ≤ℤ a → pos 0 <ℤ b → pos 0 <ℤ (a +ℤ b)
      sum a b h k = omega (arith, ints)

  at : (s k : ℤ) → s ≡ k → pos 0 <ℤ k → pos 0 <ℤ s
  at s k e h = omega (arith, ints)

  comes_down : (pos (2 ^ 21) *ℤ w) <ℤ x → IsPushTo a (x -ℤ (pos (2 ^ 21) *ℤ w)) s e → IsMixed x w v a n m s e
  comes_down out h =
      let b0 = x -ℤ (pos (2 ^ 21) *ℤ w) in
      let a0 = (pos (2 ^ 21) *ℤ v) -ℤ g in
      let second : pos 0 <ℤ b0 = gap _ _ out in
      let some : pos 0 <ℤ ((a0 *ℤ w) +ℤ (b0 *ℤ v)) = weight a0 b0 near.high second in
      let scale : pos 0 <ℤ s = at _ _ h.scale (abs_positive ((a0 *ℤ w) +ℤ (b0 *ℤ v)) some nowhere) in
      record {
        a0 = a0;
        b0 = b0;
        first = near.high;
        second = not_negative_of_positive b0 second;
        some = some;
        scale = scale;
        balance = by_two _ _ (m *ℤ ((g *ℤ w) -ℤ (x *ℤ v))) (n *ℤ a) (pos 0 -ℤ e) (e *ℤ a) (s *ℤ (x -ℤ (pos (2 ^ 21) *ℤ w))) (pos 0 -ℤ n)
            (ring (x ∷ g ∷ w ∷ v ∷ a ∷ n ∷ m ∷ s ∷ e ∷ pos (2 ^ 21) ∷ [])
            ((((var 7 ⊗ (var 0 ⊖ (var 9 ⊗ var 2))) ⊗ var 5) ⊕ ((var 6 ⊗ var 8) ⊗ ((((var 9 ⊗ var 3) ⊖ var 1) ⊗ var 2) ⊕ ((var 0 ⊖ (var 9 ⊗ var 2)) ⊗ var 3)))) ⊖ con (pos 0))
            ((((var 6 ⊗ ((var 1 ⊗ var 2) ⊖ (var 0 ⊗ var 3))) ⊖ (var 5 ⊗ var 4)) ⊗ (con (pos 0) ⊖ var 8)) ⊕ (((var 8 ⊗ var 4) ⊖ (var 7 ⊗ (var 0 ⊖ (var 9 ⊗ var 2)))) ⊗ (con (pos 0) ⊖ var 5))) refl) along h.step;
        home = on_high ((s *ℤ x) -ℤ (e *ℤ a)) (s *ℤ w) (mul_pos s w scale hw)
            (by_one _ _ (e *ℤ a) (s *ℤ (x -ℤ (pos (2 ^ 21) *ℤ w))) (pos 0 -ℤ pos 1)
            (ring (x ∷ w ∷ a ∷ s ∷ e ∷ pos (2 ^ 21) ∷ [])
            (((var 3 ⊗ var 0) ⊖ (var 4 ⊗ var 2)) ⊖ (var 5 ⊗ (var 3 ⊗ var 1)))
            (((var 4 ⊗ var 2) ⊖ (var 3 ⊗ (var 0 ⊖ (var 5 ⊗ var 1)))) ⊗ (con (pos 0) ⊖ con (pos 1))) refl) h.step);
      }
    where
      gap : (a b : ℤ) → a <ℤ b → pos 0 <ℤ (b -ℤ a)
      gap a b h = omega (arith, ints)

      nowhere : a ≡ pos 0 → m *ℤ ((((pos (2 ^ 21) *ℤ v) -ℤ g) *ℤ w) +ℤ ((x -ℤ (pos (2 ^ 21) *ℤ w)) *ℤ v)) ≡ pos 0
      nowhere z = by_two _ _ (m *ℤ ((g *ℤ w) -ℤ (x *ℤ v))) (n *ℤ a) (pos 0 -ℤ pos 1) a (pos 0) (pos 0 -ℤ n)
          (ring (x ∷ g ∷ w ∷ v ∷ a ∷ n ∷ m ∷ pos (2 ^ 21) ∷ [])
          ((var 6 ⊗ ((((var 7 ⊗ var 3) ⊖ var 1) ⊗ var 2) ⊕ ((var 0 ⊖ (var 7 ⊗ var 2)) ⊗ var 3))) ⊖ con (pos 0))
          ((((var 6 ⊗ ((var 1 ⊗ var 2) ⊖ (var 0 ⊗ var 3))) ⊖ (var 5 ⊗ var 4)) ⊗ (con (pos 0) ⊖ con (pos 1))) ⊕ ((var 4 ⊖ con (pos 0)) ⊗ (con (pos 0) ⊖ var 5))) refl) along z

      on_high : (x w : ℤ) → pos 0 <ℤ w → x ≡ pos (2 ^ 21) *ℤ w → IsNear x w
      on_high x w h e = record { low = omega (arith, ints); high = omega (arith, ints) }

  comes_up : x <ℤ (pos 0 -ℤ (pos (2 ^ 21) *ℤ w)) → IsPushTo a (x +ℤ (pos (2 ^ 21) *ℤ w)) s e → IsMixed x w v a n m s e
  comes_up out h =
      let b0 = pos 0 -ℤ (x +ℤ (pos (2 ^ 21) *ℤ w)) in
      let a0 = g +ℤ (pos (2 ^ 21) *ℤ v) in
      let second : pos 0 <ℤ b0 = gap x (pos (2 ^ 21) *ℤ w) out in
      let some : pos 0 <ℤ ((a0 *ℤ w) +ℤ (b0 *ℤ v)) = weight a0 b0 near.low second in
      let scale : pos 0 <ℤ s = at _ _ h.scale (abs_positive ((a0 *ℤ w) +ℤ (b0 *ℤ v)) some nowhere) in
      record {
        a0 = a0;
        b0 = b0;
        first = near.low;
        second = not_negative_of_positive b0 second;
        some = some;
        scale = scale;
        balance = by_two _ _ (m *ℤ ((g *ℤ w) -ℤ (x *ℤ v))) (n *ℤ a) e (e *ℤ a) (s *ℤ (x +ℤ (pos (2 ^ 21) *ℤ w))) n
            (ring (x ∷ g ∷ w ∷ v ∷ a ∷ n ∷ m ∷ s ∷ e ∷ pos (2 ^ 21) ∷ [])
            ((((var 7 ⊗ (con (pos 0) ⊖ (var 0 ⊕ (var 9 ⊗ var 2)))) ⊗ var 5) ⊕ ((var 6 ⊗ var 8) ⊗ (((var 1 ⊕ (var 9 ⊗ var 3)) ⊗ var 2) ⊕ ((con (pos 0) ⊖ (var 0 ⊕ (var 9 ⊗ var 2))) ⊗ var 3)))) ⊖ con (pos 0))
            ((((var 6 ⊗ ((var 1 ⊗ var 2) ⊖ (var 0 ⊗ var 3))) ⊖ (var 5 ⊗ var 4)) ⊗ var 8) ⊕ (((var 8 ⊗ var 4) ⊖ (var 7 ⊗ (var 0 ⊕ (var 9 ⊗ var 2)))) ⊗ var 5)) refl) along h.step;
        home = on_low ((s *ℤ x) -ℤ (e *ℤ a)) (s *ℤ w) (mul_pos s w scale hw)
            (by_one _ _ (e *ℤ a) (s *ℤ (x +ℤ (pos (2 ^ 21) *ℤ w))) (pos 0 -ℤ pos 1)
            (ring (x ∷ w ∷ a ∷ s ∷ e ∷ pos (2 ^ 21) ∷ [])
            (((var 3 ⊗ var 0) ⊖ (var 4 ⊗ var 2)) ⊖ (con (pos 0) ⊖ (var 5 ⊗ (var 3 ⊗ var 1))))
            (((var 4 ⊗ var 2) ⊖ (var 3 ⊗ (var 0 ⊕ (var 5 ⊗ var 1)))) ⊗ (con (pos 0) ⊖ con (pos 1))) refl) h.step);
      }
    where
      gap : (x t : ℤ) → x <ℤ (pos 0 -ℤ t) → pos 0 <ℤ (pos 0 -ℤ (x +ℤ t))
      gap x t h = omega (arith, ints)

      nowhere : a ≡ pos 0 → m *ℤ (((g +ℤ (pos (2 ^ 21) *ℤ v)) *ℤ w) +ℤ ((pos 0 -ℤ (x +ℤ (pos (2 ^ 21) *ℤ w))) *ℤ v)) ≡ pos 0
      nowhere z = by_two _ _ (m *ℤ ((g *ℤ w) -ℤ (x *ℤ v))) (n *ℤ a) (pos 1) a (pos 0) n
          (ring (x ∷ g ∷ w ∷ v ∷ a ∷ n ∷ m ∷ pos (2 ^ 21) ∷ [])
          ((var 6 ⊗ (((var 1 ⊕ (var 7 ⊗ var 3)) ⊗ var 2) ⊕ ((con (pos 0) ⊖ (var 0 ⊕ (var 7 ⊗ var 2))) ⊗ var 3))) ⊖ con (pos 0))
          ((((var 6 ⊗ ((var 1 ⊗ var 2) ⊖ (var 0 ⊗ var 3))) ⊖ (var 5 ⊗ var 4)) ⊗ con (pos 1)) ⊕ ((var 4 ⊖ con (pos 0)) ⊗ var 5)) refl) along z

      on_low : (x w : ℤ) → pos 0 <ℤ w → x ≡ pos 0 -ℤ (pos (2 ^ 21) *ℤ w) → IsNear x w
      on_low x w h e = record { low = omega (arith, ints); high = omega (arith, ints) }

  mixed_of : IsPush a x w s e → IsMixed x w v a n m s e
  mixed_of (inl h) = stays h
  mixed_of (inr (inl (out, h))) = comes_down out h
  mixed_of (inr (inr (out, h))) = comes_up out h

-- ---- another coordinate: y over w, that of the point in the box over v, and the direction's component b
module _ (y g w v b n m s e x a : ℤ) (hw : pos 0 <ℤ w) (hm : pos 0 <ℤ m) (near : IsNear g v) (along : m *ℤ ((g *ℤ w) -ℤ (y *ℤ v)) ≡ n *ℤ b) (mixed : IsMixed x w v a n m s e) where
  sum_same : ((mixed.a0 *ℤ y) +ℤ (mixed.b0 *ℤ g)) *ℤ (s *ℤ w) ≡ ((s *ℤ y) -ℤ (e *ℤ b)) *ℤ ((mixed.a0 *ℤ w) +ℤ (mixed.b0 *ℤ v))
  sum_same = go mixed.a0 mixed.b0 mixed.balance
    where
      go : (a0 b0 : ℤ) → ((s *ℤ b0) *ℤ n) +ℤ ((m *ℤ e) *ℤ ((a0 *ℤ w) +ℤ (b0 *ℤ v))) ≡ pos 0 → ((a0 *ℤ y) +ℤ (b0 *ℤ g)) *ℤ (s *ℤ w) ≡ ((s *ℤ y) -ℤ (e *ℤ b)) *ℤ ((a0 *ℤ w) +ℤ (b0 *ℤ v))
      go a0 b0 balance =
          same_of_gap _ _ (zero_of_mul m _ hm
          (by_two (m *ℤ ((((a0 *ℤ y) +ℤ (b0 *ℤ g)) *ℤ (s *ℤ w)) -ℤ (((s *ℤ y) -ℤ (e *ℤ b)) *ℤ ((a0 *ℤ w) +ℤ (b0 *ℤ v))))) (pos 0) (m *ℤ ((g *ℤ w) -ℤ (y *ℤ v))) (n *ℤ b) (s *ℤ b0) (((s *ℤ b0) *ℤ n) +ℤ ((m *ℤ e) *ℤ ((a0 *ℤ w) +ℤ (b0 *ℤ v)))) (pos 0) b
          (ring (y ∷ g ∷ w ∷ v ∷ b ∷ n ∷ m ∷ s ∷ e ∷ a0 ∷ b0 ∷ [])
          ((var 6 ⊗ ((((var 9 ⊗ var 0) ⊕ (var 10 ⊗ var 1)) ⊗ (var 7 ⊗ var 2)) ⊖ (((var 7 ⊗ var 0) ⊖ (var 8 ⊗ var 4)) ⊗ ((var 9 ⊗ var 2) ⊕ (var 10 ⊗ var 3))))) ⊖ con (pos 0))
          ((((var 6 ⊗ ((var 1 ⊗ var 2) ⊖ (var 0 ⊗ var 3))) ⊖ (var 5 ⊗ var 4)) ⊗ (var 7 ⊗ var 10)) ⊕ (((((var 7 ⊗ var 10) ⊗ var 5) ⊕ ((var 6 ⊗ var 8) ⊗ ((var 9 ⊗ var 2) ⊕ (var 10 ⊗ var 3)))) ⊖ con (pos 0)) ⊗ var 4)) refl) along balance))

  stays_near : IsNear y w → IsNear ((s *ℤ y) -ℤ (e *ℤ b)) (s *ℤ w)
  stays_near h =
      near_same _ _ _ _ mixed.some (mul_pos s w mixed.scale hw) sum_same (near_mix mixed.a0 mixed.b0 y g w v mixed.first mixed.second h near)

-- the way along the direction after the step
along_moved : (y g w v b n m s e y' w' : ℤ) → y' ≡ (s *ℤ y) -ℤ (e *ℤ b) → w' ≡ s *ℤ w → m *ℤ ((g *ℤ w) -ℤ (y *ℤ v)) ≡ n *ℤ b → m *ℤ ((g *ℤ w') -ℤ (y' *ℤ v)) ≡ ((s *ℤ n) +ℤ ((m *ℤ e) *ℤ v)) *ℤ b
along_moved y g w v b n m s e y' w' ey ew along =
    by_three (m *ℤ ((g *ℤ w') -ℤ (y' *ℤ v))) (((s *ℤ n) +ℤ ((m *ℤ e) *ℤ v)) *ℤ b) y' ((s *ℤ y) -ℤ (e *ℤ b)) (pos 0 -ℤ (m *ℤ v)) w' (s *ℤ w) (m *ℤ g) (m *ℤ ((g *ℤ w) -ℤ (y *ℤ v))) (n *ℤ b) s
    (ring (y ∷ g ∷ w ∷ v ∷ b ∷ n ∷ m ∷ s ∷ e ∷ y' ∷ w' ∷ [])
    ((var 6 ⊗ ((var 1 ⊗ var 10) ⊖ (var 9 ⊗ var 3))) ⊖ (((var 7 ⊗ var 5) ⊕ ((var 6 ⊗ var 8) ⊗ var 3)) ⊗ var 4))
    ((((var 9 ⊖ ((var 7 ⊗ var 0) ⊖ (var 8 ⊗ var 4))) ⊗ (con (pos 0) ⊖ (var 6 ⊗ var 3))) ⊕ ((var 10 ⊖ (var 7 ⊗ var 2)) ⊗ (var 6 ⊗ var 1))) ⊕ (((var 6 ⊗ ((var 1 ⊗ var 2) ⊖ (var 0 ⊗ var 3))) ⊖ (var 5 ⊗ var 4)) ⊗ var 7)) refl) ey ew along

near_at : (x w x' w' : ℤ) → x' ≡ x → w' ≡ w → IsNear x w → IsNear x' w'
near_at x w x' w' e f h = record { low = low e f h.low; high = high e f h.high }
  where
    low : x' ≡ x → w' ≡ w → pos 0 ≤ℤ (x +ℤ (pos (2 ^ 21) *ℤ w)) → pos 0 ≤ℤ (x' +ℤ (pos (2 ^ 21) *ℤ w'))
    low e f h = omega (arith, ints)

    high : x' ≡ x → w' ≡ w → pos 0 ≤ℤ ((pos (2 ^ 21) *ℤ w) -ℤ x) → pos 0 ≤ℤ ((pos (2 ^ 21) *ℤ w') -ℤ x')
    high e f h = omega (arith, ints)

-- ---- points
-- q is p, turned, after a step that came nearer to g
pub record IsStepTo (d : Triple) (g p q : Point) : Type 0 where
  pub positive : pos 0 <ℤ q.w
  pub along : DifferAlong (turned d) (turned_point g) q
  pub home : IsNear q.z q.w
  pub first : IsNear p.y p.w → IsNear q.x q.w
  pub second : IsNear p.z p.w → IsNear q.y q.w

pub step_to : (d : Triple) (g p q : Point) → pos 0 <ℤ g.w → pos 0 <ℤ p.w → IsInBox g → DifferAlong d g p → IsStep d p q → IsStepTo d g p q
step_to d g p q hg hp box along step =
    let mixed : IsMixed p.x p.w g.w d.x along.n along.m step.s step.e = mixed_of p.x g.x p.w g.w d.x along.n along.m step.s step.e hp hg along.positive box.x along.x step.push in
    record {
      positive = at q.w (step.s *ℤ p.w) step.w (mul_pos step.s p.w mixed.scale hp);
      along = record {
        n = (step.s *ℤ along.n) +ℤ ((along.m *ℤ step.e) *ℤ g.w);
        m = along.m;
        positive = along.positive;
        x = along_moved p.y g.y p.w g.w d.y along.n along.m step.s step.e q.x q.w step.x step.w along.y;
        y = along_moved p.z g.z p.w g.w d.z along.n along.m step.s step.e q.y q.w step.y step.w along.z;
        z = along_moved p.x g.x p.w g.w d.x along.n along.m step.s step.e q.z q.w step.z step.w along.x;
      };
      home = near_at _ _ q.z q.w step.z step.w mixed.home;
      first = λ h. near_at _ _ q.x q.w step.x step.w (stays_near p.y g.y p.w g.w d.y along.n along.m step.s step.e p.x d.x hp along.positive box.y along.y mixed h);
      second = λ h. near_at _ _ q.y q.w step.y step.w (stays_near p.z g.z p.w g.w d.z along.n along.m step.s step.e p.x d.x hp along.positive box.z along.z mixed h);
    }
  where
    at : (a b : ℤ) → a ≡ b → pos 0 <ℤ b → pos 0 <ℤ a
    at a b e h = omega (arith, ints)
