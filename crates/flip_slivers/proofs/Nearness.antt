-- Near points: each way about, within more, and through a third point.
use Rattle.std.proofs.Common.{◌≡◌, ℕ, ◌+◌, ◌≤◌, [], ◌∷◌, refl, sym, ap, ◌∙◌, subst, arith}
use Rattle.std.specs.Prelude.{ℤ, pos, ◌+ℤ◌, ◌-ℤ◌, ◌*ℤ◌, ◌≤ℤ◌, ◌<ℤ◌}
use Rattle.std.proofs.lemmas.Int.{ints}
use Rattle.integers.proofs.Absolutes.{natural_not_negative, pos-sum}
use Rattle.integers.proofs.Comparisons.{not_negative_of_positive, gap_of_at_most, at_most_of_gap}
use Rattle.integers.proofs.Ring.{var, con, ◌⊕◌, ◌⊖◌, ◌⊗◌, ring}
use Rattle.integers.proofs.Signs.{mul_pos, mul_nonneg, nonneg_of_mul, square_nonneg}
use Rattle.lattice.specs.Triple.{Triple}
use Rattle.lattice.specs.Points.{Point, IsPoint}
use Rattle.lattice.proofs.Vectors.{Letters, dots}
use Rattle.flip_slivers.specs.Near.{square, apart, span_of, AreNear}
use Rattle.flip_slivers.proofs.Lengths.{plus, times, IsNoLonger, no_longer-plus, no_longer-times, square-times, squares_order}

-- no length at all
pub near-itself : (n : ℕ) (p : Point) → AreNear n p p
near-itself n p = none _ _ (nothing p.x p.y p.z p.w) (square_nonneg (span_of n p p))
  where
    none : (x y : ℤ) → x ≡ pos 0 → pos 0 ≤ℤ y → (pos 1048576 *ℤ x) ≤ℤ y
    none x y e h = omega (arith, ints)

    nothing : (x y z w : ℤ) → square (record { x = (x *ℤ w) -ℤ (x *ℤ w); y = (y *ℤ w) -ℤ (y *ℤ w); z = (z *ℤ w) -ℤ (z *ℤ w) }) ≡ pos 0
    nothing x y z w =
        let on : Letters = record { x = (var 0 ⊗ var 3) ⊖ (var 0 ⊗ var 3); y = (var 1 ⊗ var 3) ⊖ (var 1 ⊗ var 3); z = (var 2 ⊗ var 3) ⊖ (var 2 ⊗ var 3) } in
        ring (x ∷ y ∷ z ∷ w ∷ []) (dots on on) (con (pos 0)) refl

pub near-symmetric : (n : ℕ) (p q : Point) → AreNear n p q → AreNear n q p
near-symmetric n p q h = turned _ _ _ _ (back p.x p.y p.z p.w q.x q.y q.z q.w) (turn (pos n) p.w q.w) h
  where
    turned : (x y a b : ℤ) → y ≡ x → b ≡ a → (pos 1048576 *ℤ x) ≤ℤ a → (pos 1048576 *ℤ y) ≤ℤ b
    turned x y a b e f h = omega (arith, ints)

    turn : (n v w : ℤ) → (n *ℤ (w *ℤ v)) *ℤ (n *ℤ (w *ℤ v)) ≡ (n *ℤ (v *ℤ w)) *ℤ (n *ℤ (v *ℤ w))
    turn n v w = ring (n ∷ v ∷ w ∷ []) ((var 0 ⊗ (var 2 ⊗ var 1)) ⊗ (var 0 ⊗ (var 2 ⊗ var 1))) ((var 0 ⊗ (var 1 ⊗ var 2)) ⊗ (var 0 ⊗ (var 1 ⊗ var 2))) refl

    back : (x y z w x' y' z' w' : ℤ)
        → square (record { x = (x *ℤ w') -ℤ (x' *ℤ w); y = (y *ℤ w') -ℤ (y' *ℤ w); z = (z *ℤ w') -ℤ (z' *ℤ w) })
        ≡ square (record { x = (x' *ℤ w) -ℤ (x *ℤ w'); y = (y' *ℤ w) -ℤ (y *ℤ w'); z = (z' *ℤ w) -ℤ (z *ℤ w') })
    back x y z w x' y' z' w' =
        let one : Letters = record { x = (var 0 ⊗ var 7) ⊖ (var 4 ⊗ var 3); y = (var 1 ⊗ var 7) ⊖ (var 5 ⊗ var 3); z = (var 2 ⊗ var 7) ⊖ (var 6 ⊗ var 3) } in
        let other : Letters = record { x = (var 4 ⊗ var 3) ⊖ (var 0 ⊗ var 7); y = (var 5 ⊗ var 3) ⊖ (var 1 ⊗ var 7); z = (var 6 ⊗ var 3) ⊖ (var 2 ⊗ var 7) } in
        ring (x ∷ y ∷ z ∷ w ∷ x' ∷ y' ∷ z' ∷ w' ∷ []) (dots one one) (dots other other) refl

module _ (p q : Point) (at_p : IsPoint p) (at_q : IsPoint q) where
  both_positive : pos 0 ≤ℤ (p.w *ℤ q.w)
  both_positive = not_negative_of_positive _ (mul_pos p.w q.w at_p at_q)

  pub span_not_negative : (n : ℕ) → pos 0 ≤ℤ span_of n p q
  span_not_negative n = mul_nonneg (pos n) (p.w *ℤ q.w) (natural_not_negative n) both_positive

  pub near-wider : (n m : ℕ) → n ≤ m → AreNear n p q → AreNear m p q
  near-wider n m more h = through _ _ _ h (squares_order (span_of n p q) (span_of m p q) (span_not_negative n) (wider n m (p.w *ℤ q.w) both_positive more))
    where
      through : (x y z : ℤ) → x ≤ℤ y → y ≤ℤ z → x ≤ℤ z
      through x y z h k = omega (arith, ints)

      wider : (n m : ℕ) (w : ℤ) → pos 0 ≤ℤ w → n ≤ m → (pos n *ℤ w) ≤ℤ (pos m *ℤ w)
      wider n m w hw more =
          at_most_of_gap _ _ (subst (λ (v : ℤ). pos 0 ≤ℤ v) (sym (gap (pos n) (pos m) w)) (mul_nonneg (pos m -ℤ pos n) w (gap_of_at_most (pos n) (pos m) (naturals n m more)) hw))
        where
          naturals : (n m : ℕ) → n ≤ m → pos n ≤ℤ pos m
          naturals n m h = omega (arith, ints)

          gap : (n m w : ℤ) → (m *ℤ w) -ℤ (n *ℤ w) ≡ (m -ℤ n) *ℤ w
          gap n m w = ring (n ∷ m ∷ w ∷ []) ((var 1 ⊗ var 2) ⊖ (var 0 ⊗ var 2)) ((var 1 ⊖ var 0) ⊗ var 2) refl

-- ---- through a third point: the way is the sum of two ways, and lengths add up
way_through : (p q r : Point) → times q.w (apart p r) ≡ plus (times r.w (apart p q)) (times p.w (apart q r))
way_through p q r = λ i. record { x = on p.x p.w q.x q.w r.x r.w i; y = on p.y p.w q.y q.w r.y r.w i; z = on p.z p.w q.z q.w r.z r.w i }
  where
    on : (x u y v z w : ℤ) → v *ℤ ((z *ℤ u) -ℤ (x *ℤ w)) ≡ (w *ℤ ((y *ℤ u) -ℤ (x *ℤ v))) +ℤ (u *ℤ ((z *ℤ v) -ℤ (y *ℤ w)))
    on x u y v z w =
        ring (x ∷ u ∷ y ∷ v ∷ z ∷ w ∷ []) (var 3 ⊗ ((var 4 ⊗ var 1) ⊖ (var 0 ⊗ var 5)))
        ((var 5 ⊗ ((var 2 ⊗ var 1) ⊖ (var 0 ⊗ var 3))) ⊕ (var 1 ⊗ ((var 4 ⊗ var 3) ⊖ (var 2 ⊗ var 5)))) refl

-- a positive factor of the vector and of the length goes
no_longer-from_times : (k c : ℤ) (s : Triple) (a : ℤ) → pos 0 <ℤ c → IsNoLonger k (times c s) (c *ℤ a) → IsNoLonger k s a
no_longer-from_times k c s a hc h =
    at_most_of_gap _ _ (nonneg_of_mul (c *ℤ c) _ (mul_pos c c hc hc) (subst (λ (v : ℤ). pos 0 ≤ℤ v) (gap k c (square s) a _ (square-times c s)) (gap_of_at_most _ _ h)))
  where
    gap : (k c p a q : ℤ) → q ≡ (c *ℤ c) *ℤ p → ((c *ℤ a) *ℤ (c *ℤ a)) -ℤ (k *ℤ q) ≡ (c *ℤ c) *ℤ ((a *ℤ a) -ℤ (k *ℤ p))
    gap k c p a q e =
        ap (λ v. ((c *ℤ a) *ℤ (c *ℤ a)) -ℤ (k *ℤ v)) e
        ∙ ring (k ∷ c ∷ p ∷ a ∷ []) (((var 1 ⊗ var 3) ⊗ (var 1 ⊗ var 3)) ⊖ (var 0 ⊗ ((var 1 ⊗ var 1) ⊗ var 2))) ((var 1 ⊗ var 1) ⊗ ((var 3 ⊗ var 3) ⊖ (var 0 ⊗ var 2))) refl

pub near-through : (n m : ℕ) (p q r : Point) → IsPoint p → IsPoint q → IsPoint r → AreNear n p q → AreNear m q r → AreNear (n + m) p r
near-through n m p q r hp hq hr first second =
    no_longer-from_times (pos 1048576) q.w (apart p r) (span_of (n + m) p r) hq
    (subst (λ (s : Triple). IsNoLonger (pos 1048576) s (q.w *ℤ span_of (n + m) p r)) (sym (way_through p q r))
    (subst (λ (a : ℤ). IsNoLonger (pos 1048576) (plus (times r.w (apart p q)) (times p.w (apart q r))) a) (spans (pos n) (pos m) (pos (n + m)) p.w q.w r.w (pos-sum n m))
    (no_longer-plus (pos 1048576) (omega (arith, ints)) (times r.w (apart p q)) (times p.w (apart q r)) (r.w *ℤ span_of n p q) (p.w *ℤ span_of m q r)
    (mul_nonneg r.w (span_of n p q) (not_negative_of_positive _ hr) (span_not_negative p q hp hq n))
    (mul_nonneg p.w (span_of m q r) (not_negative_of_positive _ hp) (span_not_negative q r hq hr m))
    (no_longer-times (pos 1048576) (omega (arith, ints)) r.w (apart p q) (span_of n p q) first)
    (no_longer-times (pos 1048576) (omega (arith, ints)) p.w (apart q r) (span_of m q r) second))))
  where
    spans : (n m k u v w : ℤ) → k ≡ n +ℤ m → (w *ℤ (n *ℤ (u *ℤ v))) +ℤ (u *ℤ (m *ℤ (v *ℤ w))) ≡ v *ℤ (k *ℤ (u *ℤ w))
    spans n m k u v w e =
        ring (n ∷ m ∷ u ∷ v ∷ w ∷ []) ((var 4 ⊗ (var 0 ⊗ (var 2 ⊗ var 3))) ⊕ (var 2 ⊗ (var 1 ⊗ (var 3 ⊗ var 4)))) (var 3 ⊗ ((var 0 ⊕ var 1) ⊗ (var 2 ⊗ var 4))) refl
        ∙ ap (λ z. v *ℤ (z *ℤ (u *ℤ w))) (sym e)
