-- Parallel edges have a common point where an end of the first is on the second, or the second's start on the first.
use Rattle.std.proofs.Common.{◌≡◌, ℕ, ◌+◌, ◌<◌, ◌⊎◌, inl, inr, [], ◌∷◌, refl, sym, ap, ◌∙◌, arith}
use Rattle.std.specs.Prelude.{◌↔◌, ℤ, pos, ◌+ℤ◌, ◌-ℤ◌, ◌*ℤ◌, ◌≤ℤ◌, ◌<ℤ◌}
use Rattle.std.proofs.lemmas.Int.{ints, by_lt_z}
use Rattle.integers.proofs.Absolutes.{natural_not_negative}
use Rattle.integers.proofs.Comparisons.{gap_of_at_most, not_negative_of_positive, negation_not_negative, plus_zero, zero_plus}
use Rattle.integers.proofs.Ring.{Expr, var, con, ◌⊕◌, ◌⊖◌, ◌⊗◌, ring, by_one, by_two, by_three, gap_of_less}
use Rattle.integers.proofs.Signs.{mul_nonneg, mul_pos, zero_of_mul}
use Rattle.lattice.specs.declared.points.Corner.{Corner}
use Rattle.lattice.specs.Triple.{Triple, dot, cross, IsZero}
use Rattle.lattice.specs.Points.{Point, difference}
use Rattle.lattice.proofs.Vectors.{Letters, letters, dots, crosses}
use Rattle.geometry.specs.Faces.{edge_sum}
use Rattle.meeting.specs.inner.Edges.{EdgesTouch, IsBetween}
use Rattle.lattice.proofs.PointLetters.{ways}
use Rattle.meeting.proofs.InPlane.{sum_pos}
use Rattle.meeting.proofs.Balance.{balance, square-least, square-of-product}
use Rattle.meeting.proofs.EdgeWeights.{touch-of-sum}

-- ---- components of cross products
-- a, b and v are two components of three vectors, of which k times the first and l times the second are j times the third
module _ (k l j ay az by bz vy vz : ℤ) (some : pos 0 <ℤ (k +ℤ l)) (y : (k *ℤ ay) +ℤ (l *ℤ by) ≡ j *ℤ vy) (z : (k *ℤ az) +ℤ (l *ℤ bz) ≡ j *ℤ vz)
    (parallel : ((by -ℤ ay) *ℤ vz) -ℤ ((bz -ℤ az) *ℤ vy) ≡ pos 0) where
  abbrev Y : Expr
  Y = ((var 0 ⊗ var 3) ⊕ (var 1 ⊗ var 5)) ⊖ (var 2 ⊗ var 7)

  abbrev Z : Expr
  Z = ((var 0 ⊗ var 4) ⊕ (var 1 ⊗ var 6)) ⊖ (var 2 ⊗ var 8)

  abbrev P : Expr
  P = (((var 5 ⊖ var 3) ⊗ var 8) ⊖ ((var 6 ⊖ var 4) ⊗ var 7)) ⊖ con (pos 0)

  abbrev O : Expr
  O = con (pos 0)

  first-line : (ay *ℤ vz) -ℤ (az *ℤ vy) ≡ pos 0
  first-line = zero_of_mul (k +ℤ l) _ some
      (by_three ((k +ℤ l) *ℤ ((ay *ℤ vz) -ℤ (az *ℤ vy))) (pos 0) _ _ vz _ _ (pos 0 -ℤ vy) _ _ (pos 0 -ℤ l)
      (ring (k ∷ l ∷ j ∷ ay ∷ az ∷ by ∷ bz ∷ vy ∷ vz ∷ [])
      (((var 0 ⊕ var 1) ⊗ ((var 3 ⊗ var 8) ⊖ (var 4 ⊗ var 7))) ⊖ O)
      (((Y ⊗ var 8) ⊕ (Z ⊗ (O ⊖ var 7))) ⊕ (P ⊗ (O ⊖ var 1))) refl) y z parallel)

  second-line : (by *ℤ vz) -ℤ (bz *ℤ vy) ≡ pos 0
  second-line = zero_of_mul (k +ℤ l) _ some
      (by_three ((k +ℤ l) *ℤ ((by *ℤ vz) -ℤ (bz *ℤ vy))) (pos 0) _ _ vz _ _ (pos 0 -ℤ vy) _ _ k
      (ring (k ∷ l ∷ j ∷ ay ∷ az ∷ by ∷ bz ∷ vy ∷ vz ∷ [])
      (((var 0 ⊕ var 1) ⊗ ((var 5 ⊗ var 8) ⊖ (var 6 ⊗ var 7))) ⊖ O)
      (((Y ⊗ var 8) ⊕ (Z ⊗ (O ⊖ var 7))) ⊕ (P ⊗ var 0)) refl) y z parallel)

  both-line : (ay *ℤ bz) -ℤ (az *ℤ by) ≡ pos 0
  both-line = zero_of_mul (k +ℤ l) _ some
      (by_three ((k +ℤ l) *ℤ ((ay *ℤ bz) -ℤ (az *ℤ by))) (pos 0) _ _ (bz -ℤ az) _ _ (ay -ℤ by) _ _ (pos 0 -ℤ j)
      (ring (k ∷ l ∷ j ∷ ay ∷ az ∷ by ∷ bz ∷ vy ∷ vz ∷ [])
      (((var 0 ⊕ var 1) ⊗ ((var 3 ⊗ var 6) ⊖ (var 4 ⊗ var 5))) ⊖ O)
      (((Y ⊗ (var 6 ⊖ var 4)) ⊕ (Z ⊗ (var 3 ⊖ var 5))) ⊕ (P ⊗ (O ⊖ var 2))) refl) y z parallel)

-- ---- the way to the first edge's ends and along the second edge, from its start
abbrev R : Letters
R = letters 0

abbrev S : Letters
S = letters 3

abbrev V : Letters
V = letters 6

module _ (k l i j : ℤ) (k_least : pos 0 ≤ℤ k) (l_least : pos 0 ≤ℤ l) (i_least : pos 0 ≤ℤ i) (j_least : pos 0 ≤ℤ j) (some : pos 0 <ℤ (k +ℤ l)) (whole : k +ℤ l ≡ i +ℤ j)
    (r s v : Triple) (x : (k *ℤ r.x) +ℤ (l *ℤ s.x) ≡ j *ℤ v.x) (y : (k *ℤ r.y) +ℤ (l *ℤ s.y) ≡ j *ℤ v.y) (z : (k *ℤ r.z) +ℤ (l *ℤ s.z) ≡ j *ℤ v.z)
    (line : IsZero (cross r s)) where
  reached : (k *ℤ dot r r) +ℤ (l *ℤ dot r s) ≡ j *ℤ dot r v
  reached =
      let gap = λ (a b c : Expr). ((var 9 ⊗ a) ⊕ (var 10 ⊗ b)) ⊖ (var 11 ⊗ c) in
      by_three _ _ _ _ r.x _ _ r.y _ _ r.z
      (ring (r.x ∷ r.y ∷ r.z ∷ s.x ∷ s.y ∷ s.z ∷ v.x ∷ v.y ∷ v.z ∷ k ∷ l ∷ j ∷ [])
      (((var 9 ⊗ dots R R) ⊕ (var 10 ⊗ dots R S)) ⊖ (var 11 ⊗ dots R V))
      (((gap R.x S.x V.x ⊗ R.x) ⊕ (gap R.y S.y V.y ⊗ R.y)) ⊕ (gap R.z S.z V.z ⊗ R.z)) refl) x y z

  products : dot r v *ℤ dot s s ≡ dot s v *ℤ dot r s
  products =
      let m = cross v s in
      by_three _ _ (cross r s).x (pos 0) m.x (cross r s).y (pos 0) m.y (cross r s).z (pos 0) m.z
      (ring (r.x ∷ r.y ∷ r.z ∷ s.x ∷ s.y ∷ s.z ∷ v.x ∷ v.y ∷ v.z ∷ [])
      ((dots R V ⊗ dots S S) ⊖ (dots S V ⊗ dots R S))
      (((((crosses R S).x ⊖ con (pos 0)) ⊗ (crosses V S).x) ⊕ (((crosses R S).y ⊖ con (pos 0)) ⊗ (crosses V S).y))
      ⊕ (((crosses R S).z ⊖ con (pos 0)) ⊗ (crosses V S).z)) refl) line.x line.y line.z

  -- both ends can't be ahead of the second edge's end
  not-ahead : pos 0 <ℤ dot r s → dot r v <ℤ dot r r → dot s v <ℤ dot s s → ⊥
  not-ahead same far further =
      clash i j (dot r v) i_least j_least _ _ back
      (sum_pos k l (dot r r -ℤ dot r v) (dot r s -ℤ dot r v) k_least l_least some (gap_of_less (dot r v) (dot r r) far) (gap_of_less (dot r v) (dot r s) less))
      (sym reached) (sum_pos k l (dot r r) (dot r s) k_least l_least some (square-of-product r s same) same)
    where
      -- the first end is nearer than the second end's share
      less : dot r v <ℤ dot r s
      less = by_lt_z (dot r v) (dot r s) (λ h. h)
          (λ h. absurd (not_so (dot s s *ℤ (dot r v -ℤ dot r s)) (dot r s *ℤ (dot s s -ℤ dot s v))
          (sum (dot s s *ℤ (dot r v -ℤ dot r s)) (dot r s *ℤ (dot s s -ℤ dot s v)) (dot r v *ℤ dot s s) (dot s v *ℤ dot r s)
          (ring (dot r s ∷ dot s s ∷ dot s v ∷ dot r v ∷ [])
          ((var 1 ⊗ (var 3 ⊖ var 0)) ⊕ (var 0 ⊗ (var 1 ⊖ var 2)))
          ((var 3 ⊗ var 1) ⊖ (var 2 ⊗ var 0)) refl)
          products) (mul_nonneg (dot s s) (dot r v -ℤ dot r s) (square-least s) (gap_of_at_most (dot r s) (dot r v) h)) (mul_pos (dot r s) (dot s s -ℤ dot s v) same (gap_of_less (dot s v) (dot s s) further))))
        where
          sum : (f g m n : ℤ) → f +ℤ g ≡ m -ℤ n → m ≡ n → f +ℤ g ≡ pos 0
          sum f g m n e h = omega (arith, ints)

          not_so : (f g : ℤ) → f +ℤ g ≡ pos 0 → pos 0 ≤ℤ f → pos 0 <ℤ g → ⊥
          not_so f g e h k = omega (arith, ints)

      back : (k *ℤ (dot r r -ℤ dot r v)) +ℤ (l *ℤ (dot r s -ℤ dot r v)) ≡ pos 0 -ℤ (i *ℤ dot r v)
      back = by_two _ _ ((k *ℤ dot r r) +ℤ (l *ℤ dot r s)) (j *ℤ dot r v) (pos 1) (k +ℤ l) (i +ℤ j) (pos 0 -ℤ dot r v)
          (ring (k ∷ l ∷ i ∷ j ∷ dot r r ∷ dot r s ∷ dot r v ∷ [])
          (((var 0 ⊗ (var 4 ⊖ var 6)) ⊕ (var 1 ⊗ (var 5 ⊖ var 6))) ⊖ (con (pos 0) ⊖ (var 2 ⊗ var 6)))
          (((((var 0 ⊗ var 4) ⊕ (var 1 ⊗ var 5)) ⊖ (var 3 ⊗ var 6)) ⊗ con (pos 1)) ⊕ (((var 0 ⊕ var 1) ⊖ (var 2 ⊕ var 3)) ⊗ (con (pos 0) ⊖ var 6))) refl)
          reached whole

      clash : (i j f : ℤ) → pos 0 ≤ℤ i → pos 0 ≤ℤ j → (m n : ℤ) → m ≡ pos 0 -ℤ (i *ℤ f) → pos 0 <ℤ m → j *ℤ f ≡ n → pos 0 <ℤ n → ⊥
      clash i j f p q m n e h g t = by_lt_z (pos 0) f
          (λ up. none m (i *ℤ f) e h (mul_nonneg i f p (not_negative_of_positive f up)))
          (λ low. lost n (j *ℤ f) _ g t (ring (j ∷ f ∷ []) (var 0 ⊗ (con (pos 0) ⊖ var 1)) (con (pos 0) ⊖ (var 0 ⊗ var 1)) refl) (mul_nonneg j (pos 0 -ℤ f) q (negation_not_negative f low)))
        where
          none : (m n : ℤ) → m ≡ pos 0 -ℤ n → pos 0 <ℤ m → pos 0 ≤ℤ n → ⊥
          none m n e h k = omega (arith, ints)

          lost : (n o p : ℤ) → o ≡ n → pos 0 <ℤ n → p ≡ pos 0 -ℤ o → pos 0 ≤ℤ p → ⊥
          lost n o p e h f k = omega (arith, ints)

-- ---- edges
-- seen from another of three corners in one line, a component is turned
line-turned : (ay az by bz cy cz : ℤ) → ((ay -ℤ by) *ℤ (cz -ℤ bz)) -ℤ ((az -ℤ bz) *ℤ (cy -ℤ by)) ≡ pos 0 → ((by -ℤ ay) *ℤ (cz -ℤ az)) -ℤ ((bz -ℤ az) *ℤ (cy -ℤ ay)) ≡ pos 0
line-turned ay az by bz cy cz h = by_one _ _ (((ay -ℤ by) *ℤ (cz -ℤ bz)) -ℤ ((az -ℤ bz) *ℤ (cy -ℤ by))) (pos 0) (pos 0 -ℤ pos 1)
    (ring (ay ∷ az ∷ by ∷ bz ∷ cy ∷ cz ∷ [])
    ((((var 2 ⊖ var 0) ⊗ (var 5 ⊖ var 1)) ⊖ ((var 3 ⊖ var 1) ⊗ (var 4 ⊖ var 0))) ⊖ con (pos 0))
    (((((var 0 ⊖ var 2) ⊗ (var 5 ⊖ var 3)) ⊖ ((var 1 ⊖ var 3) ⊗ (var 4 ⊖ var 2))) ⊖ con (pos 0)) ⊗ (con (pos 0) ⊖ con (pos 1))) refl) h

-- the product of the ways from a corner m, by those from another
opposed-from : (m p q : Corner) → dot (difference m p) (difference m q) ≡ dot (difference p m) (difference p m) -ℤ dot (difference p m) (difference p q)
opposed-from m p q =
    ring (m.x ∷ m.y ∷ m.z ∷ p.x ∷ p.y ∷ p.z ∷ q.x ∷ q.y ∷ q.z ∷ [])
    (dots (ways R S) (ways R V)) (dots (ways S R) (ways S R) ⊖ dots (ways S R) (ways S V)) refl

module _ (a b p q : Corner) where
  -- ---- from a common point
  module _ (parallel : IsZero (cross (difference a b) (difference p q))) where
    module _ (k l i j : ℕ) (some : 0 < i + j) (same : edge_sum a b k l ≡ edge_sum p q i j) where
      weights : pos k +ℤ pos l ≡ pos i +ℤ pos j
      weights = ap (λ (s : Point). s.w) same

      positive : pos 0 <ℤ (pos k +ℤ pos l)
      positive = at _ weights
        where
          at : (z : ℤ) → z ≡ pos i +ℤ pos j → pos 0 <ℤ z
          at z e = omega (arith, ints, some)

      way : (a b p q : ℤ) → (pos k *ℤ a) +ℤ (pos l *ℤ b) ≡ (pos i *ℤ p) +ℤ (pos j *ℤ q) → (pos k *ℤ (a -ℤ p)) +ℤ (pos l *ℤ (b -ℤ p)) ≡ pos j *ℤ (q -ℤ p)
      way a b p q s = by_two _ _ ((pos k *ℤ a) +ℤ (pos l *ℤ b)) ((pos i *ℤ p) +ℤ (pos j *ℤ q)) (pos 1) (pos k +ℤ pos l) (pos i +ℤ pos j) (pos 0 -ℤ p)
          (ring (pos k ∷ pos l ∷ pos i ∷ pos j ∷ a ∷ b ∷ p ∷ q ∷ [])
          (((var 0 ⊗ (var 4 ⊖ var 6)) ⊕ (var 1 ⊗ (var 5 ⊖ var 6))) ⊖ (var 3 ⊗ (var 7 ⊖ var 6)))
          (((((var 0 ⊗ var 4) ⊕ (var 1 ⊗ var 5)) ⊖ ((var 2 ⊗ var 6) ⊕ (var 3 ⊗ var 7))) ⊗ con (pos 1))
          ⊕ (((var 0 ⊕ var 1) ⊖ (var 2 ⊕ var 3)) ⊗ (con (pos 0) ⊖ var 6))) refl) s weights

      x : (pos k *ℤ (a.x -ℤ p.x)) +ℤ (pos l *ℤ (b.x -ℤ p.x)) ≡ pos j *ℤ (q.x -ℤ p.x)
      x = way a.x b.x p.x q.x (ap (λ (s : Point). s.x) same)

      y : (pos k *ℤ (a.y -ℤ p.y)) +ℤ (pos l *ℤ (b.y -ℤ p.y)) ≡ pos j *ℤ (q.y -ℤ p.y)
      y = way a.y b.y p.y q.y (ap (λ (s : Point). s.y) same)

      z : (pos k *ℤ (a.z -ℤ p.z)) +ℤ (pos l *ℤ (b.z -ℤ p.z)) ≡ pos j *ℤ (q.z -ℤ p.z)
      z = way a.z b.z p.z q.z (ap (λ (s : Point). s.z) same)

      -- the edges' product, by the ways from p
      by-ways : (ay az by bz py pz qy qz : ℤ) → ((by -ℤ ay) *ℤ (qz -ℤ pz)) -ℤ ((bz -ℤ az) *ℤ (qy -ℤ py)) ≡ pos 0
          → (((by -ℤ py) -ℤ (ay -ℤ py)) *ℤ (qz -ℤ pz)) -ℤ (((bz -ℤ pz) -ℤ (az -ℤ pz)) *ℤ (qy -ℤ py)) ≡ pos 0
      by-ways ay az by bz py pz qy qz h =
          ring (ay ∷ az ∷ by ∷ bz ∷ py ∷ pz ∷ qy ∷ qz ∷ [])
          ((((var 2 ⊖ var 4) ⊖ (var 0 ⊖ var 4)) ⊗ (var 7 ⊖ var 5)) ⊖ (((var 3 ⊖ var 5) ⊖ (var 1 ⊖ var 5)) ⊗ (var 6 ⊖ var 4)))
          (((var 2 ⊖ var 0) ⊗ (var 7 ⊖ var 5)) ⊖ ((var 3 ⊖ var 1) ⊗ (var 6 ⊖ var 4))) refl ∙ h

      px : (((b.y -ℤ p.y) -ℤ (a.y -ℤ p.y)) *ℤ (q.z -ℤ p.z)) -ℤ (((b.z -ℤ p.z) -ℤ (a.z -ℤ p.z)) *ℤ (q.y -ℤ p.y)) ≡ pos 0
      px = by-ways a.y a.z b.y b.z p.y p.z q.y q.z parallel.x

      py : (((b.z -ℤ p.z) -ℤ (a.z -ℤ p.z)) *ℤ (q.x -ℤ p.x)) -ℤ (((b.x -ℤ p.x) -ℤ (a.x -ℤ p.x)) *ℤ (q.z -ℤ p.z)) ≡ pos 0
      py = by-ways a.z a.x b.z b.x p.z p.x q.z q.x parallel.y

      pz : (((b.x -ℤ p.x) -ℤ (a.x -ℤ p.x)) *ℤ (q.y -ℤ p.y)) -ℤ (((b.y -ℤ p.y) -ℤ (a.y -ℤ p.y)) *ℤ (q.x -ℤ p.x)) ≡ pos 0
      pz = by-ways a.x a.y b.x b.y p.x p.y q.x q.y parallel.z

      -- the three are in one line with each other
      line : IsZero (cross (difference p a) (difference p b))
      line = record {
        x = both-line (pos k) (pos l) (pos j) _ _ _ _ _ _ positive y z px;
        y = both-line (pos k) (pos l) (pos j) _ _ _ _ _ _ positive z x py;
        z = both-line (pos k) (pos l) (pos j) _ _ _ _ _ _ positive x y pz;
      }

      line-a : IsZero (cross (difference a p) (difference a q))
      line-a = record {
        x = line-turned a.y a.z p.y p.z q.y q.z (first-line (pos k) (pos l) (pos j) _ _ _ _ _ _ positive y z px);
        y = line-turned a.z a.x p.z p.x q.z q.x (first-line (pos k) (pos l) (pos j) _ _ _ _ _ _ positive z x py);
        z = line-turned a.x a.y p.x p.y q.x q.y (first-line (pos k) (pos l) (pos j) _ _ _ _ _ _ positive x y pz);
      }

      line-b : IsZero (cross (difference b p) (difference b q))
      line-b = record {
        x = line-turned b.y b.z p.y p.z q.y q.z (second-line (pos k) (pos l) (pos j) _ _ _ _ _ _ positive y z px);
        y = line-turned b.z b.x p.z p.x q.z q.x (second-line (pos k) (pos l) (pos j) _ _ _ _ _ _ positive z x py);
        z = line-turned b.x b.y p.x p.y q.x q.y (second-line (pos k) (pos l) (pos j) _ _ _ _ _ _ positive x y pz);
      }

      most : (m f g : ℤ) → m ≡ f -ℤ g → f ≤ℤ g → m ≤ℤ pos 0
      most m f g e h = omega (arith, ints)

      some-end : IsBetween p a b ⊎ IsBetween a p q ⊎ IsBetween b p q
      some-end =
          let r = difference p a in
          let s = difference p b in
          let v = difference p q in
          by_lt_z (pos 0) (dot r s)
          (λ ahead. by_lt_z (dot r v) (dot r r)
          (λ far. by_lt_z (dot s v) (dot s s)
          (λ further. absurd (not-ahead (pos k) (pos l) (pos i) (pos j) (natural_not_negative k) (natural_not_negative l) (natural_not_negative i) (natural_not_negative j) positive weights r s v x y z line ahead far further))
          (λ near. inr (inr (record { in_line = line-b; opposed = most _ _ _ (opposed-from b p q) near }))))
          (λ near. inr (inl (record { in_line = line-a; opposed = most _ _ _ (opposed-from a p q) near }))))
          (λ opposed. inl (record { in_line = line; opposed = opposed }))

    to : EdgesTouch a b p q → IsBetween p a b ⊎ IsBetween a p q ⊎ IsBetween b p q
    to t =
        let (k, l, some, is) = t.on_first in
        let (i, j, some', is') = t.on_second in
        some-end k l i j some' (sym is ∙ is')

  -- ---- to a common point
  -- the sum of the ways from a corner m is 0, so that of the ends is m, as often as the weights are in all
  at-corner : (i j m p q : ℤ) → (i *ℤ (p -ℤ m)) +ℤ (j *ℤ (q -ℤ m)) ≡ pos 0 → (i *ℤ p) +ℤ (j *ℤ q) ≡ (i +ℤ j) *ℤ m
  at-corner i j m p q h = by_one _ _ ((i *ℤ (p -ℤ m)) +ℤ (j *ℤ (q -ℤ m))) (pos 0) (pos 1)
      (ring (i ∷ j ∷ m ∷ p ∷ q ∷ [])
      (((var 0 ⊗ var 3) ⊕ (var 1 ⊗ var 4)) ⊖ ((var 0 ⊕ var 1) ⊗ var 2))
      ((((var 0 ⊗ (var 3 ⊖ var 2)) ⊕ (var 1 ⊗ (var 4 ⊖ var 2))) ⊖ con (pos 0)) ⊗ con (pos 1)) refl) h

  none : pos 0 ≤ℤ pos 0
  none = omega (arith, ints)

  first-alone : (z f g : ℤ) → z *ℤ f ≡ (z *ℤ f) +ℤ (pos 0 *ℤ g)
  first-alone z f g = omega (arith, ints)

  second-alone : (z f g : ℤ) → z *ℤ g ≡ (pos 0 *ℤ f) +ℤ (z *ℤ g)
  second-alone z f g = omega (arith, ints)

  start-between : IsBetween p a b → EdgesTouch a b p q
  start-between h =
      let w = balance _ _ h.in_line h.opposed in
      let m = w.i +ℤ w.j in
      touch-of-sum a b p q (record {
        k = w.i;
        l = w.j;
        i = m;
        j = pos 0;
        k_least = w.i_least;
        l_least = w.j_least;
        i_least = not_negative_of_positive m w.some;
        j_least = none;
        some = more m w.some;
        whole = plus_zero m;
        x = at-corner w.i w.j p.x a.x b.x w.x ∙ first-alone m p.x q.x;
        y = at-corner w.i w.j p.y a.y b.y w.y ∙ first-alone m p.y q.y;
        z = at-corner w.i w.j p.z a.z b.z w.z ∙ first-alone m p.z q.z;
      })
    where
      more : (z : ℤ) → pos 0 <ℤ z → pos 0 <ℤ (z +ℤ pos 0)
      more z h = omega (arith, ints)

  first-between : IsBetween a p q → EdgesTouch a b p q
  first-between h =
      let w = balance _ _ h.in_line h.opposed in
      let m = w.i +ℤ w.j in
      touch-of-sum a b p q (record {
        k = m;
        l = pos 0;
        i = w.i;
        j = w.j;
        k_least = not_negative_of_positive m w.some;
        l_least = none;
        i_least = w.i_least;
        j_least = w.j_least;
        some = w.some;
        whole = sym (plus_zero m);
        x = sym (at-corner w.i w.j a.x p.x q.x w.x ∙ first-alone m a.x b.x);
        y = sym (at-corner w.i w.j a.y p.y q.y w.y ∙ first-alone m a.y b.y);
        z = sym (at-corner w.i w.j a.z p.z q.z w.z ∙ first-alone m a.z b.z);
      })

  second-between : IsBetween b p q → EdgesTouch a b p q
  second-between h =
      let w = balance _ _ h.in_line h.opposed in
      let m = w.i +ℤ w.j in
      touch-of-sum a b p q (record {
        k = pos 0;
        l = m;
        i = w.i;
        j = w.j;
        k_least = none;
        l_least = not_negative_of_positive m w.some;
        i_least = w.i_least;
        j_least = w.j_least;
        some = w.some;
        whole = sym (zero_plus m);
        x = sym (at-corner w.i w.j b.x p.x q.x w.x ∙ second-alone m a.x b.x);
        y = sym (at-corner w.i w.j b.y p.y q.y w.y ∙ second-alone m a.y b.y);
        z = sym (at-corner w.i w.j b.z p.z q.z w.z ∙ second-alone m a.z b.z);
      })

  pub parallel-edges : IsZero (cross (difference a b) (difference p q)) → EdgesTouch a b p q ↔ (IsBetween p a b ⊎ IsBetween a p q ⊎ IsBetween b p q)
  parallel-edges parallel = (to parallel, λ h. elim h [ inl m ↦ start-between m | inr (inl m) ↦ first-between m | inr (inr m) ↦ second-between m ])
