-- Where an edge from a corner of a flat triangle has another point in common with it.
use Rattle.std.proofs.Common.{◌≡◌, ℕ, zero, suc, ◌+◌, ◌<◌, ◌⊎◌, inl, inr, [], ◌∷◌, refl, sym, subst, ap, ◌∙◌, arith}
use Rattle.std.specs.Prelude.{◌↔◌, ℤ, pos, ◌+ℤ◌, ◌-ℤ◌, ◌*ℤ◌, ◌≤ℤ◌, ◌<ℤ◌, unsigned_abs}
use Rattle.std.proofs.lemmas.Int.{ints, by_lt_z}
use Rattle.geometry.proofs.FacePoints.{face_point-of_side}
use Rattle.integers.proofs.Absolutes.{abs_of_not_negative, natural_of_positive}
use Rattle.integers.proofs.Comparisons.{not_negative_of_positive, positive_not_zero}
use Rattle.integers.proofs.Ring.{Expr, var, con, ◌⊕◌, ◌⊖◌, ◌⊗◌, ring, by_one, by_two, by_three, same_of_gap}
use Rattle.integers.proofs.Signs.{mul_pos, mul_nonpos, zero_of_mul}
use Rattle.lattice.specs.declared.points.Corner.{Corner}
use Rattle.lattice.specs.Triple.{Triple, dot}
use Rattle.lattice.specs.Points.{Point, point_of, difference, AreOnePoint}
use Rattle.lattice.proofs.Vectors.{Letters, letters, dots}
use Rattle.geometry.specs.Faces.{IsFlat, edge_sum, face_sum, IsPointOfEdge, IsPointOfFace}
use Rattle.meeting.specs.inner.Edges.{IsOneWay}
use Rattle.meeting.specs.Touching.{TouchBeyond}
use Rattle.lattice.proofs.PointLetters.{ways}
use Rattle.meeting.proofs.Balance.{zero-of-square, square-of-product, along_x, along_y, along_z}
use Rattle.meeting.proofs.EdgeWeights.{face-of-second}
use Rattle.meeting.proofs.Beyond.{alike-point, alike-of-point, off-start}

abbrev U : Letters
U = letters 0

abbrev V : Letters
V = letters 3

-- ---- from a common point
-- w times j is the sum of the sides u and v, times l and m: each side is in one line with it
module _ (j l m uy uz vy vz wy wz : ℤ) (some : pos 0 <ℤ j) (y : j *ℤ wy ≡ (l *ℤ uy) +ℤ (m *ℤ vy)) (z : j *ℤ wz ≡ (l *ℤ uz) +ℤ (m *ℤ vz))
    (flat : (uy *ℤ vz) -ℤ (uz *ℤ vy) ≡ pos 0) where
  abbrev O : Expr
  O = con (pos 0)

  abbrev Y : Expr
  Y = (var 0 ⊗ var 7) ⊖ ((var 1 ⊗ var 3) ⊕ (var 2 ⊗ var 5))

  abbrev Z : Expr
  Z = (var 0 ⊗ var 8) ⊖ ((var 1 ⊗ var 4) ⊕ (var 2 ⊗ var 6))

  abbrev F : Expr
  F = ((var 3 ⊗ var 6) ⊖ (var 4 ⊗ var 5)) ⊖ con (pos 0)

  first-line : (uy *ℤ wz) -ℤ (uz *ℤ wy) ≡ pos 0
  first-line = zero_of_mul j _ some
      (by_three (j *ℤ ((uy *ℤ wz) -ℤ (uz *ℤ wy))) (pos 0) _ _ (pos 0 -ℤ uz) _ _ uy _ _ m
      (ring (j ∷ l ∷ m ∷ uy ∷ uz ∷ vy ∷ vz ∷ wy ∷ wz ∷ [])
      ((var 0 ⊗ ((var 3 ⊗ var 8) ⊖ (var 4 ⊗ var 7))) ⊖ O)
      (((Y ⊗ (O ⊖ var 4)) ⊕ (Z ⊗ var 3)) ⊕ (F ⊗ var 2)) refl) y z flat)

  second-line : (vy *ℤ wz) -ℤ (vz *ℤ wy) ≡ pos 0
  second-line = zero_of_mul j _ some
      (by_three (j *ℤ ((vy *ℤ wz) -ℤ (vz *ℤ wy))) (pos 0) _ _ (pos 0 -ℤ vz) _ _ vy _ _ (pos 0 -ℤ l)
      (ring (j ∷ l ∷ m ∷ uy ∷ uz ∷ vy ∷ vz ∷ wy ∷ wz ∷ [])
      ((var 0 ⊗ ((var 5 ⊗ var 8) ⊖ (var 6 ⊗ var 7))) ⊖ O)
      (((Y ⊗ (O ⊖ var 6)) ⊕ (Z ⊗ var 5)) ⊕ (F ⊗ (O ⊖ var 1))) refl) y z flat)

module _ (a b c q : Corner) where
  module _ (flat : IsFlat a b c) where
    module _ (i j k l m : ℕ) (same : edge_sum a q i j ≡ face_sum a b c k l m) (off : ¬ AreOnePoint (point_of a) (edge_sum a q i j)) where
      abbrev u : Triple
      u = difference a b

      abbrev v : Triple
      v = difference a c

      abbrev w : Triple
      w = difference a q

      some : pos 0 <ℤ pos j
      some = count (off-start a q i j off)
        where
          count : 0 < j → pos 0 <ℤ pos j
          count h = omega (arith, ints)

      way : (a b c q : ℤ) → (pos i *ℤ a) +ℤ (pos j *ℤ q) ≡ ((pos k *ℤ a) +ℤ (pos l *ℤ b)) +ℤ (pos m *ℤ c) → pos j *ℤ (q -ℤ a) ≡ (pos l *ℤ (b -ℤ a)) +ℤ (pos m *ℤ (c -ℤ a))
      way a b c q h = by_two _ _ ((pos i *ℤ a) +ℤ (pos j *ℤ q)) (((pos k *ℤ a) +ℤ (pos l *ℤ b)) +ℤ (pos m *ℤ c)) (pos 1)
          (pos i +ℤ pos j) ((pos k +ℤ pos l) +ℤ pos m) (pos 0 -ℤ a)
          (ring (pos i ∷ pos j ∷ pos k ∷ pos l ∷ pos m ∷ a ∷ b ∷ c ∷ q ∷ [])
          ((var 1 ⊗ (var 8 ⊖ var 5)) ⊖ ((var 3 ⊗ (var 6 ⊖ var 5)) ⊕ (var 4 ⊗ (var 7 ⊖ var 5))))
          (((((var 0 ⊗ var 5) ⊕ (var 1 ⊗ var 8)) ⊖ (((var 2 ⊗ var 5) ⊕ (var 3 ⊗ var 6)) ⊕ (var 4 ⊗ var 7))) ⊗ con (pos 1))
          ⊕ (((var 0 ⊕ var 1) ⊖ ((var 2 ⊕ var 3) ⊕ var 4)) ⊗ (con (pos 0) ⊖ var 5))) refl)
          h (ap (λ (s : Point). s.w) same)

      x : pos j *ℤ (q.x -ℤ a.x) ≡ (pos l *ℤ (b.x -ℤ a.x)) +ℤ (pos m *ℤ (c.x -ℤ a.x))
      x = way a.x b.x c.x q.x (ap (λ (s : Point). s.x) same)

      y : pos j *ℤ (q.y -ℤ a.y) ≡ (pos l *ℤ (b.y -ℤ a.y)) +ℤ (pos m *ℤ (c.y -ℤ a.y))
      y = way a.y b.y c.y q.y (ap (λ (s : Point). s.y) same)

      z : pos j *ℤ (q.z -ℤ a.z) ≡ (pos l *ℤ (b.z -ℤ a.z)) +ℤ (pos m *ℤ (c.z -ℤ a.z))
      z = way a.z b.z c.z q.z (ap (λ (s : Point). s.z) same)

      line-b : IsFlat a b q
      line-b = record {
        x = first-line (pos j) (pos l) (pos m) _ _ _ _ _ _ some y z flat.x;
        y = first-line (pos j) (pos l) (pos m) _ _ _ _ _ _ some z x flat.y;
        z = first-line (pos j) (pos l) (pos m) _ _ _ _ _ _ some x y flat.z;
      }

      line-c : IsFlat a c q
      line-c = record {
        x = second-line (pos j) (pos l) (pos m) _ _ _ _ _ _ some y z flat.x;
        y = second-line (pos j) (pos l) (pos m) _ _ _ _ _ _ some z x flat.y;
        z = second-line (pos j) (pos l) (pos m) _ _ _ _ _ _ some x y flat.z;
      }

      products : (pos l *ℤ dot u w) +ℤ (pos m *ℤ dot v w) ≡ pos j *ℤ dot w w
      products =
          let gap = λ (e f g : Expr). (var 11 ⊗ g) ⊖ ((var 9 ⊗ e) ⊕ (var 10 ⊗ f)) in
          let T = letters 6 in
          by_three _ _ _ _ (pos 0 -ℤ w.x) _ _ (pos 0 -ℤ w.y) _ _ (pos 0 -ℤ w.z)
          (ring (u.x ∷ u.y ∷ u.z ∷ v.x ∷ v.y ∷ v.z ∷ w.x ∷ w.y ∷ w.z ∷ pos l ∷ pos m ∷ pos j ∷ [])
          (((var 9 ⊗ dots U T) ⊕ (var 10 ⊗ dots V T)) ⊖ (var 11 ⊗ dots T T))
          (((gap U.x V.x T.x ⊗ (con (pos 0) ⊖ T.x)) ⊕ (gap U.y V.y T.y ⊗ (con (pos 0) ⊖ T.y))) ⊕ (gap U.z V.z T.z ⊗ (con (pos 0) ⊖ T.z))) refl) x y z

      apart : pos 0 <ℤ dot w w
      apart = by_lt_z (pos 0) (dot w w) (λ h. h)
          (λ h. let none = zero-of-square w h in absurd (off (alike-point a q i j (record { x = same_of_gap q.x a.x none.x; y = same_of_gap q.y a.y none.y; z = same_of_gap q.z a.z none.z }))))

      one-way : IsOneWay a b q ⊎ IsOneWay a c q
      one-way = by_lt_z (pos 0) (dot u w) (λ h. inl (record { in_line = line-b; ahead = h }))
          (λ low. by_lt_z (pos 0) (dot v w) (λ h. inr (record { in_line = line-c; ahead = h }))
          (λ back. absurd (none _ _ _ products (lower l _ low) (lower m _ back) (mul_pos (pos j) _ some apart))))
        where
          none : (e f g : ℤ) → e +ℤ f ≡ g → e ≤ℤ pos 0 → f ≤ℤ pos 0 → pos 0 <ℤ g → ⊥
          none e f g s h k p = omega (arith, ints)

          zero_of : (f : ℤ) → (pos 0 *ℤ f) ≤ℤ pos 0
          zero_of f = omega (arith, ints)

          lower : (n : ℕ) (f : ℤ) → f ≤ℤ pos 0 → (pos n *ℤ f) ≤ℤ pos 0
          lower zero f h = zero_of f
          lower (suc n) f h = mul_nonpos (pos (suc n)) f (up n) h
            where
              up : (n : ℕ) → pos 0 <ℤ pos (suc n)
              up n = omega (arith, ints)

    to : TouchBeyond a b c q → IsOneWay a b q ⊎ IsOneWay a c q
    to t =
        let (i, j, some, e) = t.on_edge in
        let (k, l, m, some_face, f) = t.on_face in
        one-way i j k l m (sym e ∙ f) (subst (λ (s : Point). ¬ AreOnePoint (point_of a) s) e t.off)

-- ---- to a common point, along a side
module _ (a e q : Corner) (h : IsOneWay a e q) where
  abbrev square : ℤ
  square = dot (difference a e) (difference a e)

  abbrev product : ℤ
  product = dot (difference a e) (difference a q)

  positive : pos 0 <ℤ square
  positive = square-of-product (difference a e) (difference a q) h.ahead

  is_square : pos (unsigned_abs square) ≡ square
  is_square = abs_of_not_negative square (not_negative_of_positive square positive)

  is_product : pos (unsigned_abs product) ≡ product
  is_product = abs_of_not_negative product (not_negative_of_positive product h.ahead)

  sums : (a e q : ℤ) → square *ℤ (q -ℤ a) ≡ product *ℤ (e -ℤ a)
      → (pos (unsigned_abs product) *ℤ a) +ℤ (pos (unsigned_abs square) *ℤ q) ≡ (pos (unsigned_abs square) *ℤ a) +ℤ (pos (unsigned_abs product) *ℤ e)
  sums a e q h =
      (λ t. (is_product t *ℤ a) +ℤ (is_square t *ℤ q))
      ∙ by_one _ _ (square *ℤ (q -ℤ a)) (product *ℤ (e -ℤ a)) (pos 1)
      (ring (square ∷ product ∷ a ∷ e ∷ q ∷ [])
      (((var 1 ⊗ var 2) ⊕ (var 0 ⊗ var 4)) ⊖ ((var 0 ⊗ var 2) ⊕ (var 1 ⊗ var 3)))
      (((var 0 ⊗ (var 4 ⊖ var 2)) ⊖ (var 1 ⊗ (var 3 ⊖ var 2))) ⊗ con (pos 1)) refl) h
      ∙ sym (λ t. (is_square t *ℤ a) +ℤ (is_product t *ℤ e))

  whole : (m n : ℕ) → m + n ≡ n + m
  whole m n = omega arith

  same : edge_sum a q (unsigned_abs product) (unsigned_abs square) ≡ edge_sum a e (unsigned_abs square) (unsigned_abs product)
  same =
      let on_x = sums a.x e.x q.x (along_x (difference a e) (difference a q) h.in_line) in
      let on_y = sums a.y e.y q.y (along_y (difference a e) (difference a q) h.in_line) in
      let on_z = sums a.z e.z q.z (along_z (difference a e) (difference a q) h.in_line) in
      λ t. record { x = on_x t; y = on_y t; z = on_z t; w = pos (whole (unsigned_abs product) (unsigned_abs square) t) }

  some-square : 0 < unsigned_abs square
  some-square = natural_of_positive _ _ is_square positive

  off-side : ¬ AreOnePoint (point_of a) (edge_sum a q (unsigned_abs product) (unsigned_abs square))
  off-side one =
      let alike = alike-of-point a q (unsigned_abs product) (unsigned_abs square) some-square one in
      positive_not_zero _ h.ahead ((λ t. dot (difference a e) (record { x = alike.x t -ℤ a.x; y = alike.y t -ℤ a.y; z = alike.z t -ℤ a.z })) ∙ still)
    where
      still : dot (difference a e) (difference a a) ≡ pos 0
      still = ring (a.x ∷ a.y ∷ a.z ∷ e.x ∷ e.y ∷ e.z ∷ []) (dots (ways U V) (ways U U)) (con (pos 0)) refl

  -- a point of the side and of the edge, by their weights
  point-beyond : (P : Point → Type 0) → ((s : Point) → IsPointOfEdge a e s → P s) → (s : Point) × IsPointOfEdge a q s × P s × (¬ AreOnePoint (point_of a) s)
  point-beyond P of_side =
      let s = edge_sum a q (unsigned_abs product) (unsigned_abs square) in (
        s,
        (unsigned_abs product, unsigned_abs square, omega (arith, some-square), refl),
        of_side s (unsigned_abs square, unsigned_abs product, omega (arith, some-square), same),
        off-side,
      )

pub beyond-of-flat : (a b c q : Corner) → IsFlat a b c → TouchBeyond a b c q ↔ (IsOneWay a b q ⊎ IsOneWay a c q)
beyond-of-flat a b c q flat = (
  to a b c q flat,
  λ h. elim h [
    | inl w ↦ let (s, on_edge, on_face, off) = point-beyond a b q w (IsPointOfFace a b c) (face_point-of_side a b c) in record { point = s; on_edge = on_edge; on_face = on_face; off = off }
    | inr w ↦ let (s, on_edge, on_face, off) = point-beyond a c q w (IsPointOfFace a b c) (face-of-second a b c) in record { point = s; on_edge = on_edge; on_face = on_face; off = off }
  ],
)
