-- The values of a face's three sides at a point weigh the face's corners to the point and a multiple of the direction.
use Rattle.std.proofs.Common.{◌≡◌, ℕ, ◌+◌, ◌*◌, List, [], ◌∷◌, refl, sym, ap, ◌∙◌, arith}
use Rattle.std.specs.Prelude.{ℤ, pos, negsuc, ◌+ℤ◌, ◌-ℤ◌, ◌*ℤ◌, ◌≤ℤ◌}
use Rattle.std.proofs.lemmas.Int.{ints}
use Rattle.integers.proofs.Ring.{Expr, var, con, ◌⊕◌, ◌⊖◌, ◌⊗◌, ring, by_one, by_three}
use Rattle.lattice.specs.declared.points.Corner.{Corner}
use Rattle.lattice.specs.Triple.{Triple, det}
use Rattle.lattice.specs.Points.{Point, point_of, difference, OnOneSight}
use Rattle.lattice.proofs.Vectors.{Letters, letters, dots, crosses}
use Rattle.lattice.proofs.SightLines.{sight_of_along}
use Rattle.geometry.specs.Faces.{facing_of, face_sum, edge_sum}
use Rattle.hiding_laws.specs.Values.{side_of, depth_of}
use Rattle.lattice.proofs.PointLetters.{PointLetters, point_letters, corner_letters, ways, offsets, normals}

-- a whole number of at least 0
pub natural : (z : ℤ) → pos 0 ≤ℤ z → (k : ℕ) × (z ≡ pos k)
natural (pos k) h = (k, refl)
natural (negsuc k) h = absurd (omega (arith, ints))

abbrev D : Letters
D = letters 0

abbrev A : Letters
A = letters 3

abbrev B : Letters
B = letters 6

abbrev C : Letters
C = letters 9

abbrev P : PointLetters
P = point_letters 12

abbrev sides : Letters → Letters → PointLetters → Expr
sides a b p = dots D (crosses (ways a b) (offsets a p))

abbrev depths : PointLetters → Expr
depths p = con (pos 0) ⊖ dots (offsets A p) (normals A B C)

abbrev facings : Letters → Letters → Letters → Expr
facings a b c = dots D (normals a b c)

module _ (d : Triple) (a b c : Corner) where
  abbrev values : Point → List ℤ
  values p = d.x ∷ d.y ∷ d.z ∷ a.x ∷ a.y ∷ a.z ∷ b.x ∷ b.y ∷ b.z ∷ c.x ∷ c.y ∷ c.z ∷ p.x ∷ p.y ∷ p.z ∷ p.w ∷ []

  -- the order of the corners may go round
  pub facing-round : facing_of d b c a ≡ facing_of d a b c
  facing-round = ring (values (point_of a)) (facings B C A) (facings A B C) refl

  module _ (p : Point) where
    pub sides-sum : (side_of d b c p +ℤ side_of d c a p) +ℤ side_of d a b p ≡ p.w *ℤ facing_of d a b c
    sides-sum = ring (values p) ((sides B C P ⊕ sides C A P) ⊕ sides A B P) (P.w ⊗ facings A B C) refl

    pub weigh_x : ((side_of d b c p *ℤ a.x) +ℤ (side_of d c a p *ℤ b.x)) +ℤ (side_of d a b p *ℤ c.x) ≡ (facing_of d a b c *ℤ p.x) +ℤ (depth_of a b c p *ℤ d.x)
    weigh_x = ring (values p) (((sides B C P ⊗ A.x) ⊕ (sides C A P ⊗ B.x)) ⊕ (sides A B P ⊗ C.x)) ((facings A B C ⊗ P.x) ⊕ (depths P ⊗ D.x)) refl

    pub weigh_y : ((side_of d b c p *ℤ a.y) +ℤ (side_of d c a p *ℤ b.y)) +ℤ (side_of d a b p *ℤ c.y) ≡ (facing_of d a b c *ℤ p.y) +ℤ (depth_of a b c p *ℤ d.y)
    weigh_y = ring (values p) (((sides B C P ⊗ A.y) ⊕ (sides C A P ⊗ B.y)) ⊕ (sides A B P ⊗ C.y)) ((facings A B C ⊗ P.y) ⊕ (depths P ⊗ D.y)) refl

    pub weigh_z : ((side_of d b c p *ℤ a.z) +ℤ (side_of d c a p *ℤ b.z)) +ℤ (side_of d a b p *ℤ c.z) ≡ (facing_of d a b c *ℤ p.z) +ℤ (depth_of a b c p *ℤ d.z)
    weigh_z = ring (values p) (((sides B C P ⊗ A.z) ⊕ (sides C A P ⊗ B.z)) ⊕ (sides A B P ⊗ C.z)) ((facings A B C ⊗ P.z) ⊕ (depths P ⊗ D.z)) refl

-- the plane of three corners is not deep at them
module _ (a b c : Corner) where
  abbrev plane : List ℤ
  plane = pos 0 ∷ pos 0 ∷ pos 0 ∷ a.x ∷ a.y ∷ a.z ∷ b.x ∷ b.y ∷ b.z ∷ c.x ∷ c.y ∷ c.z ∷ []

  pub depth-at_a : depth_of a b c (point_of a) ≡ pos 0
  depth-at_a = ring plane (depths (corner_letters A)) (con (pos 0)) refl

  pub depth-at_b : depth_of a b c (point_of b) ≡ pos 0
  depth-at_b = ring plane (depths (corner_letters B)) (con (pos 0)) refl

  pub depth-at_c : depth_of a b c (point_of c) ≡ pos 0
  depth-at_c = ring plane (depths (corner_letters C)) (con (pos 0)) refl

-- what is seen on a side is linear along an edge that is parallel to it
pub parallel-side : (d : Triple) (a b p q : Corner) → det d (difference p q) (difference a b) ≡ pos 0 → side_of d a b (point_of p) ≡ side_of d a b (point_of q)
parallel-side d a b p q parallel =
    by_one (side_of d a b (point_of p)) (side_of d a b (point_of q)) (det d (difference p q) (difference a b)) (pos 0) (pos 1)
    (ring (d.x ∷ d.y ∷ d.z ∷ a.x ∷ a.y ∷ a.z ∷ b.x ∷ b.y ∷ b.z ∷ p.x ∷ p.y ∷ p.z ∷ q.x ∷ q.y ∷ q.z ∷ [])
    (sides A B (corner_letters C) ⊖ sides A B (corner_letters (letters 12)))
    ((dots D (crosses (ways C (letters 12)) (ways A B)) ⊖ con (pos 0)) ⊗ con (pos 1)) refl) parallel

-- ---- a point on a side's line of sight
abbrev Sum : Expr
Sum = (var 0 ⊗ var 3) ⊕ (var 1 ⊗ var 4)

-- the difference of i a + j b and p, each times the other's divisor
away : (i j z a b c f p w t s r : ℤ) → ((i *ℤ a) +ℤ (j *ℤ b)) +ℤ (z *ℤ c) ≡ (f *ℤ p) +ℤ (s *ℤ r) → z ≡ pos 0 → t ≡ w *ℤ f
    → pos 1 *ℤ (((i *ℤ a) +ℤ (j *ℤ b)) *ℤ w -ℤ p *ℤ t) ≡ (w *ℤ s) *ℤ r
away i j z a b c f p w t s r weigh zero sum =
    by_three (pos 1 *ℤ (((i *ℤ a) +ℤ (j *ℤ b)) *ℤ w -ℤ p *ℤ t)) ((w *ℤ s) *ℤ r)
    (((i *ℤ a) +ℤ (j *ℤ b)) +ℤ (z *ℤ c)) ((f *ℤ p) +ℤ (s *ℤ r)) w z (pos 0) (pos 0 -ℤ (c *ℤ w)) t (w *ℤ f) (pos 0 -ℤ p)
    (ring (i ∷ j ∷ z ∷ a ∷ b ∷ c ∷ f ∷ p ∷ w ∷ t ∷ s ∷ r ∷ [])
    ((con (pos 1) ⊗ ((Sum ⊗ var 8) ⊖ (var 7 ⊗ var 9))) ⊖ ((var 8 ⊗ var 10) ⊗ var 11))
    (((((Sum ⊕ (var 2 ⊗ var 5)) ⊖ ((var 6 ⊗ var 7) ⊕ (var 10 ⊗ var 11))) ⊗ var 8) ⊕ ((var 2 ⊖ con (pos 0)) ⊗ (con (pos 0) ⊖ (var 5 ⊗ var 8)))) ⊕ ((var 9 ⊖ (var 8 ⊗ var 6)) ⊗ (con (pos 0) ⊖ var 7))) refl)
    weigh zero sum

module _ (d : Triple) (a b c : Corner) (p : Point) (i j : ℕ) (bc : side_of d b c p ≡ pos i) (ca : side_of d c a p ≡ pos j) where
  -- a point that is seen on a side is on the line of sight of the sum of the side's two ends with the other two sides' values
  module _ (ab : side_of d a b p ≡ pos 0) where
    pub side-total : pos (i + j) ≡ p.w *ℤ facing_of d a b c
    side-total = total _ _ _ bc ca ab ∙ sides-sum d a b c p
      where
        total : (x y z : ℤ) → x ≡ pos i → y ≡ pos j → z ≡ pos 0 → pos (i + j) ≡ (x +ℤ y) +ℤ z
        total x y z hx hy hz = omega (arith, ints)

    pub side-sight : OnOneSight d (edge_sum a b i j) p
    side-sight =
        let by = λ (f : Corner → ℤ). sym (λ t. ((bc t *ℤ f a) +ℤ (ca t *ℤ f b)) +ℤ (side_of d a b p *ℤ f c)) in
        let along = away (pos i) (pos j) (side_of d a b p) in
        sight_of_along d (edge_sum a b i j) p (record {
          n = p.w *ℤ depth_of a b c p;
          m = pos 1;
          positive = omega (arith, ints);
          x = along a.x b.x c.x (facing_of d a b c) p.x p.w (pos (i + j)) (depth_of a b c p) d.x (by (λ k. k.x) ∙ weigh_x d a b c p) ab side-total;
          y = along a.y b.y c.y (facing_of d a b c) p.y p.w (pos (i + j)) (depth_of a b c p) d.y (by (λ k. k.y) ∙ weigh_y d a b c p) ab side-total;
          z = along a.z b.z c.z (facing_of d a b c) p.z p.w (pos (i + j)) (depth_of a b c p) d.z (by (λ k. k.z) ∙ weigh_z d a b c p) ab side-total;
        })

  -- a point of an edge in the plane, that is seen within the face, is a point of the face
  module _ (k : ℕ) (ab : side_of d a b p ≡ pos k) (level : depth_of a b c p ≡ pos 0) (front : ℕ) (facing : facing_of d a b c ≡ pos front) (x y : Corner) (u v : ℕ) (at : p ≡ edge_sum x y u v) where
    pub meeting-point : edge_sum x y (front * u) (front * v) ≡ face_sum a b c i j k
    meeting-point =
        let by = λ (f : Corner → ℤ). sym (λ t. ((bc t *ℤ f a) +ℤ (ca t *ℤ f b)) +ℤ (ab t *ℤ f c)) in
        let one = λ (f : Corner → ℤ) (g : Point → ℤ). meet (f x) (f y) (((pos i *ℤ f a) +ℤ (pos j *ℤ f b)) +ℤ (pos k *ℤ f c)) (facing_of d a b c) (g p) (depth_of a b c p) in
        let on_x = one (λ k. k.x) (λ q. q.x) d.x facing level (ap (λ (q : Point). q.x) at) (by (λ k. k.x) ∙ weigh_x d a b c p) in
        let on_y = one (λ k. k.y) (λ q. q.y) d.y facing level (ap (λ (q : Point). q.y) at) (by (λ k. k.y) ∙ weigh_y d a b c p) in
        let on_z = one (λ k. k.z) (λ q. q.z) d.z facing level (ap (λ (q : Point). q.z) at) (by (λ k. k.z) ∙ weigh_z d a b c p) in
        let on_w = sym (total _ _ _ bc ca ab ∙ sides-sum d a b c p ∙ (λ t. (at t).w *ℤ facing t) ∙ weights) in
        λ t. record { x = on_x t; y = on_y t; z = on_z t; w = on_w t }
      where
        meet : (x y s f p g r : ℤ) → f ≡ pos front → g ≡ pos 0 → p ≡ (pos u *ℤ x) +ℤ (pos v *ℤ y) → s ≡ (f *ℤ p) +ℤ (g *ℤ r) → (pos (front * u) *ℤ x) +ℤ (pos (front * v) *ℤ y) ≡ s
        meet x y s f p g r hf hg hp h =
            sym (h ∙ (λ t. (hf t *ℤ hp t) +ℤ (hg t *ℤ r)) ∙ ring (pos front ∷ pos u ∷ pos v ∷ x ∷ y ∷ r ∷ [])
            ((var 0 ⊗ ((var 1 ⊗ var 3) ⊕ (var 2 ⊗ var 4))) ⊕ (con (pos 0) ⊗ var 5))
            (((var 0 ⊗ var 1) ⊗ var 3) ⊕ ((var 0 ⊗ var 2) ⊗ var 4)) refl)

        total : (x y z : ℤ) → x ≡ pos i → y ≡ pos j → z ≡ pos k → pos (i + j + k) ≡ (x +ℤ y) +ℤ z
        total x y z hx hy hz = omega (arith, ints)

        weights : pos (u + v) *ℤ pos front ≡ pos (front * u + front * v)
        weights = ring (pos front ∷ pos u ∷ pos v ∷ []) ((var 1 ⊕ var 2) ⊗ var 0) ((var 0 ⊗ var 1) ⊕ (var 0 ⊗ var 2)) refl

-- a point of an edge with its weights times a number is the same point
pub scaled-sight : (d : Triple) (x y : Corner) (k u v : ℕ) → OnOneSight d (edge_sum x y (k * u) (k * v)) (edge_sum x y u v)
scaled-sight d x y k u v = sight_of_along d (edge_sum x y (k * u) (k * v)) (edge_sum x y u v) (record {
  n = pos 0;
  m = pos 1;
  positive = omega (arith, ints);
  x = same x.x y.x d.x;
  y = same x.y y.y d.y;
  z = same x.z y.z d.z;
})
  where
    same : (a b r : ℤ) → pos 1 *ℤ (((pos (k * u) *ℤ a) +ℤ (pos (k * v) *ℤ b)) *ℤ pos (u + v) -ℤ ((pos u *ℤ a) +ℤ (pos v *ℤ b)) *ℤ pos (k * u + k * v)) ≡ pos 0 *ℤ r
    same a b r = ring (pos k ∷ pos u ∷ pos v ∷ a ∷ b ∷ r ∷ [])
        (con (pos 1) ⊗ (((((var 0 ⊗ var 1) ⊗ var 3) ⊕ ((var 0 ⊗ var 2) ⊗ var 4)) ⊗ (var 1 ⊕ var 2)) ⊖ (((var 1 ⊗ var 3) ⊕ (var 2 ⊗ var 4)) ⊗ ((var 0 ⊗ var 1) ⊕ (var 0 ⊗ var 2)))))
        (con (pos 0) ⊗ var 5) refl
