-- How far a corner is to the left of a triangle's three sides weighs the triangle's corners to it.
use Rattle.std.proofs.Common.{◌≡◌, ℕ, List, [], ◌∷◌, refl, ap}
use Rattle.std.specs.Prelude.{ℤ, pos, ◌+ℤ◌, ◌-ℤ◌, ◌*ℤ◌}
use Rattle.integers.proofs.Ring.{Expr, var, con, ◌⊕◌, ◌⊖◌, ◌⊗◌, ring, by_two, by_three}
use Rattle.lattice.specs.declared.points.Corner.{Corner}
use Rattle.lattice.specs.Triple.{Triple, cross}
use Rattle.lattice.specs.Points.{Point, difference}
use Rattle.lattice.proofs.Vectors.{Letters, crosses}
use Rattle.geometry.specs.Faces.{normal, facing_of, edge_sum, face_sum}
use Rattle.meeting.specs.inner.Heights.{height_of}
use Rattle.lattice.proofs.PointLetters.{ways, normals}
use Rattle.meeting.proofs.Letters.{D, A, B, C, P, Q, heights, facings, values}

-- ---- one corner
module _ (d : Triple) (a b c p : Corner) where
  abbrev one : List ℤ
  one = values d a b c p p []

  -- the order of the corners may go round
  pub facing-round : facing_of d b c a ≡ facing_of d a b c
  facing-round = ring one (facings B C A) (facings A B C) refl

  pub weights-sum : (facing_of d b c p +ℤ facing_of d c a p) +ℤ facing_of d a b p ≡ facing_of d a b c
  weights-sum = ring one ((facings B C P ⊕ facings C A P) ⊕ facings A B P) (facings A B C) refl

  abbrev weighed : Expr → Expr → Expr → Expr
  weighed x y z = ((facings B C P ⊗ x) ⊕ (facings C A P ⊗ y)) ⊕ (facings A B P ⊗ z)

  pub weigh_x : ((facing_of d b c p *ℤ a.x) +ℤ (facing_of d c a p *ℤ b.x)) +ℤ (facing_of d a b p *ℤ c.x) ≡ (facing_of d a b c *ℤ p.x) -ℤ (height_of a b c p *ℤ d.x)
  weigh_x = ring one (weighed A.x B.x C.x) ((facings A B C ⊗ P.x) ⊖ (heights A B C P ⊗ D.x)) refl

  pub weigh_y : ((facing_of d b c p *ℤ a.y) +ℤ (facing_of d c a p *ℤ b.y)) +ℤ (facing_of d a b p *ℤ c.y) ≡ (facing_of d a b c *ℤ p.y) -ℤ (height_of a b c p *ℤ d.y)
  weigh_y = ring one (weighed A.y B.y C.y) ((facings A B C ⊗ P.y) ⊖ (heights A B C P ⊗ D.y)) refl

  pub weigh_z : ((facing_of d b c p *ℤ a.z) +ℤ (facing_of d c a p *ℤ b.z)) +ℤ (facing_of d a b p *ℤ c.z) ≡ (facing_of d a b c *ℤ p.z) -ℤ (height_of a b c p *ℤ d.z)
  weigh_z = ring one (weighed A.z B.z C.z) ((facings A B C ⊗ P.z) ⊖ (heights A B C P ⊗ D.z)) refl

-- ---- a point of both: a sum of the edge's corners that is one of the triangle's
abbrev I : Expr
I = var 18

abbrev J : Expr
J = var 19

abbrev K : Expr
K = var 20

abbrev L : Expr
L = var 21

abbrev M : Expr
M = var 22

-- the sums of the steps from a corner o are equal too
steps : (i j k l m o p q a b c : ℤ) → (i *ℤ p) +ℤ (j *ℤ q) ≡ ((k *ℤ a) +ℤ (l *ℤ b)) +ℤ (m *ℤ c) → i +ℤ j ≡ (k +ℤ l) +ℤ m
    → (i *ℤ (p -ℤ o)) +ℤ (j *ℤ (q -ℤ o)) ≡ ((k *ℤ (a -ℤ o)) +ℤ (l *ℤ (b -ℤ o))) +ℤ (m *ℤ (c -ℤ o))
steps i j k l m o p q a b c e f =
    let w = λ (x y z u v : Expr). (((var 0 ⊗ x) ⊕ (var 1 ⊗ y)) ⊖ (((var 2 ⊗ z) ⊕ (var 3 ⊗ u)) ⊕ (var 4 ⊗ v))) in
    by_two _ _ ((i *ℤ p) +ℤ (j *ℤ q)) (((k *ℤ a) +ℤ (l *ℤ b)) +ℤ (m *ℤ c)) (pos 1) (i +ℤ j) ((k +ℤ l) +ℤ m) (pos 0 -ℤ o)
    (ring (i ∷ j ∷ k ∷ l ∷ m ∷ o ∷ p ∷ q ∷ a ∷ b ∷ c ∷ [])
    (w (var 6 ⊖ var 5) (var 7 ⊖ var 5) (var 8 ⊖ var 5) (var 9 ⊖ var 5) (var 10 ⊖ var 5))
    ((w (var 6) (var 7) (var 8) (var 9) (var 10) ⊗ con (pos 1)) ⊕ (((var 0 ⊕ var 1) ⊖ ((var 2 ⊕ var 3) ⊕ var 4)) ⊗ (con (pos 0) ⊖ var 5))) refl) e f

module _ (a b c p q : Corner) (i j k l m : ℕ) (same : edge_sum p q i j ≡ face_sum a b c k l m) where
  abbrev Steps : (Corner → ℤ) → Corner → Type 0
  Steps f o = (pos i *ℤ (f p -ℤ f o)) +ℤ (pos j *ℤ (f q -ℤ f o)) ≡ ((pos k *ℤ (f a -ℤ f o)) +ℤ (pos l *ℤ (f b -ℤ f o))) +ℤ (pos m *ℤ (f c -ℤ f o))

  step_x : (o : Corner) → Steps (λ r. r.x) o
  step_x o = steps (pos i) (pos j) (pos k) (pos l) (pos m) o.x p.x q.x a.x b.x c.x (ap (λ (s : Point). s.x) same) (ap (λ (s : Point). s.w) same)

  step_y : (o : Corner) → Steps (λ r. r.y) o
  step_y o = steps (pos i) (pos j) (pos k) (pos l) (pos m) o.y p.y q.y a.y b.y c.y (ap (λ (s : Point). s.y) same) (ap (λ (s : Point). s.w) same)

  step_z : (o : Corner) → Steps (λ r. r.z) o
  step_z o = steps (pos i) (pos j) (pos k) (pos l) (pos m) o.z p.z q.z a.z b.z c.z (ap (λ (s : Point). s.z) same) (ap (λ (s : Point). s.w) same)

  abbrev edge_step : Expr → Expr → Expr → Expr → Expr → Expr → Expr
  edge_step o x y z u v = ((I ⊗ (x ⊖ o)) ⊕ (J ⊗ (y ⊖ o))) ⊖ (((K ⊗ (z ⊖ o)) ⊕ (L ⊗ (u ⊖ o))) ⊕ (M ⊗ (v ⊖ o)))

  abbrev gaps : (Letters → Expr) → Letters → Expr
  gaps f o = edge_step (f o) (f P) (f Q) (f A) (f B) (f C)

  -- it is in the plane
  pub level-at : (pos i *ℤ height_of a b c p) +ℤ (pos j *ℤ height_of a b c q) ≡ pos 0
  level-at =
      let n = normal a b c in
      let N = normals A B C in
      by_three _ _ _ _ n.x _ _ n.y _ _ n.z
      (ring (values n a b c p q (pos i ∷ pos j ∷ pos k ∷ pos l ∷ pos m ∷ []))
      (((I ⊗ heights A B C P) ⊕ (J ⊗ heights A B C Q)) ⊖ con (pos 0))
      (((gaps (λ r. r.x) A ⊗ N.x) ⊕ (gaps (λ r. r.y) A ⊗ N.y)) ⊕ (gaps (λ r. r.z) A ⊗ N.z)) refl)
      (step_x a) (step_y a) (step_z a)

  -- how far it is to the left of a side is what the weight of the third corner says
  pub weight-at : (d : Triple) → (pos i *ℤ facing_of d b c p) +ℤ (pos j *ℤ facing_of d b c q) ≡ pos k *ℤ facing_of d a b c
  weight-at d =
      let u = cross d (difference b c) in
      let U = crosses D (ways B C) in
      by_three _ _ _ _ u.x _ _ u.y _ _ u.z
      (ring (values d a b c p q (pos i ∷ pos j ∷ pos k ∷ pos l ∷ pos m ∷ []))
      (((I ⊗ facings B C P) ⊕ (J ⊗ facings B C Q)) ⊖ (K ⊗ facings A B C))
      (((gaps (λ r. r.x) B ⊗ U.x) ⊕ (gaps (λ r. r.y) B ⊗ U.y)) ⊕ (gaps (λ r. r.z) B ⊗ U.z)) refl)
      (step_x b) (step_y b) (step_z b)
