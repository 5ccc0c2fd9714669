-- An edge and a triangle touch where the edge has a place in the plane that is to the right of no side.
use Rattle.std.proofs.Common.{◌≡◌, ℕ, ◌+◌, ◌<◌, inl, inr, [], ◌∷◌, refl, sym, ap, ◌∙◌, arith}
use Rattle.std.specs.Prelude.{ℤ, pos, ◌+ℤ◌, ◌-ℤ◌, ◌*ℤ◌, ◌<ℤ◌, unsigned_abs}
use Rattle.std.proofs.lemmas.Int.{ints}
use Rattle.geometry.proofs.FacePoints.{face-round}
use Rattle.integers.proofs.Absolutes.{natural_not_negative, abs_of_not_negative, natural_positive}
use Rattle.integers.proofs.Comparisons.{not_negative_of_positive, not_negative_at, positive_not_zero}
use Rattle.integers.proofs.Ring.{var, con, ◌⊕◌, ◌⊖◌, ◌⊗◌, ring, by_two, by_three}
use Rattle.integers.proofs.Signs.{mul_nonneg, mul_pos}
use Rattle.lattice.specs.declared.points.Corner.{Corner}
use Rattle.lattice.specs.Triple.{Triple}
use Rattle.geometry.specs.Faces.{facing_of, edge_sum, face_sum}
use Rattle.meeting.specs.declared.course.Course.{Course}
use Rattle.meeting.specs.Touching.{Touch}
use Rattle.meeting.specs.inner.Heights.{height_of, AreOnOneSide}
use Rattle.meeting.specs.inner.Courses.{IsCourseOf}
use Rattle.meeting.specs.inner.Places.{CoursePlace}
use Rattle.meeting.proofs.InPlane.{sum_pos, sum_neg}
use Rattle.meeting.proofs.Weights.{facing-round, weights-sum, weigh_x, weigh_y, weigh_z, level-at, weight-at}

module _ (d : Triple) (a b c p q : Corner) (i j k l m : ℕ) (same : edge_sum p q i j ≡ face_sum a b c k l m) where
  pub weight-bc : (pos i *ℤ facing_of d b c p) +ℤ (pos j *ℤ facing_of d b c q) ≡ pos k *ℤ facing_of d a b c
  weight-bc = weight-at a b c p q i j k l m same d

  pub weight-ca : (pos i *ℤ facing_of d c a p) +ℤ (pos j *ℤ facing_of d c a q) ≡ pos l *ℤ facing_of d a b c
  weight-ca = weight-at b c a p q i j l m k (same ∙ face-round a b c k l m) d ∙ ap (λ (z : ℤ). pos l *ℤ z) (facing-round d a b c p)

  pub weight-ab : (pos i *ℤ facing_of d a b p) +ℤ (pos j *ℤ facing_of d a b q) ≡ pos m *ℤ facing_of d a b c
  weight-ab =
      weight-at c a b p q i j m k l (same ∙ face-round a b c k l m ∙ face-round b c a l m k) d
      ∙ ap (λ (z : ℤ). pos m *ℤ z) (sym (facing-round d c a b p))

-- ---- sums of what two corners weigh
-- one coordinate
spread : (i j f p q bp cp ap bq cq aq a b c rp rq r : ℤ) → ((bp *ℤ a) +ℤ (cp *ℤ b)) +ℤ (ap *ℤ c) ≡ (f *ℤ p) -ℤ (rp *ℤ r) → ((bq *ℤ a) +ℤ (cq *ℤ b)) +ℤ (aq *ℤ c) ≡ (f *ℤ q) -ℤ (rq *ℤ r)
    → (i *ℤ rp) +ℤ (j *ℤ rq) ≡ pos 0
    → ((f *ℤ i) *ℤ p) +ℤ ((f *ℤ j) *ℤ q) ≡ ((((i *ℤ bp) +ℤ (j *ℤ bq)) *ℤ a) +ℤ (((i *ℤ cp) +ℤ (j *ℤ cq)) *ℤ b)) +ℤ (((i *ℤ ap) +ℤ (j *ℤ aq)) *ℤ c)
spread i j f p q bp cp ap bq cq aq a b c rp rq r hp hq level =
    by_three _ _ (((bp *ℤ a) +ℤ (cp *ℤ b)) +ℤ (ap *ℤ c)) ((f *ℤ p) -ℤ (rp *ℤ r)) (pos 0 -ℤ i) (((bq *ℤ a) +ℤ (cq *ℤ b)) +ℤ (aq *ℤ c)) ((f *ℤ q) -ℤ (rq *ℤ r)) (pos 0 -ℤ j) ((i *ℤ rp) +ℤ (j *ℤ rq)) (pos 0) r
    (ring (i ∷ j ∷ f ∷ p ∷ q ∷ bp ∷ cp ∷ ap ∷ bq ∷ cq ∷ aq ∷ a ∷ b ∷ c ∷ rp ∷ rq ∷ r ∷ [])
    ((((var 2 ⊗ var 0) ⊗ var 3) ⊕ ((var 2 ⊗ var 1) ⊗ var 4)) ⊖ (((((var 0 ⊗ var 5) ⊕ (var 1 ⊗ var 8)) ⊗ var 11) ⊕ (((var 0 ⊗ var 6) ⊕ (var 1 ⊗ var 9)) ⊗ var 12)) ⊕ (((var 0 ⊗ var 7) ⊕ (var 1 ⊗ var 10)) ⊗ var 13)))
    ((((((((var 5 ⊗ var 11) ⊕ (var 6 ⊗ var 12)) ⊕ (var 7 ⊗ var 13)) ⊖ ((var 2 ⊗ var 3) ⊖ (var 14 ⊗ var 16))) ⊗ (con (pos 0) ⊖ var 0))
    ⊕ (((((var 8 ⊗ var 11) ⊕ (var 9 ⊗ var 12)) ⊕ (var 10 ⊗ var 13)) ⊖ ((var 2 ⊗ var 4) ⊖ (var 15 ⊗ var 16))) ⊗ (con (pos 0) ⊖ var 1)))
    ⊕ ((((var 0 ⊗ var 14) ⊕ (var 1 ⊗ var 15)) ⊖ con (pos 0)) ⊗ var 16))) refl) hp hq level

-- and the weights themselves
total : (i j f bp cp ap bq cq aq : ℤ) → (bp +ℤ cp) +ℤ ap ≡ f → (bq +ℤ cq) +ℤ aq ≡ f
    → (f *ℤ i) +ℤ (f *ℤ j) ≡ (((i *ℤ bp) +ℤ (j *ℤ bq)) +ℤ ((i *ℤ cp) +ℤ (j *ℤ cq))) +ℤ ((i *ℤ ap) +ℤ (j *ℤ aq))
total i j f bp cp ap bq cq aq hp hq =
    by_two _ _ ((bp +ℤ cp) +ℤ ap) f (pos 0 -ℤ i) ((bq +ℤ cq) +ℤ aq) f (pos 0 -ℤ j)
    (ring (i ∷ j ∷ f ∷ bp ∷ cp ∷ ap ∷ bq ∷ cq ∷ aq ∷ [])
    (((var 2 ⊗ var 0) ⊕ (var 2 ⊗ var 1)) ⊖ ((((var 0 ⊗ var 3) ⊕ (var 1 ⊗ var 6)) ⊕ ((var 0 ⊗ var 4) ⊕ (var 1 ⊗ var 7))) ⊕ ((var 0 ⊗ var 5) ⊕ (var 1 ⊗ var 8))))
    (((((var 3 ⊕ var 4) ⊕ var 5) ⊖ var 2) ⊗ (con (pos 0) ⊖ var 0)) ⊕ ((((var 6 ⊕ var 7) ⊕ var 8) ⊖ var 2) ⊗ (con (pos 0) ⊖ var 1))) refl) hp hq

-- an edge with both ends on one side of the plane
pub off-plane : (a b c p q : Corner) → AreOnOneSide (height_of a b c p) (height_of a b c q) → Touch a b c p q → ⊥
off-plane a b c p q side t =
    let (i, j, some, e) = t.on_edge in
    let (k, l, m, some_face, f) = t.on_face in
    let level = level-at a b c p q i j k l m (sym e ∙ f) in
    elim side [
      | inl (h, r) ↦ less-not-zero _ (sum_neg (pos i) (pos j) _ _ (natural_not_negative i) (natural_not_negative j) (natural_positive (i + j) some) h r) level
      | inr (h, r) ↦ positive_not_zero _ (sum_pos (pos i) (pos j) _ _ (natural_not_negative i) (natural_not_negative j) (natural_positive (i + j) some) h r) level
    ]
  where
    less-not-zero : (z : ℤ) → z <ℤ pos 0 → z ≡ pos 0 → ⊥
    less-not-zero z h e = omega (arith, ints)

module _ (d : Triple) (a b c p q : Corner) (x : Course) (is : IsCourseOf d a b c p q x) (front : pos 0 <ℤ facing_of d a b c) where
  pub place-of-touch : Touch a b c p q → CoursePlace x
  place-of-touch t =
      let (i, j, some, e) = t.on_edge in
      let (k, l, m, some_face, f) = t.on_face in
      let same = sym e ∙ f in
      let least = λ (n : ℕ). mul_nonneg (pos n) (facing_of d a b c) (natural_not_negative n) (not_negative_of_positive _ front) in
      record {
        i = pos i;
        j = pos j;
        i_least = natural_not_negative i;
        j_least = natural_not_negative j;
        some = natural_positive (i + j) some;
        level = (λ s. (pos i *ℤ is.above.start s) +ℤ (pos j *ℤ is.above.end s)) ∙ level-at a b c p q i j k l m same;
        bc = not_negative_at _ _ ((λ s. (pos i *ℤ is.bc.start s) +ℤ (pos j *ℤ is.bc.end s)) ∙ weight-bc d a b c p q i j k l m same) (least k);
        ca = not_negative_at _ _ ((λ s. (pos i *ℤ is.ca.start s) +ℤ (pos j *ℤ is.ca.end s)) ∙ weight-ca d a b c p q i j k l m same) (least l);
        ab = not_negative_at _ _ ((λ s. (pos i *ℤ is.ab.start s) +ℤ (pos j *ℤ is.ab.end s)) ∙ weight-ab d a b c p q i j k l m same) (least m);
      }

  module _ (r : CoursePlace x) where
    abbrev F : ℤ
    F = facing_of d a b c

    abbrev bc : ℤ
    bc = (r.i *ℤ x.bc.start) +ℤ (r.j *ℤ x.bc.end)

    abbrev ca : ℤ
    ca = (r.i *ℤ x.ca.start) +ℤ (r.j *ℤ x.ca.end)

    abbrev ab : ℤ
    ab = (r.i *ℤ x.ab.start) +ℤ (r.j *ℤ x.ab.end)

    first : pos (unsigned_abs (F *ℤ r.i)) ≡ F *ℤ r.i
    first = abs_of_not_negative (F *ℤ r.i) (mul_nonneg F r.i (not_negative_of_positive F front) r.i_least)

    second : pos (unsigned_abs (F *ℤ r.j)) ≡ F *ℤ r.j
    second = abs_of_not_negative (F *ℤ r.j) (mul_nonneg F r.j (not_negative_of_positive F front) r.j_least)

    -- one coordinate of the point, as a sum of the edge's ends and of the triangle's corners
    coordinate : (f : Corner → ℤ) (n : ℤ)
        → ((facing_of d b c p *ℤ f a) +ℤ (facing_of d c a p *ℤ f b)) +ℤ (facing_of d a b p *ℤ f c) ≡ (F *ℤ f p) -ℤ (height_of a b c p *ℤ n)
        → ((facing_of d b c q *ℤ f a) +ℤ (facing_of d c a q *ℤ f b)) +ℤ (facing_of d a b q *ℤ f c) ≡ (F *ℤ f q) -ℤ (height_of a b c q *ℤ n)
        → (pos (unsigned_abs (F *ℤ r.i)) *ℤ f p) +ℤ (pos (unsigned_abs (F *ℤ r.j)) *ℤ f q)
        ≡ ((pos (unsigned_abs bc) *ℤ f a) +ℤ (pos (unsigned_abs ca) *ℤ f b)) +ℤ (pos (unsigned_abs ab) *ℤ f c)
    coordinate f n hp hq =
        (λ s. (first s *ℤ f p) +ℤ (second s *ℤ f q))
        ∙ spread r.i r.j F (f p) (f q) x.bc.start x.ca.start x.ab.start x.bc.end x.ca.end x.ab.end (f a) (f b) (f c) x.above.start x.above.end n
        ((λ s. ((is.bc.start s *ℤ f a) +ℤ (is.ca.start s *ℤ f b)) +ℤ (is.ab.start s *ℤ f c)) ∙ hp ∙ sym (λ s. (F *ℤ f p) -ℤ (is.above.start s *ℤ n)))
        ((λ s. ((is.bc.end s *ℤ f a) +ℤ (is.ca.end s *ℤ f b)) +ℤ (is.ab.end s *ℤ f c)) ∙ hq ∙ sym (λ s. (F *ℤ f q) -ℤ (is.above.end s *ℤ n)))
        r.level
        ∙ sym (λ s. ((abs_of_not_negative bc r.bc s *ℤ f a) +ℤ (abs_of_not_negative ca r.ca s *ℤ f b)) +ℤ (abs_of_not_negative ab r.ab s *ℤ f c))

    weight : pos (unsigned_abs (F *ℤ r.i)) +ℤ pos (unsigned_abs (F *ℤ r.j)) ≡ (pos (unsigned_abs bc) +ℤ pos (unsigned_abs ca)) +ℤ pos (unsigned_abs ab)
    weight =
        (λ s. first s +ℤ second s)
        ∙ total r.i r.j F x.bc.start x.ca.start x.ab.start x.bc.end x.ca.end x.ab.end
        ((λ s. (is.bc.start s +ℤ is.ca.start s) +ℤ is.ab.start s) ∙ weights-sum d a b c p)
        ((λ s. (is.bc.end s +ℤ is.ca.end s) +ℤ is.ab.end s) ∙ weights-sum d a b c q)
        ∙ sym (λ s. (abs_of_not_negative bc r.bc s +ℤ abs_of_not_negative ca r.ca s) +ℤ abs_of_not_negative ab r.ab s)

    some_edge : 0 < unsigned_abs (F *ℤ r.i) + unsigned_abs (F *ℤ r.j)
    some_edge = count _ _ (F *ℤ (r.i +ℤ r.j))
        ((λ s. first s +ℤ second s) ∙ ring (F ∷ r.i ∷ r.j ∷ []) ((var 0 ⊗ var 1) ⊕ (var 0 ⊗ var 2)) (var 0 ⊗ (var 1 ⊕ var 2)) refl)
        (mul_pos F (r.i +ℤ r.j) front r.some)
      where
        count : (m n : ℕ) (z : ℤ) → pos m +ℤ pos n ≡ z → pos 0 <ℤ z → 0 < m + n
        count m n z e h = omega (arith, ints)

    some_face : 0 < unsigned_abs bc + unsigned_abs ca + unsigned_abs ab
    some_face = as_many _ _ _ _ _ weight some_edge
      where
        as_many : (i j k l m : ℕ) → pos i +ℤ pos j ≡ (pos k +ℤ pos l) +ℤ pos m → 0 < i + j → 0 < k + l + m
        as_many i j k l m e h = omega (arith, ints)

    same : edge_sum p q (unsigned_abs (F *ℤ r.i)) (unsigned_abs (F *ℤ r.j)) ≡ face_sum a b c (unsigned_abs bc) (unsigned_abs ca) (unsigned_abs ab)
    same =
        let on_x = coordinate (λ k. k.x) d.x (weigh_x d a b c p) (weigh_x d a b c q) in
        let on_y = coordinate (λ k. k.y) d.y (weigh_y d a b c p) (weigh_y d a b c q) in
        let on_z = coordinate (λ k. k.z) d.z (weigh_z d a b c p) (weigh_z d a b c q) in
        λ s. record { x = on_x s; y = on_y s; z = on_z s; w = weight s }

    pub touch-of-place : Touch a b c p q
    touch-of-place = record {
      point = edge_sum p q (unsigned_abs (F *ℤ r.i)) (unsigned_abs (F *ℤ r.j));
      on_edge = (unsigned_abs (F *ℤ r.i), unsigned_abs (F *ℤ r.j), some_edge, refl);
      on_face = (unsigned_abs bc, unsigned_abs ca, unsigned_abs ab, some_face, same);
    }
