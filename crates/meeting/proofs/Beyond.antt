-- Where an edge from a triangle's corner has another point in common with it.
use Rattle.std.proofs.Common.{◌≡◌, ℕ, zero, suc, ◌+◌, ◌<◌, [], ◌∷◌, refl, sym, subst, ◌∙◌, arith}
use Rattle.std.specs.Prelude.{◌↔◌, ℤ, pos, ◌+ℤ◌, ◌-ℤ◌, ◌*ℤ◌, ◌≤ℤ◌, ◌<ℤ◌, unsigned_abs}
use Rattle.std.proofs.lemmas.Int.{ints, by_lt_z}
use Rattle.integers.proofs.Absolutes.{natural_not_negative, natural_positive, abs_of_not_negative, natural_of_positive}
use Rattle.integers.proofs.Comparisons.{not_negative_of_positive, not_negative_at, positive_not_zero}
use Rattle.integers.proofs.Ring.{var, con, ◌⊕◌, ◌⊖◌, ◌⊗◌, ring, by_one, by_two, same_of_gap}
use Rattle.integers.proofs.Signs.{mul_nonneg, nonneg_of_mul, zero_of_mul}
use Rattle.lattice.specs.declared.points.Corner.{Corner}
use Rattle.lattice.specs.Triple.{Triple, det}
use Rattle.lattice.specs.Points.{Point, difference, point_of, AreOnePoint}
use Rattle.geometry.specs.Faces.{normal, facing_of, edge_sum, face_sum}
use Rattle.meeting.specs.Touching.{TouchBeyond}
use Rattle.meeting.specs.inner.Heights.{height_of}
use Rattle.meeting.proofs.Letters.{A, B, C, heights, facings, values}
use Rattle.meeting.proofs.Weights.{weights-sum, weigh_x, weigh_y, weigh_z, level-at}
use Rattle.meeting.proofs.CommonPoints.{weight-ca, weight-ab}

-- ---- an edge whose two ends are one corner has one point
pub record AreAlike (a q : Corner) : Type 0 where
  pub x : q.x ≡ a.x
  pub y : q.y ≡ a.y
  pub z : q.z ≡ a.z

pub alike-point : (a q : Corner) (i j : ℕ) → AreAlike a q → AreOnePoint (point_of a) (edge_sum a q i j)
alike-point a q i j same = record { x = one a.x q.x same.x; y = one a.y q.y same.y; z = one a.z q.z same.z }
  where
    one : (f g : ℤ) → g ≡ f → f *ℤ (pos i +ℤ pos j) ≡ ((pos i *ℤ f) +ℤ (pos j *ℤ g)) *ℤ pos 1
    one f g e = by_one _ _ g f (pos 0 -ℤ pos j)
        (ring (pos i ∷ pos j ∷ f ∷ g ∷ [])
        ((var 2 ⊗ (var 0 ⊕ var 1)) ⊖ (((var 0 ⊗ var 2) ⊕ (var 1 ⊗ var 3)) ⊗ con (pos 1)))
        ((var 3 ⊖ var 2) ⊗ (con (pos 0) ⊖ var 1)) refl) e

-- and where it has another, the first is not all of its sum
pub alike-of-point : (a q : Corner) (i j : ℕ) → 0 < j → AreOnePoint (point_of a) (edge_sum a q i j) → AreAlike a q
alike-of-point a q i j some h = record { x = one a.x q.x h.x; y = one a.y q.y h.y; z = one a.z q.z h.z }
  where
    one : (f g : ℤ) → f *ℤ (pos i +ℤ pos j) ≡ ((pos i *ℤ f) +ℤ (pos j *ℤ g)) *ℤ pos 1 → g ≡ f
    one f g e = same_of_gap g f (zero_of_mul (pos j) (g -ℤ f) (omega (arith, ints))
        (by_one _ _ (((pos i *ℤ f) +ℤ (pos j *ℤ g)) *ℤ pos 1) (f *ℤ (pos i +ℤ pos j)) (pos 1)
        (ring (pos i ∷ pos j ∷ f ∷ g ∷ [])
        ((var 1 ⊗ (var 3 ⊖ var 2)) ⊖ con (pos 0))
        (((((var 0 ⊗ var 2) ⊕ (var 1 ⊗ var 3)) ⊗ con (pos 1)) ⊖ (var 2 ⊗ (var 0 ⊕ var 1))) ⊗ con (pos 1)) refl) (sym e)))

pub off-start : (a q : Corner) (i j : ℕ) → ¬ AreOnePoint (point_of a) (edge_sum a q i j) → 0 < j
off-start a q i zero off = absurd (off (record { x = none a.x q.x; y = none a.y q.y; z = none a.z q.z }))
  where
    none : (f g : ℤ) → f *ℤ (pos i +ℤ pos 0) ≡ ((pos i *ℤ f) +ℤ (pos 0 *ℤ g)) *ℤ pos 1
    none f g = ring (pos i ∷ f ∷ g ∷ []) (var 1 ⊗ (var 0 ⊕ con (pos 0))) (((var 0 ⊗ var 1) ⊕ (con (pos 0) ⊗ var 2)) ⊗ con (pos 1)) refl
off-start a q i (suc j) off = omega arith

-- ---- the edge from a common point
-- it goes on from its start
off-sum : (a q : Corner) (i j : ℕ) (s : Point) → s ≡ edge_sum a q i j → ¬ AreOnePoint (point_of a) s → ¬ AreOnePoint (point_of a) (edge_sum a q i j)
off-sum a q i j s is off = subst (λ (k : Point). ¬ AreOnePoint (point_of a) k) is off

-- what is linear along it and 0 at its start
last : (i j : ℕ) (f g n : ℤ) → f ≡ pos 0 → (pos i *ℤ f) +ℤ (pos j *ℤ g) ≡ n → pos j *ℤ g ≡ n
last i j f g n e h = by_two _ _ ((pos i *ℤ f) +ℤ (pos j *ℤ g)) n (pos 1) f (pos 0) (pos 0 -ℤ pos i)
    (ring (pos i ∷ pos j ∷ f ∷ g ∷ n ∷ [])
    ((var 1 ⊗ var 3) ⊖ var 4)
    (((((var 0 ⊗ var 2) ⊕ (var 1 ⊗ var 3)) ⊖ var 4) ⊗ con (pos 1)) ⊕ ((var 2 ⊖ con (pos 0)) ⊗ (con (pos 0) ⊖ var 0))) refl) h e

-- it is in the triangle's plane
pub beyond-level : (a b c q : Corner) → TouchBeyond a b c q → height_of a b c q ≡ pos 0
beyond-level a b c q t =
    let (i, j, some, is) = t.on_edge in
    let (k, l, m, some_face, on_face) = t.on_face in
    zero_of_mul (pos j) (height_of a b c q) (natural_positive j (off-start a q i j (off-sum a q i j t.point is t.off)))
    (last i j _ _ _ at_start (level-at a b c a q i j k l m (sym is ∙ on_face)))
  where
    at_start : height_of a b c a ≡ pos 0
    at_start = ring (values (normal a b c) a b c a a []) (heights A B C A) (con (pos 0)) refl

module _ (d : Triple) (a b c q : Corner) where
  abbrev F : ℤ
  F = facing_of d a b c

  abbrev bc : ℤ
  bc = facing_of d b c q

  abbrev ca : ℤ
  ca = facing_of d c a q

  abbrev ab : ℤ
  ab = facing_of d a b q

  -- the first corner is on its sides
  ca-at-a : facing_of d c a a ≡ pos 0
  ca-at-a = ring (values d a b c a a []) (facings C A A) (con (pos 0)) refl

  ab-at-a : facing_of d a b a ≡ pos 0
  ab-at-a = ring (values d a b c a a []) (facings A B A) (con (pos 0)) refl

  on-sides : AreAlike a q → ca +ℤ ab ≡ pos 0
  on-sides same = both _ _
      ((λ t. det d (difference c a) (record { x = same.x t -ℤ c.x; y = same.y t -ℤ c.y; z = same.z t -ℤ c.z })) ∙ ca-at-a)
      ((λ t. det d (difference a b) (record { x = same.x t -ℤ a.x; y = same.y t -ℤ a.y; z = same.z t -ℤ a.z })) ∙ ab-at-a)
    where
      both : (y z : ℤ) → y ≡ pos 0 → z ≡ pos 0 → y +ℤ z ≡ pos 0
      both y z e f = omega (arith, ints)

  module _ (front : pos 0 <ℤ F) where
    -- a corner that is in the plane and on two sides is the first
    alike-of-sides : height_of a b c q ≡ pos 0 → ca ≡ pos 0 → ab ≡ pos 0 → AreAlike a q
    alike-of-sides level on_ca on_ab = record {
      x = one a.x b.x c.x q.x d.x (weigh_x d a b c q);
      y = one a.y b.y c.y q.y d.y (weigh_y d a b c q);
      z = one a.z b.z c.z q.z d.z (weigh_z d a b c q);
    }
      where
        sum : (bc +ℤ pos 0) +ℤ pos 0 ≡ F
        sum = sym (λ t. (bc +ℤ on_ca t) +ℤ on_ab t) ∙ weights-sum d a b c q

        one : (f g h k r : ℤ) → ((bc *ℤ f) +ℤ (ca *ℤ g)) +ℤ (ab *ℤ h) ≡ (F *ℤ k) -ℤ (height_of a b c q *ℤ r) → k ≡ f
        one f g h k r e = same_of_gap k f (zero_of_mul F (k -ℤ f) front
            (by_two _ _ (((bc *ℤ f) +ℤ (pos 0 *ℤ g)) +ℤ (pos 0 *ℤ h)) ((F *ℤ k) -ℤ (pos 0 *ℤ r)) (pos 0 -ℤ pos 1) ((bc +ℤ pos 0) +ℤ pos 0) F f
            (ring (bc ∷ F ∷ f ∷ g ∷ h ∷ k ∷ r ∷ [])
            ((var 1 ⊗ (var 5 ⊖ var 2)) ⊖ con (pos 0))
            ((((((var 0 ⊗ var 2) ⊕ (con (pos 0) ⊗ var 3)) ⊕ (con (pos 0) ⊗ var 4)) ⊖ ((var 1 ⊗ var 5) ⊖ (con (pos 0) ⊗ var 6))) ⊗ (con (pos 0) ⊖ con (pos 1)))
            ⊕ ((((var 0 ⊕ con (pos 0)) ⊕ con (pos 0)) ⊖ var 1) ⊗ var 2)) refl)
            (sym (λ t. ((bc *ℤ f) +ℤ (on_ca t *ℤ g)) +ℤ (on_ab t *ℤ h)) ∙ e ∙ (λ t. (F *ℤ k) -ℤ (level t *ℤ r))) sum))

    -- ---- from a common point
    module _ (t : TouchBeyond a b c q) where
      module _ (i j : ℕ) (is : t.point ≡ edge_sum a q i j) (k l m : ℕ) (on_face : t.point ≡ face_sum a b c k l m) where
        off : ¬ AreOnePoint (point_of a) (edge_sum a q i j)
        off = off-sum a q i j t.point is t.off

        more : pos 0 <ℤ pos j
        more = natural_positive j (off-start a q i j off)

        same : edge_sum a q i j ≡ face_sum a b c k l m
        same = sym is ∙ on_face

        ca-least : pos 0 ≤ℤ ca
        ca-least = nonneg_of_mul (pos j) ca more (not_negative_at _ _ (last i j _ _ _ ca-at-a (weight-ca d a b c a q i j k l m same)) (mul_nonneg (pos l) F (natural_not_negative l) (not_negative_of_positive F front)))

        ab-least : pos 0 ≤ℤ ab
        ab-least = nonneg_of_mul (pos j) ab more (not_negative_at _ _ (last i j _ _ _ ab-at-a (weight-ab d a b c a q i j k l m same)) (mul_nonneg (pos m) F (natural_not_negative m) (not_negative_of_positive F front)))

        some : pos 0 <ℤ (ca +ℤ ab)
        some = by_lt_z (pos 0) (ca +ℤ ab) (λ h. h)
            (λ h. let e = zeros ca ab ca-least ab-least h in absurd (off (alike-point a q i j (alike-of-sides (beyond-level a b c q t) (e.0) (e.1)))))
          where
            zeros : (y z : ℤ) → pos 0 ≤ℤ y → pos 0 ≤ℤ z → (y +ℤ z) ≤ℤ pos 0 → (y ≡ pos 0) × (z ≡ pos 0)
            zeros y z p r h = (omega (arith, ints), omega (arith, ints))

      pub beyond-sides : (pos 0 ≤ℤ ca) × (pos 0 ≤ℤ ab) × (pos 0 <ℤ (ca +ℤ ab))
      beyond-sides =
          let e = t.on_edge in
          let f = t.on_face in
          (ca-least e.0 e.1 e.3 f.0 f.1 f.2 f.4, ab-least e.0 e.1 e.3 f.0 f.1 f.2 f.4, some e.0 e.1 e.3 f.0 f.1 f.2 f.4)

    -- ---- to a common point
    module _ (level : height_of a b c q ≡ pos 0) (ca_least : pos 0 ≤ℤ ca) (ab_least : pos 0 ≤ℤ ab) (some : pos 0 <ℤ (ca +ℤ ab)) where
      abbrev k : ℕ
      k = unsigned_abs F

      abbrev l : ℕ
      l = unsigned_abs ca

      abbrev m : ℕ
      m = unsigned_abs ab

      is_k : pos k ≡ F
      is_k = abs_of_not_negative F (not_negative_of_positive F front)

      is_l : pos l ≡ ca
      is_l = abs_of_not_negative ca ca_least

      is_m : pos m ≡ ab
      is_m = abs_of_not_negative ab ab_least

      coordinate : (f g h y r : ℤ) → ((bc *ℤ f) +ℤ (ca *ℤ g)) +ℤ (ab *ℤ h) ≡ (F *ℤ y) -ℤ (height_of a b c q *ℤ r)
          → ((pos l +ℤ pos m) *ℤ f) +ℤ (pos k *ℤ y) ≡ ((pos k *ℤ f) +ℤ (pos l *ℤ g)) +ℤ (pos m *ℤ h)
      coordinate f g h y r e =
          (λ t. ((is_l t +ℤ is_m t) *ℤ f) +ℤ (is_k t *ℤ y))
          ∙ by_two _ _ (((bc *ℤ f) +ℤ (ca *ℤ g)) +ℤ (ab *ℤ h)) ((F *ℤ y) -ℤ (pos 0 *ℤ r)) (pos 0 -ℤ pos 1) ((bc +ℤ ca) +ℤ ab) F f
          (ring (bc ∷ ca ∷ ab ∷ F ∷ f ∷ g ∷ h ∷ y ∷ r ∷ [])
          ((((var 1 ⊕ var 2) ⊗ var 4) ⊕ (var 3 ⊗ var 7)) ⊖ (((var 3 ⊗ var 4) ⊕ (var 1 ⊗ var 5)) ⊕ (var 2 ⊗ var 6)))
          ((((((var 0 ⊗ var 4) ⊕ (var 1 ⊗ var 5)) ⊕ (var 2 ⊗ var 6)) ⊖ ((var 3 ⊗ var 7) ⊖ (con (pos 0) ⊗ var 8))) ⊗ (con (pos 0) ⊖ con (pos 1)))
          ⊕ ((((var 0 ⊕ var 1) ⊕ var 2) ⊖ var 3) ⊗ var 4)) refl)
          (e ∙ (λ t. (F *ℤ y) -ℤ (level t *ℤ r))) (weights-sum d a b c q)
          ∙ sym (λ t. ((is_k t *ℤ f) +ℤ (is_l t *ℤ g)) +ℤ (is_m t *ℤ h))

      weights : (l + m) + k ≡ (k + l) + m
      weights = omega arith

      positive : 0 < k
      positive = natural_of_positive k F is_k front

      pub beyond-of-sides : TouchBeyond a b c q
      beyond-of-sides =
          let on_x = coordinate a.x b.x c.x q.x d.x (weigh_x d a b c q) in
          let on_y = coordinate a.y b.y c.y q.y d.y (weigh_y d a b c q) in
          let on_z = coordinate a.z b.z c.z q.z d.z (weigh_z d a b c q) in
          record {
            point = edge_sum a q (l + m) k;
            on_edge = (l + m, k, omega (arith, positive), refl);
            on_face = (k, l, m, omega (arith, positive), λ t. record { x = on_x t; y = on_y t; z = on_z t; w = pos (weights t) });
            off = λ h. positive_not_zero _ some (on-sides (alike-of-point a q (l + m) k positive h));
          }

    pub beyond : height_of a b c q ≡ pos 0 → TouchBeyond a b c q ↔ ((pos 0 ≤ℤ ca) × (pos 0 ≤ℤ ab) × (pos 0 <ℤ (ca +ℤ ab)))
    beyond level = (beyond-sides, λ (p, r, s). beyond-of-sides level p r s)
