-- Where an outline changes a count along an edge, the edge has no ordinary point.
use Rattle.std.proofs.Common.{◌≡◌, ◌≢◌, ◌⊎◌, inl, inr, ℕ, zero, suc, ◌+◌, ◌<◌, [], ◌∷◌, refl, ap, ◌∙◌, arith}
use Rattle.std.specs.Prelude.{ℤ, pos, negsuc, ◌+ℤ◌, ◌-ℤ◌, ◌*ℤ◌, ◌≤ℤ◌, ◌<ℤ◌}
use Rattle.std.proofs.lemmas.Int.{ints}
use Rattle.integers.proofs.Comparisons.{positive_at}
use Rattle.geometry.proofs.FacePoints.{edge_point-at_share}
use Rattle.integers.proofs.Ring.{Expr, var, con, ◌⊕◌, ◌⊖◌, ◌⊗◌, ring, by_one, by_two, gap_of_less}
use Rattle.integers.proofs.Signs.{mul_pos, pos_of_mul}
use Rattle.exact_frac.specs.declared.Frac.{Frac}
use Rattle.lattice.specs.Triple.{Triple, det}
use Rattle.lattice.specs.Points.{difference}
use Rattle.lattice.proofs.Vectors.{Letters, letters, dots, crosses}
use Rattle.lattice.proofs.SightLines.{sight_of_along}
use Rattle.geometry.specs.Faces.{edge_sum}
use Rattle.geometry.specs.Parts.{Part, Edge}
use Rattle.geometry.specs.Places.{point_at}
use Rattle.geometry.specs.Views.{IsOrdinary, IsSeenOver, face_sign}
use Rattle.geometry.specs.Counts.{Side, to_left, to_right, orientation_of}
use Rattle.geometry.specs.Shares.{mark, change_of, denominator_of, numerator_of, height_numerator_of, Changes, IsCrossedAt}

-- ---- marks that differ
-- one is at least 0 and the other at most, and they differ
abbrev pub IsAcross : ℤ → ℤ → Type 0
IsAcross x y = ((x ≤ℤ pos 0) × (pos 0 ≤ℤ y) × (x <ℤ y)) ⊎ ((y ≤ℤ pos 0) × (pos 0 ≤ℤ x) × (y <ℤ x))

across : (k : Side) (x y : ℤ) → mark k x ≢ mark k y → IsAcross x y
across to_left (pos zero) (pos zero) n = absurd (n refl)
across to_left (pos zero) (pos (suc y)) n = inl (omega (arith, ints), omega (arith, ints), omega (arith, ints))
across to_left (pos zero) (negsuc y) n = absurd (n refl)
across to_left (pos (suc x)) (pos zero) n = inr (omega (arith, ints), omega (arith, ints), omega (arith, ints))
across to_left (pos (suc x)) (pos (suc y)) n = absurd (n refl)
across to_left (pos (suc x)) (negsuc y) n = inr (omega (arith, ints), omega (arith, ints), omega (arith, ints))
across to_left (negsuc x) (pos zero) n = absurd (n refl)
across to_left (negsuc x) (pos (suc y)) n = inl (omega (arith, ints), omega (arith, ints), omega (arith, ints))
across to_left (negsuc x) (negsuc y) n = absurd (n refl)
across to_right (pos x) (pos y) n = absurd (n refl)
across to_right (pos x) (negsuc y) n = inr (omega (arith, ints), omega (arith, ints), omega (arith, ints))
across to_right (negsuc x) (pos y) n = inl (omega (arith, ints), omega (arith, ints), omega (arith, ints))
across to_right (negsuc x) (negsuc y) n = absurd (n refl)

module _ (d : Triple) {s : Part} (e o : Edge s) where
  marks_differ : (k : Side) → change_of k d e o ≢ pos 0 → mark k (orientation_of d e.a e.b o.a) ≢ mark k (orientation_of d e.a e.b o.b)
  marks_differ k n same = n (none (face_sign d o.left -ℤ face_sign d o.right) _ _ same)
    where
      none : (f x y : ℤ) → x ≡ y → f *ℤ (x -ℤ y) ≡ pos 0
      none f x y h = (λ i. f *ℤ (h i -ℤ y)) ∙ ring (f ∷ y ∷ []) (var 0 ⊗ (var 1 ⊖ var 1)) (con (pos 0)) refl

  -- the outline has its two corners on the two sides of the edge's line
  pub goes_across : Changes d e o → IsAcross (orientation_of d e.a e.b o.a) (orientation_of d e.a e.b o.b)
  goes_across c = by c.some
    where
      by : (change_of to_left d e o ≢ pos 0) ⊎ (change_of to_right d e o ≢ pos 0) → IsAcross (orientation_of d e.a e.b o.a) (orientation_of d e.a e.b o.b)
      by (inl n) = across to_left _ _ (marks_differ to_left n)
      by (inr n) = across to_right _ _ (marks_differ to_right n)

-- ---- where the two lines are seen to cross
abbrev D : Letters
D = letters 0

abbrev E : Letters
E = letters 3

abbrev O : Letters
O = letters 6

abbrev A : Letters
A = letters 9

-- a vector by three others
abbrev parts : Expr → Expr → Expr → Expr
parts a o e = ((dots D (crosses E O) ⊗ a) ⊖ (dots D (crosses E A) ⊗ o)) ⊖ (dots D (crosses A O) ⊗ e)

module _ (d e o a : Triple) where
  pub parts_x : ((det d e o *ℤ a.x) -ℤ (det d e a *ℤ o.x)) -ℤ (det d a o *ℤ e.x) ≡ det e o a *ℤ d.x
  parts_x = ring (d.x ∷ d.y ∷ d.z ∷ e.x ∷ e.y ∷ e.z ∷ o.x ∷ o.y ∷ o.z ∷ a.x ∷ a.y ∷ a.z ∷ []) (parts A.x O.x E.x) (dots E (crosses O A) ⊗ D.x) refl

  pub parts_y : ((det d e o *ℤ a.y) -ℤ (det d e a *ℤ o.y)) -ℤ (det d a o *ℤ e.y) ≡ det e o a *ℤ d.y
  parts_y = ring (d.x ∷ d.y ∷ d.z ∷ e.x ∷ e.y ∷ e.z ∷ o.x ∷ o.y ∷ o.z ∷ a.x ∷ a.y ∷ a.z ∷ []) (parts A.y O.y E.y) (dots E (crosses O A) ⊗ D.y) refl

  pub parts_z : ((det d e o *ℤ a.z) -ℤ (det d e a *ℤ o.z)) -ℤ (det d a o *ℤ e.z) ≡ det e o a *ℤ d.z
  parts_z = ring (d.x ∷ d.y ∷ d.z ∷ e.x ∷ e.y ∷ e.z ∷ o.x ∷ o.y ∷ o.z ∷ a.x ∷ a.y ∷ a.z ∷ []) (parts A.z O.z E.z) (dots E (crosses O A) ⊗ D.z) refl

  pub ends_turn : (b : Triple) → b.x ≡ a.x +ℤ o.x → b.y ≡ a.y +ℤ o.y → b.z ≡ a.z +ℤ o.z → det d e b ≡ det d e o +ℤ det d e a
  ends_turn b x y z =
      (λ i. det d e (record { x = x i; y = y i; z = z i }))
      ∙ ring (d.x ∷ d.y ∷ d.z ∷ e.x ∷ e.y ∷ e.z ∷ o.x ∷ o.y ∷ o.z ∷ a.x ∷ a.y ∷ a.z ∷ [])
      (dots D (crosses E (record { x = A.x ⊕ O.x; y = A.y ⊕ O.y; z = A.z ⊕ O.z }))) (dots D (crosses E O) ⊕ dots D (crosses E A)) refl

-- one coordinate of the outline's point and of the edge's, where σ is 1 or -1
pub coordinate : (i j σ turn denominator numerator height_numerator num den oa ob ea eb r : ℤ) → i ≡ σ *ℤ (denominator +ℤ turn) → j ≡ pos 0 -ℤ (σ *ℤ turn) → num *ℤ denominator ≡ numerator *ℤ den
    → ((denominator *ℤ (oa -ℤ ea)) -ℤ (turn *ℤ (ob -ℤ oa))) -ℤ (numerator *ℤ (eb -ℤ ea)) ≡ height_numerator *ℤ r
    → pos 1 *ℤ ((((i *ℤ oa) +ℤ (j *ℤ ob)) *ℤ den) -ℤ ((((den -ℤ num) *ℤ ea) +ℤ (num *ℤ eb)) *ℤ (i +ℤ j))) ≡ (σ *ℤ (den *ℤ height_numerator)) *ℤ r
coordinate i j σ turn denominator numerator height_numerator num den oa ob ea eb r is_i is_j here apart =
    (λ t. pos 1 *ℤ ((((is_i t *ℤ oa) +ℤ (is_j t *ℤ ob)) *ℤ den) -ℤ ((((den -ℤ num) *ℤ ea) +ℤ (num *ℤ eb)) *ℤ (is_i t +ℤ is_j t))))
    ∙ by_two _ _ (num *ℤ denominator) (numerator *ℤ den) (pos 0 -ℤ (σ *ℤ (eb -ℤ ea))) (((denominator *ℤ (oa -ℤ ea)) -ℤ (turn *ℤ (ob -ℤ oa))) -ℤ (numerator *ℤ (eb -ℤ ea))) (height_numerator *ℤ r) (σ *ℤ den)
    (let S = var 0 in let T = var 1 in let C = var 2 in let R = var 3 in let Z = var 4 in let N = var 5 in let M = var 6 in
    let OA = var 7 in let OB = var 8 in let EA = var 9 in let EB = var 10 in let W = var 11 in
    let I = S ⊗ (C ⊕ T) in let J = con (pos 0) ⊖ (S ⊗ T) in
    ring (σ ∷ turn ∷ denominator ∷ numerator ∷ height_numerator ∷ num ∷ den ∷ oa ∷ ob ∷ ea ∷ eb ∷ r ∷ [])
    ((con (pos 1) ⊗ ((((I ⊗ OA) ⊕ (J ⊗ OB)) ⊗ M) ⊖ ((((M ⊖ N) ⊗ EA) ⊕ (N ⊗ EB)) ⊗ (I ⊕ J)))) ⊖ ((S ⊗ (M ⊗ Z)) ⊗ W))
    ((((N ⊗ C) ⊖ (R ⊗ M)) ⊗ (con (pos 0) ⊖ (S ⊗ (EB ⊖ EA)))) ⊕ (((((C ⊗ (OA ⊖ EA)) ⊖ (T ⊗ (OB ⊖ OA))) ⊖ (R ⊗ (EB ⊖ EA))) ⊖ (Z ⊗ W)) ⊗ (S ⊗ M))) refl)
    here apart

module _ (d : Triple) {s : Part} (e o : Edge s) (r : Frac) (here : IsCrossedAt d e o r) where
  sum_of : (x y z : ℤ) → z -ℤ x ≡ (y -ℤ x) +ℤ (z -ℤ y)
  sum_of x y z = omega (arith, ints)

  second_turn : orientation_of d e.a e.b o.b ≡ denominator_of d e o +ℤ orientation_of d e.a e.b o.a
  second_turn = ends_turn d (difference e.a e.b) (difference o.a o.b) (difference e.a o.a) (difference e.a o.b) (sum_of e.a.x o.a.x o.b.x) (sum_of e.a.y o.a.y o.b.y) (sum_of e.a.z o.a.z o.b.z)

  -- the outline's point with these weights is on the line of sight of the place
  over : (i j : ℕ) (σ : ℤ) → 0 < i + j → pos i ≡ σ *ℤ orientation_of d e.a e.b o.b → pos j ≡ pos 0 -ℤ (σ *ℤ orientation_of d e.a e.b o.a) → IsSeenOver d o (point_at e r)
  over i j σ some is_i is_j =
      let turn = orientation_of d e.a e.b o.a in
      let denominator = denominator_of d e o in
      let numerator = numerator_of d e o in
      let height_numerator = height_numerator_of e o in
      let first : pos i ≡ σ *ℤ (denominator +ℤ turn) = is_i ∙ ap (λ v. σ *ℤ v) second_turn in
      let E = difference e.a e.b in
      let O = difference o.a o.b in
      let A = difference e.a o.a in (
        edge_sum o.a o.b i j,
        (i, j, some, refl),
        sight_of_along d (edge_sum o.a o.b i j) (point_at e r) (record {
          n = σ *ℤ (r.den *ℤ height_numerator);
          m = pos 1;
          positive = omega (arith, ints);
          x = coordinate (pos i) (pos j) σ turn denominator numerator height_numerator r.num r.den o.a.x o.b.x e.a.x e.b.x d.x first is_j here (parts_x d E O A);
          y = coordinate (pos i) (pos j) σ turn denominator numerator height_numerator r.num r.den o.a.y o.b.y e.a.y e.b.y d.y first is_j here (parts_y d E O A);
          z = coordinate (pos i) (pos j) σ turn denominator numerator height_numerator r.num r.den o.a.z o.b.z e.a.z e.b.z d.z first is_j here (parts_z d E O A);
        }),
      )

  outline_over : IsAcross (orientation_of d e.a e.b o.a) (orientation_of d e.a e.b o.b) → IsSeenOver d o (point_at e r)
  outline_over (inl (first, second, less)) = up _ _ first second less refl refl
    where
      one : (x y : ℤ) → x ≡ y → y ≡ pos 1 *ℤ x
      one x y e = omega (arith, ints)

      opposite : (x y : ℤ) (n : ℕ) → x ≡ y → pos n ≡ pos 0 -ℤ y → pos n ≡ pos 0 -ℤ (pos 1 *ℤ x)
      opposite x y n e f = omega (arith, ints)

      up : (x y : ℤ) → x ≤ℤ pos 0 → pos 0 ≤ℤ y → x <ℤ y → orientation_of d e.a e.b o.a ≡ x → orientation_of d e.a e.b o.b ≡ y → IsSeenOver d o (point_at e r)
      up x (negsuc j) p q l ex ey = absurd (omega (arith, ints))
      up (pos zero) (pos j) p q l ex ey = over j 0 (pos 1) (omega (arith, ints)) (one _ _ ey) (opposite _ (pos 0) 0 ex refl)
      up (pos (suc i)) (pos j) p q l ex ey = absurd (omega (arith, ints))
      up (negsuc i) (pos j) p q l ex ey = over j (suc i) (pos 1) (omega (arith, ints)) (one _ _ ey) (opposite _ (negsuc i) (suc i) ex (omega (arith, ints)))
  outline_over (inr (second, first, less)) = down _ _ second first less refl refl
    where
      opposite : (x y : ℤ) (n : ℕ) → x ≡ y → pos n ≡ pos 0 -ℤ y → pos n ≡ negsuc 0 *ℤ x
      opposite x y n e f = omega (arith, ints)

      same : (x y : ℤ) → x ≡ y → y ≡ pos 0 -ℤ (negsuc 0 *ℤ x)
      same x y e = omega (arith, ints)

      down : (y x : ℤ) → y ≤ℤ pos 0 → pos 0 ≤ℤ x → y <ℤ x → orientation_of d e.a e.b o.b ≡ y → orientation_of d e.a e.b o.a ≡ x → IsSeenOver d o (point_at e r)
      down y (negsuc j) p q l ey ex = absurd (omega (arith, ints))
      down (pos zero) (pos j) p q l ey ex = over 0 j (negsuc 0) (omega (arith, ints)) (opposite _ (pos 0) 0 ey refl) (same _ _ ex)
      down (pos (suc i)) (pos j) p q l ey ex = absurd (omega (arith, ints))
      down (negsuc i) (pos j) p q l ey ex = over (suc i) j (negsuc 0) (omega (arith, ints)) (opposite _ (negsuc i) (suc i) ey (omega (arith, ints))) (same _ _ ex)

-- ---- the place is within the edge
module _ (numerator denominator num den : ℤ) (den_pos : pos 0 <ℤ den) (here : num *ℤ denominator ≡ numerator *ℤ den) (after : pos 0 <ℤ (numerator *ℤ denominator)) (before : (numerator *ℤ denominator) <ℤ (denominator *ℤ denominator)) where
  square : pos 0 <ℤ (denominator *ℤ denominator)
  square = more _ _ after before
    where
      more : (x y : ℤ) → pos 0 <ℤ x → x <ℤ y → pos 0 <ℤ y
      more x y h l = omega (arith, ints)

  pub least : pos 0 <ℤ num
  least =
      pos_of_mul (denominator *ℤ denominator) num square
      (positive_at _ _ (by_one _ _ _ _ denominator
      (ring (numerator ∷ denominator ∷ num ∷ den ∷ []) (((var 1 ⊗ var 1) ⊗ var 2) ⊖ (var 3 ⊗ (var 0 ⊗ var 1))) (((var 2 ⊗ var 1) ⊖ (var 0 ⊗ var 3)) ⊗ var 1) refl) here)
      (mul_pos den (numerator *ℤ denominator) den_pos after))

  pub most : pos 0 <ℤ (den -ℤ num)
  most =
      pos_of_mul (denominator *ℤ denominator) (den -ℤ num) square
      (positive_at _ _ (by_one _ _ _ _ (pos 0 -ℤ denominator)
      (ring (numerator ∷ denominator ∷ num ∷ den ∷ []) (((var 1 ⊗ var 1) ⊗ (var 3 ⊖ var 2)) ⊖ (var 3 ⊗ ((var 1 ⊗ var 1) ⊖ (var 0 ⊗ var 1)))) (((var 2 ⊗ var 1) ⊖ (var 0 ⊗ var 3)) ⊗ (con (pos 0) ⊖ var 1)) refl) here)
      (mul_pos den _ den_pos (gap_of_less (numerator *ℤ denominator) (denominator *ℤ denominator) before)))

  climbs : ¬ (denominator ≡ pos 0)
  climbs e = none (numerator *ℤ denominator) after (ap (λ v. numerator *ℤ v) e ∙ times_zero numerator)
    where
      times_zero : (k : ℤ) → k *ℤ pos 0 ≡ pos 0
      times_zero k = omega (arith, ints)

      none : (x : ℤ) → pos 0 <ℤ x → x ≡ pos 0 → ⊥
      none x h e = omega (arith, ints)

pub crossing_not_ordinary : (d : Triple) {s : Part} (e o : Edge s) → Changes d e o → (r : Frac) → IsCrossedAt d e o r → ¬ IsOrdinary d s (point_at e r)
crossing_not_ordinary d {s} e o c r here ordinary =
    let p = c.passes in
    let up = least (numerator_of d e o) (denominator_of d e o) r.num r.den r.positive here p.after p.before in
    let down = most (numerator_of d e o) (denominator_of d e o) r.num r.den r.positive here p.after p.before in
    let own : IsSeenOver d e (point_at e r) =
    (point_at e r, edge_point-at_share e.a e.b r.num r.den r.positive (weak r.num up) (below r.num r.den down), record { across = refl; upward = refl }) in
    climbs (numerator_of d e o) (denominator_of d e o) r.num r.den r.positive here p.after p.before
    (ordinary.off_crossings e o own (outline_over d e o r here (goes_across d e o c)))
  where
    weak : (x : ℤ) → pos 0 <ℤ x → pos 0 ≤ℤ x
    weak x h = omega (arith, ints)

    below : (x y : ℤ) → pos 0 <ℤ (y -ℤ x) → x ≤ℤ y
    below x y h = omega (arith, ints)
