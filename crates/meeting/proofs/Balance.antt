-- Vectors in one line that don't go in one direction have a sum of 0 with weights.
use Rattle.std.proofs.Common.{◌≡◌, List, [], ◌∷◌, refl, ◌∙◌, arith}
use Rattle.std.specs.Prelude.{ℤ, pos, ◌+ℤ◌, ◌-ℤ◌, ◌*ℤ◌, ◌≤ℤ◌, ◌<ℤ◌}
use Rattle.std.proofs.lemmas.Int.{ints, by_lt_z}
use Rattle.integers.proofs.Comparisons.{positive_not_zero, negation_not_negative, not_negative_of_positive}
use Rattle.integers.proofs.Ring.{var, con, ◌⊕◌, ◌⊖◌, ◌⊗◌, ring, by_two}
use Rattle.integers.proofs.Signs.{square_nonneg, square_zero}
use Rattle.lattice.specs.Triple.{Triple, dot, cross, IsZero}
use Rattle.lattice.proofs.Vectors.{Letters, letters, dots, crosses}

-- ---- squares
pub square-least : (s : Triple) → pos 0 ≤ℤ dot s s
square-least s = sum _ _ _ (square_nonneg s.x) (square_nonneg s.y) (square_nonneg s.z)
  where
    sum : (x y z : ℤ) → pos 0 ≤ℤ x → pos 0 ≤ℤ y → pos 0 ≤ℤ z → pos 0 ≤ℤ ((x +ℤ y) +ℤ z)
    sum x y z p q r = omega (arith, ints)

pub zero-of-square : (s : Triple) → dot s s ≤ℤ pos 0 → IsZero s
zero-of-square s h =
    let e = parts _ _ _ (square_nonneg s.x) (square_nonneg s.y) (square_nonneg s.z) h in
    record { x = square_zero s.x (e.0); y = square_zero s.y (e.1); z = square_zero s.z (e.2) }
  where
    parts : (x y z : ℤ) → pos 0 ≤ℤ x → pos 0 ≤ℤ y → pos 0 ≤ℤ z → ((x +ℤ y) +ℤ z) ≤ℤ pos 0 → (x ≤ℤ pos 0) × (y ≤ℤ pos 0) × (z ≤ℤ pos 0)
    parts x y z p q r h = (omega (arith, ints), omega (arith, ints), omega (arith, ints))

abbrev R : Letters
R = letters 0

abbrev S : Letters
S = letters 3

module _ (r s : Triple) where
  abbrev values : List ℤ
  values = r.x ∷ r.y ∷ r.z ∷ s.x ∷ s.y ∷ s.z ∷ []

  -- a vector with a positive product isn't 0
  pub square-of-product : pos 0 <ℤ dot r s → pos 0 <ℤ dot r r
  square-of-product h = by_lt_z (pos 0) (dot r r) (λ k. k) (λ k. absurd (positive_not_zero _ h (none (zero-of-square r k))))
    where
      none : IsZero r → dot r s ≡ pos 0
      none z = (λ t. ((z.x t *ℤ s.x) +ℤ (z.y t *ℤ s.y)) +ℤ (z.z t *ℤ s.z)) ∙ sum s.x s.y s.z
        where
          sum : (x y z : ℤ) → ((pos 0 *ℤ x) +ℤ (pos 0 *ℤ y)) +ℤ (pos 0 *ℤ z) ≡ pos 0
          sum x y z = omega (arith, ints)

  -- ---- vectors in one line
  module _ (line : IsZero (cross r s)) where
    pub along_x : dot r r *ℤ s.x ≡ dot r s *ℤ r.x
    along_x = by_two _ _ (cross r s).z (pos 0) (pos 0 -ℤ r.y) (cross r s).y (pos 0) r.z
        (ring values ((dots R R ⊗ S.x) ⊖ (dots R S ⊗ R.x))
        ((((crosses R S).z ⊖ con (pos 0)) ⊗ (con (pos 0) ⊖ R.y)) ⊕ (((crosses R S).y ⊖ con (pos 0)) ⊗ R.z)) refl) line.z line.y

    pub along_y : dot r r *ℤ s.y ≡ dot r s *ℤ r.y
    along_y = by_two _ _ (cross r s).x (pos 0) (pos 0 -ℤ r.z) (cross r s).z (pos 0) r.x
        (ring values ((dots R R ⊗ S.y) ⊖ (dots R S ⊗ R.y))
        ((((crosses R S).x ⊖ con (pos 0)) ⊗ (con (pos 0) ⊖ R.z)) ⊕ (((crosses R S).z ⊖ con (pos 0)) ⊗ R.x)) refl) line.x line.z

    pub along_z : dot r r *ℤ s.z ≡ dot r s *ℤ r.z
    along_z = by_two _ _ (cross r s).y (pos 0) (pos 0 -ℤ r.x) (cross r s).x (pos 0) r.y
        (ring values ((dots R R ⊗ S.z) ⊖ (dots R S ⊗ R.z))
        ((((crosses R S).y ⊖ con (pos 0)) ⊗ (con (pos 0) ⊖ R.x)) ⊕ (((crosses R S).x ⊖ con (pos 0)) ⊗ R.y)) refl) line.y line.x

-- weights with which the two have a sum of 0
pub record Balance (r s : Triple) : Type 0 where
  pub i : ℤ
  pub j : ℤ
  pub i_least : pos 0 ≤ℤ i
  pub j_least : pos 0 ≤ℤ j
  pub some : pos 0 <ℤ (i +ℤ j)
  pub x : (i *ℤ r.x) +ℤ (j *ℤ s.x) ≡ pos 0
  pub y : (i *ℤ r.y) +ℤ (j *ℤ s.y) ≡ pos 0
  pub z : (i *ℤ r.z) +ℤ (j *ℤ s.z) ≡ pos 0

pub balance : (r s : Triple) → IsZero (cross r s) → dot r s ≤ℤ pos 0 → Balance r s
balance r s line opposed = by_lt_z (pos 0) (dot r r) apart (λ h. here (zero-of-square r h))
  where
    most : (k m : ℤ) → pos 0 <ℤ k → m ≤ℤ pos 0 → pos 0 <ℤ ((pos 0 -ℤ m) +ℤ k)
    most k m p h = omega (arith, ints)

    level : (f g h : ℤ) → g ≡ f *ℤ h → ((pos 0 -ℤ f) *ℤ h) +ℤ g ≡ pos 0
    level f g h e = (λ t. ((pos 0 -ℤ f) *ℤ h) +ℤ e t) ∙ ring (f ∷ h ∷ []) (((con (pos 0) ⊖ var 0) ⊗ var 1) ⊕ (var 0 ⊗ var 1)) (con (pos 0)) refl

    apart : pos 0 <ℤ dot r r → Balance r s
    apart h = record {
      i = pos 0 -ℤ dot r s;
      j = dot r r;
      i_least = negation_not_negative (dot r s) opposed;
      j_least = not_negative_of_positive (dot r r) h;
      some = most (dot r r) (dot r s) h opposed;
      x = level (dot r s) (dot r r *ℤ s.x) r.x (along_x r s line);
      y = level (dot r s) (dot r r *ℤ s.y) r.y (along_y r s line);
      z = level (dot r s) (dot r r *ℤ s.z) r.z (along_z r s line);
    }

    alone : (f g : ℤ) → f ≡ pos 0 → (pos 1 *ℤ f) +ℤ (pos 0 *ℤ g) ≡ pos 0
    alone f g e = omega (arith, ints)

    here : IsZero r → Balance r s
    here z = record {
      i = pos 1;
      j = pos 0;
      i_least = omega (arith, ints);
      j_least = omega (arith, ints);
      some = omega (arith, ints);
      x = alone r.x s.x z.x;
      y = alone r.y s.y z.y;
      z = alone r.z s.z z.z;
    }
