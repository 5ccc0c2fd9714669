-- What two lines and the marks of two corners say of an edge and an outline with these corners.
use Rattle.std.proofs.Common.{◌≡◌, ◌<◌, ◌≤◌, ◌^◌, [], ◌∷◌, refl, sym, subst, ◌∙◌, unsigned_abs, to_z, of_z}
use Rattle.std.specs.Prelude.{ℤ, pos, ◌-ℤ◌, ◌*ℤ◌}
use Rattle.std.specs.Int.{w8, w128}
use Rattle.integers.proofs.Ring.{var, con, ◌⊖◌, ◌⊗◌, ring}
use Rattle.lattice.specs.declared.points.Corner.{Corner}
use Rattle.lattice.specs.Triple.{Triple, det}
use Rattle.lattice.proofs.Vectors.{Letters, letters, dots, crosses}
use Rattle.geometry.specs.Faces.{difference}
use Rattle.geometry.specs.Parts.{Part, Edge}
use Rattle.geometry.specs.Views.{face_sign}
use Rattle.geometry.specs.Counts.{Side, orientation_of}
use Rattle.geometry.specs.Shares.{mark, change_of, denominator_of, numerator_of, height_numerator_of, PassesNearer, IsCrossedAt}
use Rattle.lattice.proofs.PointLetters.{ways}
use Rattle.exact_frac.specs.declared.Frac.{Frac}
use Rattle.cross_find.specs.Lines.{PassesBy, IsCrossedBy}
use Rattle.cross_find.proofs.Passed.{passed, turn_passed}

module _ (d : Triple) {s : Part} (e o : Edge s) (a b p q : Corner) (at_a : e.a ≡ a) (at_b : e.b ≡ b) (at_p : o.a ≡ p) (at_q : o.b ≡ q) where
  module _ (denominator numerator height_numerator : ℤ) (is_denominator : denominator ≡ det d (difference a b) (difference p q)) (is_numerator : numerator ≡ det d (difference a p) (difference p q))
      (is_height_numerator : height_numerator ≡ det (difference a b) (difference p q) (difference a p)) where
    same_denominator : denominator ≡ denominator_of d e o
    same_denominator = is_denominator ∙ sym (λ i. det d (difference (at_a i) (at_b i)) (difference (at_p i) (at_q i)))

    same_numerator : numerator ≡ numerator_of d e o
    same_numerator = is_numerator ∙ sym (λ i. det d (difference (at_a i) (at_p i)) (difference (at_p i) (at_q i)))

    same_height_numerator : height_numerator ≡ height_numerator_of e o
    same_height_numerator = is_height_numerator ∙ sym (λ i. det (difference (at_a i) (at_b i)) (difference (at_p i) (at_q i)) (difference (at_a i) (at_p i)))

    same_passes : PassesBy denominator numerator height_numerator ≡ PassesBy (denominator_of d e o) (numerator_of d e o) (height_numerator_of e o)
    same_passes = λ i. PassesBy (same_denominator i) (same_numerator i) (same_height_numerator i)

    pub passes_nearer : PassesBy denominator numerator height_numerator → PassesNearer d e o
    passes_nearer h =
        let g : PassesBy (denominator_of d e o) (numerator_of d e o) (height_numerator_of e o) = subst (λ (T : Type 0). T) same_passes h in
        record { after = g.inner.after; before = g.inner.before; nearer = g.nearer }

    pub passes_by : PassesNearer d e o → PassesBy denominator numerator height_numerator
    passes_by g = subst (λ (T : Type 0). T) (sym same_passes) (record { inner = record { after = g.after; before = g.before }; nearer = g.nearer })

    pub crossed_at : (r : Frac) → IsCrossedBy denominator numerator r → IsCrossedAt d e o r
    crossed_at r h = sym (λ i. r.num *ℤ same_denominator i) ∙ h.at ∙ (λ i. same_numerator i *ℤ r.den)

  changed : (k : Side) (turn from to change : ℤ) → turn ≡ face_sign d o.left -ℤ face_sign d o.right → from ≡ orientation_of d a b p → to ≡ orientation_of d a b q
      → change ≡ turn *ℤ (mark k from -ℤ mark k to) → change ≡ change_of k d e o
  changed k turn from to change is_turn is_from is_to is =
      is ∙ (λ i. is_turn i *ℤ (mark k (is_from i) -ℤ mark k (is_to i)))
      ∙ sym (λ i. (face_sign d o.left -ℤ face_sign d o.right) *ℤ (mark k (orientation_of d (at_a i) (at_b i) (at_p i)) -ℤ mark k (orientation_of d (at_a i) (at_b i) (at_q i))))

  -- the same of the machine's numbers
  pub changed_passed : (k : Side) (turn from to change : ℤ) → unsigned_abs turn ≤ 2 → unsigned_abs from < 2 ^ 48 → unsigned_abs to < 2 ^ 48
      → turn ≡ face_sign d o.left -ℤ face_sign d o.right → from ≡ orientation_of d a b p → to ≡ orientation_of d a b q
      → change ≡ to_z w8 (of_z w8 turn) *ℤ (mark k (to_z w128 (of_z w128 from)) -ℤ mark k (to_z w128 (of_z w128 to))) → change ≡ change_of k d e o
  changed_passed k turn from to change turn_small from_small to_small is_turn is_from is_to is =
      changed k turn from to change is_turn is_from is_to
      (is ∙ (λ i. turn_passed turn turn_small i *ℤ (mark k (passed from from_small i) -ℤ mark k (passed to to_small i))))

  -- ends that are marked alike change no count
  pub unchanged : (k : Side) (from to : ℤ) → from ≡ orientation_of d a b p → to ≡ orientation_of d a b q → mark k from ≡ mark k to → change_of k d e o ≡ pos 0
  unchanged k from to is_from is_to alike =
      let turn = face_sign d o.left -ℤ face_sign d o.right in
      sym (changed k turn from to (turn *ℤ (mark k from -ℤ mark k to)) refl is_from is_to refl) ∙ (λ i. turn *ℤ (alike i -ℤ mark k to)) ∙ none turn (mark k to)
    where
      none : (t m : ℤ) → t *ℤ (m -ℤ m) ≡ pos 0
      none t m = ring (t ∷ m ∷ []) (var 0 ⊗ (var 1 ⊖ var 1)) (con (pos 0)) refl

-- the denominator is the difference of the two turns to the outline's ends
pub denominator_between : (d : Triple) (a b p q : Corner) → orientation_of d a b q -ℤ orientation_of d a b p ≡ det d (difference a b) (difference p q)
denominator_between d a b p q =
    let at = λ (s t : Letters). dots (letters 0) (crosses s t) in
    let from_a = λ (t : Letters). at (ways (letters 3) (letters 6)) (ways (letters 3) t) in
    ring (d.x ∷ d.y ∷ d.z ∷ a.x ∷ a.y ∷ a.z ∷ b.x ∷ b.y ∷ b.z ∷ p.x ∷ p.y ∷ p.z ∷ q.x ∷ q.y ∷ q.z ∷ [])
    (from_a (letters 12) ⊖ from_a (letters 9)) (at (ways (letters 3) (letters 6)) (ways (letters 9) (letters 12))) refl
