-- An edge-on triangle that is not flat stands up or hangs down from each of its sides that is not seen end-on.
use Rattle.std.proofs.Common.{◌≡◌, [], ◌∷◌, refl, ap, ◌∙◌}
use Rattle.std.specs.Prelude.{ℤ, pos, ◌-ℤ◌, ◌*ℤ◌, ◌<ℤ◌}
use Rattle.integers.proofs.Ring.{var, con, ◌⊕◌, ◌⊖◌, ◌⊗◌, ring, by_one, by_two}
use Rattle.integers.proofs.Signs.{zero_of_mul}
use Rattle.lattice.specs.declared.points.Corner.{Corner}
use Rattle.lattice.specs.Triple.{Triple, dot, right_axis, up_axis, IsZero}
use Rattle.lattice.specs.Points.{point_of, difference}
use Rattle.lattice.proofs.Vectors.{letters, dots, dot_somewhere}
use Rattle.lattice.proofs.SightLines.{alike, right_axis-is, multiple_x, multiple_y, multiple_z}
use Rattle.geometry.specs.Faces.{IsFlat}
use Rattle.hiding_laws.proofs.Screens.{Screen, area_of, length_of}
use Rattle.hiding_laws.proofs.OnScreens.{seen}
use Rattle.hiding_laws.proofs.Readings.{dot-difference}
use Rattle.hiding_laws.proofs.Uprights.{foot_of, rise_of}

module _ (d : Triple) (directed : ¬ IsZero d) (a b c : Corner) (long : pos 0 <ℤ length_of (seen d (point_of a)) (seen d (point_of b)))
    (level : area_of (seen d (point_of a)) (seen d (point_of b)) (seen d (point_of c)) ≡ pos 0) (low : rise_of (seen d (point_of a)) (seen d (point_of b)) (seen d (point_of c)) ≡ pos 0) where
  abbrev A : Screen
  A = seen d (point_of a)

  abbrev B : Screen
  B = seen d (point_of b)

  abbrev C : Screen
  C = seen d (point_of c)

  abbrev e : Triple
  e = difference a b

  abbrev f : Triple
  f = difference a c

  -- the way to the third corner from its foot on the side
  abbrev way : Triple
  way = record {
    x = (length_of A B *ℤ f.x) -ℤ (foot_of A B C *ℤ e.x);
    y = (length_of A B *ℤ f.y) -ℤ (foot_of A B C *ℤ e.y);
    z = (length_of A B *ℤ f.z) -ℤ (foot_of A B C *ℤ e.z);
  }

  along : (t : Triple) → dot t way ≡ (length_of A B *ℤ dot t f) -ℤ (foot_of A B C *ℤ dot t e)
  along t =
      let E = letters 3 in
      let F = letters 6 in
      ring (t.x ∷ t.y ∷ t.z ∷ e.x ∷ e.y ∷ e.z ∷ f.x ∷ f.y ∷ f.z ∷ length_of A B ∷ foot_of A B C ∷ [])
      (dots (letters 0) (record { x = (var 9 ⊗ F.x) ⊖ (var 10 ⊗ E.x); y = (var 9 ⊗ F.y) ⊖ (var 10 ⊗ E.y); z = (var 9 ⊗ F.z) ⊖ (var 10 ⊗ E.z) }))
      ((var 9 ⊗ dots (letters 0) F) ⊖ (var 10 ⊗ dots (letters 0) E)) refl

  across : dot (right_axis d) way ≡ pos 0
  across =
      let eu = var 2 ⊖ var 0 in
      let ev = var 3 ⊖ var 1 in
      let fu = var 4 ⊖ var 0 in
      let fv = var 5 ⊖ var 1 in
      along (right_axis d)
      ∙ (λ i. (length_of A B *ℤ dot-difference (right_axis d) a c i) -ℤ (foot_of A B C *ℤ dot-difference (right_axis d) a b i))
      ∙ by_one _ _ _ _ (A.v -ℤ B.v)
      (ring (A.u ∷ A.v ∷ B.u ∷ B.v ∷ C.u ∷ C.v ∷ [])
      (((((eu ⊗ eu) ⊕ (ev ⊗ ev)) ⊗ fu) ⊖ (((eu ⊗ fu) ⊕ (ev ⊗ fv)) ⊗ eu)) ⊖ con (pos 0))
      ((((eu ⊗ fv) ⊖ (ev ⊗ fu)) ⊖ con (pos 0)) ⊗ (var 1 ⊖ var 3)) refl) level

  upward : dot (up_axis d) way ≡ pos 0
  upward =
      let eu = var 2 ⊖ var 0 in
      let ev = var 3 ⊖ var 1 in
      let fu = var 4 ⊖ var 0 in
      let fv = var 5 ⊖ var 1 in
      along (up_axis d)
      ∙ (λ i. (length_of A B *ℤ dot-difference (up_axis d) a c i) -ℤ (foot_of A B C *ℤ dot-difference (up_axis d) a b i))
      ∙ by_one _ _ _ _ (B.u -ℤ A.u)
      (ring (A.u ∷ A.v ∷ B.u ∷ B.v ∷ C.u ∷ C.v ∷ [])
      (((((eu ⊗ eu) ⊕ (ev ⊗ ev)) ⊗ fv) ⊖ (((eu ⊗ fu) ⊕ (ev ⊗ fv)) ⊗ ev)) ⊖ con (pos 0))
      ((((eu ⊗ fv) ⊖ (ev ⊗ fu)) ⊖ con (pos 0)) ⊗ (var 2 ⊖ var 0)) refl) level

  height : dot d way ≡ pos 0
  height =
      along d
      ∙ (λ i. (length_of A B *ℤ dot-difference d a c i) -ℤ (foot_of A B C *ℤ dot-difference d a b i))
      ∙ ring (A.h ∷ B.h ∷ C.h ∷ length_of A B ∷ foot_of A B C ∷ [])
      ((var 3 ⊗ (var 2 ⊖ var 0)) ⊖ (var 4 ⊗ (var 1 ⊖ var 0)))
      ((var 3 ⊗ var 2) ⊖ (((var 3 ⊖ var 4) ⊗ var 0) ⊕ (var 4 ⊗ var 1))) refl
      ∙ low

  -- it is none
  none : IsZero way
  none =
      let axis = right_axis-is d in
      let zero = alike (right_axis d) (right_axis d) way d axis.square axis.level across upward in
      record { x = still _ _ (multiple_x d way zero); y = still _ _ (multiple_y d way zero); z = still _ _ (multiple_z d way zero) }
    where
      times_zero : (n : ℤ) → pos 0 *ℤ n ≡ pos 0
      times_zero n = ring (n ∷ []) (con (pos 0) ⊗ var 0) (con (pos 0)) refl

      still : (x y : ℤ) → dot d d *ℤ x ≡ dot d way *ℤ y → x ≡ pos 0
      still x y h = zero_of_mul (dot d d) x (dot_somewhere d directed) (h ∙ ap (λ v. v *ℤ y) height ∙ times_zero y)

  -- one component of the normal
  part : (p q r s : ℤ) → (length_of A B *ℤ r) -ℤ (foot_of A B C *ℤ p) ≡ pos 0 → (length_of A B *ℤ s) -ℤ (foot_of A B C *ℤ q) ≡ pos 0 → (p *ℤ s) -ℤ (q *ℤ r) ≡ pos 0
  part p q r s g h =
      zero_of_mul (length_of A B) ((p *ℤ s) -ℤ (q *ℤ r)) long
      (by_two (length_of A B *ℤ ((p *ℤ s) -ℤ (q *ℤ r))) (pos 0) ((length_of A B *ℤ s) -ℤ (foot_of A B C *ℤ q)) (pos 0) p ((length_of A B *ℤ r) -ℤ (foot_of A B C *ℤ p)) (pos 0) (pos 0 -ℤ q)
      (ring (p ∷ q ∷ r ∷ s ∷ length_of A B ∷ foot_of A B C ∷ [])
      ((var 4 ⊗ ((var 0 ⊗ var 3) ⊖ (var 1 ⊗ var 2))) ⊖ con (pos 0))
      (((((var 4 ⊗ var 3) ⊖ (var 5 ⊗ var 1)) ⊖ con (pos 0)) ⊗ var 0) ⊕ ((((var 4 ⊗ var 2) ⊖ (var 5 ⊗ var 0)) ⊖ con (pos 0)) ⊗ (con (pos 0) ⊖ var 1))) refl) h g)

  pub level_flat : IsFlat a b c
  level_flat = record {
    x = part e.y e.z f.y f.z none.y none.z;
    y = part e.z e.x f.z f.x none.z none.x;
    z = part e.x e.y f.x f.y none.x none.y;
  }
