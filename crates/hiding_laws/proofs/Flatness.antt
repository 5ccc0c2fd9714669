-- The corners of an edge-on triangle that isn't flat are not all seen at one place.
use Rattle.std.proofs.Common.{◌≡◌, List, [], ◌∷◌, refl, ◌∙◌}
use Rattle.std.specs.Prelude.{ℤ, pos, negsuc, ◌-ℤ◌, ◌*ℤ◌, ◌<ℤ◌}
use Rattle.integers.proofs.Ring.{Expr, con, ◌⊕◌, ◌⊖◌, ◌⊗◌, ring, by_one, by_three}
use Rattle.integers.proofs.Signs.{zero_of_mul}
use Rattle.lattice.specs.declared.points.Corner.{Corner}
use Rattle.lattice.specs.Triple.{Triple, dot, cross, right_axis, up_axis, IsZero}
use Rattle.lattice.specs.Points.{difference, point_of, scaled}
use Rattle.lattice.proofs.Vectors.{Letters, letters, dots, crosses}
use Rattle.lattice.proofs.SightLines.{alike, right_axis-is}
use Rattle.geometry.specs.Faces.{IsFlat, facing_of}
use Rattle.hiding_laws.proofs.Screens.{Screen}
use Rattle.hiding_laws.proofs.OnScreens.{seen}

-- two vectors along d are along each other
module _ (d e f : Triple) (square : pos 0 <ℤ dot d d) (along_e : IsZero (cross e d)) (along_f : IsZero (cross f d)) (level : dot d (cross e f) ≡ pos 0) where
  abbrev here : List ℤ
  here = d.x ∷ d.y ∷ d.z ∷ e.x ∷ e.y ∷ e.z ∷ f.x ∷ f.y ∷ f.z ∷ []

  abbrev D : Letters
  D = letters 0

  abbrev E : Letters
  E = letters 3

  abbrev F : Letters
  F = letters 6

  -- dot d d times a component of e cross f
  abbrev squares : Expr → Expr
  squares a = (dots D D ⊗ a) ⊖ con (pos 0)

  -- one component of (d . (e x f)) d - (d . e) (f x d) + (d . f) (e x d)
  abbrev parts : Expr → Expr → Expr → Expr
  parts a b c =
      (((dots D (crosses E F) ⊖ con (pos 0)) ⊗ a) ⊕ ((b ⊖ con (pos 0)) ⊗ (con (pos 0) ⊖ dots D E))) ⊕ ((c ⊖ con (pos 0)) ⊗ dots D F)

  parallel : IsZero (cross e f)
  parallel = record {
    x = zero_of_mul (dot d d) (cross e f).x square (by_three (dot d d *ℤ (cross e f).x) (pos 0) (dot d (cross e f)) (pos 0) d.x (cross f d).x (pos 0) (pos 0 -ℤ dot d e) (cross e d).x (pos 0) (dot d f)
        (ring here (squares (crosses E F).x) (parts D.x (crosses F D).x (crosses E D).x) refl) level along_f.x along_e.x);
    y = zero_of_mul (dot d d) (cross e f).y square (by_three (dot d d *ℤ (cross e f).y) (pos 0) (dot d (cross e f)) (pos 0) d.y (cross f d).y (pos 0) (pos 0 -ℤ dot d e) (cross e d).y (pos 0) (dot d f)
        (ring here (squares (crosses E F).y) (parts D.y (crosses F D).y (crosses E D).y) refl) level along_f.y along_e.y);
    z = zero_of_mul (dot d d) (cross e f).z square (by_three (dot d d *ℤ (cross e f).z) (pos 0) (dot d (cross e f)) (pos 0) d.z (cross f d).z (pos 0) (pos 0 -ℤ dot d e) (cross e d).z (pos 0) (dot d f)
        (ring here (squares (crosses E F).z) (parts D.z (crosses F D).z (crosses E D).z) refl) level along_f.z along_e.z);
  }

-- the way between two corners with one product has no part along r
no_way : (r : Triple) (a b : Corner) → dot r (scaled (point_of a)) ≡ dot r (scaled (point_of b)) → dot r (difference a b) ≡ pos 0
no_way r a b =
    let A = letters 3 in
    let B = letters 6 in
    by_one _ _ _ _ (negsuc 0)
    (ring (r.x ∷ r.y ∷ r.z ∷ a.x ∷ a.y ∷ a.z ∷ b.x ∷ b.y ∷ b.z ∷ [])
    (dots (letters 0) (record { x = B.x ⊖ A.x; y = B.y ⊖ A.y; z = B.z ⊖ A.z }) ⊖ con (pos 0))
    ((dots (letters 0) A ⊖ dots (letters 0) B) ⊗ con (negsuc 0)) refl)

module _ (d : Triple) where
  abbrev at : Corner → Screen
  at a = seen d (point_of a)

  -- two corners that are seen at one place differ along d
  along : (a b : Corner) → (at a).u ≡ (at b).u → (at a).v ≡ (at b).v → IsZero (cross (difference a b) d)
  along a b u v =
      let axis = right_axis-is d in
      alike (right_axis d) (right_axis d) (difference a b) d axis.square axis.level (no_way (right_axis d) a b u) (no_way (up_axis d) a b v)

  pub together_flat : (a b c : Corner) → pos 0 <ℤ dot d d → facing_of d a b c ≡ pos 0
      → ((at a).u ≡ (at b).u) × ((at a).v ≡ (at b).v) × ((at b).u ≡ (at c).u) × ((at b).v ≡ (at c).v) → IsFlat a b c
  together_flat a b c square edge_on e = parallel d (difference a b) (difference a c) square (along a b e.0 e.1) (along a c (e.0 ∙ e.2) (e.1 ∙ e.3)) edge_on
