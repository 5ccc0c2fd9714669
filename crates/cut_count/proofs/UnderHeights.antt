-- How far the plane of a triangle is below that of a cut over a corner: the heights of its corners, each by a turn as it is seen from there.
use Rattle.std.proofs.Common.{◌≡◌, [], ◌∷◌, refl, ◌∙◌}
use Rattle.std.specs.Prelude.{ℤ, pos, ◌+ℤ◌, ◌-ℤ◌, ◌*ℤ◌}
use Rattle.integers.proofs.Ring.{Expr, var, con, ◌⊕◌, ◌⊖◌, ◌⊗◌, ring}
use Rattle.lattice.specs.declared.points.Corner.{Corner}
use Rattle.lattice.specs.Triple.{Triple, dot, det}
use Rattle.lattice.specs.Points.{point_of}
use Rattle.lattice.specs.Cuts.{Plane, toward_of, plane_height}
use Rattle.lattice.proofs.Vectors.{Letters, letters, dots, crosses}
use Rattle.geometry.specs.Cuts.{over_of}
use Rattle.geometry.specs.Faces.{difference, facing_of}
use Rattle.hiding_laws.specs.Values.{depth_of}
use Rattle.hiding_laws.specs.CutValues.{below_of, under_of}
use Rattle.hiding_laws.proofs.CutPlanes.{square-one}

abbrev dets : Letters → Letters → Letters → Expr
dets s t v = dots s (crosses t v)

abbrev less : Letters → Letters → Letters
less s t = record { x = t.x ⊖ s.x; y = t.y ⊖ s.y; z = t.z ⊖ s.z }

-- along a direction, three ways weigh by the turns between the other two as much as they span
spanned : (d u v w : Triple) → ((dot d u *ℤ det d w v) +ℤ (dot d v *ℤ det d u w)) +ℤ (dot d w *ℤ det d v u) ≡ pos 0 -ℤ (dot d d *ℤ det u v w)
spanned d u v w =
    ring (d.x ∷ d.y ∷ d.z ∷ u.x ∷ u.y ∷ u.z ∷ v.x ∷ v.y ∷ v.z ∷ w.x ∷ w.y ∷ w.z ∷ [])
    (((dots (letters 0) (letters 3) ⊗ dets (letters 0) (letters 9) (letters 6)) ⊕ (dots (letters 0) (letters 6) ⊗ dets (letters 0) (letters 3) (letters 9))) ⊕ (dots (letters 0) (letters 9) ⊗ dets (letters 0) (letters 6) (letters 3)))
    (con (pos 0) ⊖ (dots (letters 0) (letters 0) ⊗ dets (letters 3) (letters 6) (letters 9))) refl

parted : (u v w l a b e : ℤ) → ((((pos 2 *ℤ u) -ℤ l) *ℤ a) +ℤ (((pos 2 *ℤ v) -ℤ l) *ℤ b)) +ℤ (((pos 2 *ℤ w) -ℤ l) *ℤ e) ≡ (pos 2 *ℤ (((u *ℤ a) +ℤ (v *ℤ b)) +ℤ (w *ℤ e))) -ℤ (l *ℤ ((a +ℤ b) +ℤ e))
parted u v w l a b e =
    ring (u ∷ v ∷ w ∷ l ∷ a ∷ b ∷ e ∷ [])
    (((((con (pos 2) ⊗ var 0) ⊖ var 3) ⊗ var 4) ⊕ (((con (pos 2) ⊗ var 1) ⊖ var 3) ⊗ var 5)) ⊕ (((con (pos 2) ⊗ var 2) ⊖ var 3) ⊗ var 6))
    ((con (pos 2) ⊗ (((var 0 ⊗ var 4) ⊕ (var 1 ⊗ var 5)) ⊕ (var 2 ⊗ var 6))) ⊖ (var 3 ⊗ ((var 4 ⊕ var 5) ⊕ var 6))) refl

joined : (v l s : ℤ) → (pos 2 *ℤ (pos 0 -ℤ (pos 1 *ℤ v))) -ℤ (l *ℤ s) ≡ ((pos 0 -ℤ s) *ℤ l) -ℤ (pos 2 *ℤ v)
joined v l s =
    ring (v ∷ l ∷ s ∷ [])
    ((con (pos 2) ⊗ (con (pos 0) ⊖ (con (pos 1) ⊗ var 0))) ⊖ (var 1 ⊗ var 2))
    (((con (pos 0) ⊖ var 2) ⊗ var 1) ⊖ (con (pos 2) ⊗ var 0)) refl

module _ (c : Plane) (i j k p : Corner) where
  abbrev d : Triple
  d = toward_of c

  abbrev low : ℤ
  low = below_of c (point_of p)

  abbrev deep : ℤ
  deep = depth_of i j k (point_of p)

  -- the turns from p between two of the corners
  abbrev across_i : ℤ
  across_i = det d (difference p k) (difference p j)

  abbrev across_j : ℤ
  across_j = det d (difference p i) (difference p k)

  abbrev across_k : ℤ
  across_k = det d (difference p j) (difference p i)

  turned : pos 0 -ℤ ((across_i +ℤ across_j) +ℤ across_k) ≡ facing_of d i j k
  turned =
      ring (d.x ∷ d.y ∷ d.z ∷ i.x ∷ i.y ∷ i.z ∷ j.x ∷ j.y ∷ j.z ∷ k.x ∷ k.y ∷ k.z ∷ p.x ∷ p.y ∷ p.z ∷ [])
      (con (pos 0) ⊖ ((dets (letters 0) (less (letters 12) (letters 9)) (less (letters 12) (letters 6)) ⊕ dets (letters 0) (less (letters 12) (letters 3)) (less (letters 12) (letters 9))) ⊕ dets (letters 0) (less (letters 12) (letters 6)) (less (letters 12) (letters 3))))
      (dets (letters 0) (less (letters 3) (letters 6)) (less (letters 3) (letters 9))) refl

  spanned_deep : det (difference p i) (difference p j) (difference p k) ≡ deep
  spanned_deep =
      ring (i.x ∷ i.y ∷ i.z ∷ j.x ∷ j.y ∷ j.z ∷ k.x ∷ k.y ∷ k.z ∷ p.x ∷ p.y ∷ p.z ∷ [])
      (dets (less (letters 9) (letters 0)) (less (letters 9) (letters 3)) (less (letters 9) (letters 6)))
      (con (pos 0) ⊖ dots (record { x = var 9 ⊖ (con (pos 1) ⊗ var 0); y = var 10 ⊖ (con (pos 1) ⊗ var 1); z = var 11 ⊖ (con (pos 1) ⊗ var 2) }) (crosses (less (letters 0) (letters 3)) (less (letters 0) (letters 6)))) refl

  -- a corner's height by its way from p
  high : (a : Corner) → over_of c a ≡ (pos 2 *ℤ dot d (difference p a)) -ℤ low
  high a =
      ring (d.x ∷ d.y ∷ d.z ∷ a.x ∷ a.y ∷ a.z ∷ p.x ∷ p.y ∷ p.z ∷ plane_height c ∷ [])
      ((con (pos 2) ⊗ dots (letters 0) (letters 3)) ⊖ var 9)
      ((con (pos 2) ⊗ dots (letters 0) (less (letters 6) (letters 3))) ⊖ ((var 9 ⊗ con (pos 1)) ⊖ (con (pos 2) ⊗ dots (letters 0) (letters 6)))) refl

  sum : ((dot d (difference p i) *ℤ across_i) +ℤ (dot d (difference p j) *ℤ across_j)) +ℤ (dot d (difference p k) *ℤ across_k) ≡ pos 0 -ℤ (pos 1 *ℤ deep)
  sum = spanned d (difference p i) (difference p j) (difference p k) ∙ (λ t. pos 0 -ℤ (square-one c t *ℤ spanned_deep t))

  pub by_heights : ((over_of c i *ℤ across_i) +ℤ (over_of c j *ℤ across_j)) +ℤ (over_of c k *ℤ across_k) ≡ under_of c i j k (point_of p)
  by_heights =
      (λ t. ((high i t *ℤ across_i) +ℤ (high j t *ℤ across_j)) +ℤ (high k t *ℤ across_k))
      ∙ parted (dot d (difference p i)) (dot d (difference p j)) (dot d (difference p k)) low across_i across_j across_k
      ∙ (λ t. (pos 2 *ℤ sum t) -ℤ (low *ℤ ((across_i +ℤ across_j) +ℤ across_k)))
      ∙ joined deep low ((across_i +ℤ across_j) +ℤ across_k)
      ∙ (λ t. (turned t *ℤ low) -ℤ (pos 2 *ℤ deep))
