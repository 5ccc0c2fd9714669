-- How far points are below the plane of a cut, and what is ordinary in its view.
use Rattle.std.proofs.Common.{◌≡◌, ℕ, ◌+◌, [], ◌∷◌, refl, sym, ◌∙◌, arith, Bool, true, false}
use Rattle.std.specs.Prelude.{◌↔◌, ℤ, pos, ◌+ℤ◌, ◌-ℤ◌, ◌*ℤ◌, ◌<ℤ◌}
use Rattle.std.proofs.lemmas.Int.{ints}
use Rattle.integers.proofs.Comparisons.{same_of_gap_back}
use Rattle.integers.proofs.Ring.{Expr, var, con, ◌⊕◌, ◌⊖◌, ◌⊗◌, ring}
use Rattle.lattice.specs.declared.points.Axis.{Axis}
use Rattle.lattice.specs.declared.points.Axis.TheVariants.{X, Y, Z}
use Rattle.lattice.specs.declared.points.Corner.{Corner}
use Rattle.lattice.specs.Triple.{dot, IsZero}
use Rattle.lattice.specs.Points.{Point, point_of, height_of}
use Rattle.lattice.specs.Cuts.{Plane, side_of, toward_of, plane_height, IsBeyond, IsOnPlane}
use Rattle.lattice.proofs.CutSides.{corner_off_plane}
use Rattle.lattice.proofs.Vectors.{letters, dots}
use Rattle.geometry.specs.Faces.{edge_sum, share_point}
use Rattle.geometry.specs.Parts.{Part}
use Rattle.geometry.specs.Views.{IsOrdinary}
use Rattle.geometry.specs.Cuts.{edge, IsOrdinaryInCut}
use Rattle.geometry.proofs.Borders.{edge_rise}
use Rattle.hiding_laws.specs.Values.{value_at}
use Rattle.hiding_laws.specs.CutValues.{below_of}

-- ---- the direction is one unit long
unit_square : (axis : Axis) (from_high : Bool) → dot (side_of axis from_high) (side_of axis from_high) ≡ pos 1
unit_square X true = refl
unit_square X false = refl
unit_square Y true = refl
unit_square Y false = refl
unit_square Z true = refl
unit_square Z false = refl

module _ (c : Plane) where
  pub square-one : dot (toward_of c) (toward_of c) ≡ pos 1
  square-one = unit_square c.axis c.from_high

  pub cut-somewhere : ¬ IsZero (toward_of c)
  cut-somewhere none = apart _ (sym square-one ∙ (λ t. (none.x t *ℤ none.x t) +ℤ (none.y t *ℤ none.y t) +ℤ (none.z t *ℤ none.z t))) refl
    where
      apart : (v : ℤ) → pos 1 ≡ v → v ≡ pos 0 → ⊥
      apart v h k = omega (arith, ints)

  -- ---- below the plane
  pub below-beyond : (p : Point) → IsBeyond c p ↔ (pos 0 <ℤ below_of c p)
  below-beyond p = go (pos 2 *ℤ height_of (toward_of c) p) (plane_height c *ℤ p.w)
    where
      go : (x y : ℤ) → (x <ℤ y) ↔ (pos 0 <ℤ (y -ℤ x))
      go x y = ((λ h. omega (arith, ints)), (λ h. omega (arith, ints)))

  pub below-on : (p : Point) → below_of c p ≡ pos 0 → IsOnPlane c p
  below-on p h = same_of_gap_back (pos 2 *ℤ height_of (toward_of c) p) (plane_height c *ℤ p.w) h

  pub corner-not-level : (k : Corner) → ¬ (below_of c (point_of k) ≡ pos 0)
  corner-not-level k h = corner_off_plane c k (below-on (point_of k) h)

  pub below-sum : (k l : Corner) (i j : ℕ) → below_of c (edge_sum k l i j) ≡ (pos i *ℤ below_of c (point_of k)) +ℤ (pos j *ℤ below_of c (point_of l))
  below-sum k l i j =
      turned (pos 2 *ℤ height_of (toward_of c) (edge_sum k l i j)) (plane_height c *ℤ pos (i + j)) _ (edge_rise c k l i j)
      ∙ ring (pos i ∷ pos j ∷ height_of (toward_of c) (point_of k) ∷ height_of (toward_of c) (point_of l) ∷ plane_height c ∷ [])
      (con (pos 0) ⊖ ((var 0 ⊗ ((con (pos 2) ⊗ var 2) ⊖ var 4)) ⊕ (var 1 ⊗ ((con (pos 2) ⊗ var 3) ⊖ var 4))))
      ((var 0 ⊗ ((var 4 ⊗ con (pos 1)) ⊖ (con (pos 2) ⊗ var 2))) ⊕ (var 1 ⊗ ((var 4 ⊗ con (pos 1)) ⊖ (con (pos 2) ⊗ var 3)))) refl
    where
      turned : (x y z : ℤ) → x -ℤ y ≡ z → y -ℤ x ≡ pos 0 -ℤ z
      turned x y z h = omega (arith, ints)

  -- linear along an edge
  pub below-share : (p q : Corner) (n m : ℤ) → below_of c (share_point p q n m) ≡ value_at (below_of c (point_of p)) (below_of c (point_of q)) n m
  below-share p q n m =
      let d = toward_of c in
      ring (d.x ∷ d.y ∷ d.z ∷ p.x ∷ p.y ∷ p.z ∷ q.x ∷ q.y ∷ q.z ∷ n ∷ m ∷ plane_height c ∷ [])
      ((var 11 ⊗ var 10) ⊖ (con (pos 2) ⊗ dots (letters 0) (record { x = mixed (var 3) (var 6); y = mixed (var 4) (var 7); z = mixed (var 5) (var 8) })))
      (mixed ((var 11 ⊗ con (pos 1)) ⊖ (con (pos 2) ⊗ dots (letters 0) (letters 3))) ((var 11 ⊗ con (pos 1)) ⊖ (con (pos 2) ⊗ dots (letters 0) (letters 6)))) refl
    where
      mixed : Expr → Expr → Expr
      mixed x y = ((var 10 ⊖ var 9) ⊗ x) ⊕ (var 9 ⊗ y)

  -- ---- what is ordinary in the cut view is so in the plain one
  pub ordinary-in-plain : (s : Part) (p : Point) → IsOrdinaryInCut c s p → IsOrdinary (toward_of c) s p
  ordinary-in-plain s p h = record {
    off_corners = h.off_corners;
    off_crossings = λ e f over_e over_f. h.off_crossings (edge e) (edge f) over_e over_f;
  }
