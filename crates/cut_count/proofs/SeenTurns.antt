-- Turns in the view of a cut, by the components of two ways across and upward.
use Rattle.std.proofs.Common.{◌≡◌, Bool, true, false, List, [], ◌∷◌, refl}
use Rattle.std.specs.Prelude.{ℤ, pos, negsuc, ◌-ℤ◌, ◌*ℤ◌}
use Rattle.integers.proofs.Ring.{Expr, var, con, ◌⊕◌, ◌⊖◌, ◌⊗◌, ring}
use Rattle.lattice.specs.declared.points.Axis.{Axis}
use Rattle.lattice.specs.declared.points.Axis.TheVariants.{X, Y, Z}
use Rattle.lattice.specs.Triple.{Triple, dot, det, right_axis, up_axis}
use Rattle.lattice.specs.Cuts.{Plane, toward_of, side_of}

abbrev turn_of : Triple → Triple → Triple → ℤ
turn_of d s t = (dot (right_axis d) s *ℤ dot (up_axis d) t) -ℤ (dot (up_axis d) s *ℤ dot (right_axis d) t)

module _ (s t : Triple) where
  abbrev values : List ℤ
  values = s.x ∷ s.y ∷ s.z ∷ t.x ∷ t.y ∷ t.z ∷ []

  abbrev first : Expr → Expr → Expr → Expr
  first x y z = ((x ⊗ var 0) ⊕ (y ⊗ var 1)) ⊕ (z ⊗ var 2)

  abbrev second : Expr → Expr → Expr → Expr
  second x y z = ((x ⊗ var 3) ⊕ (y ⊗ var 4)) ⊕ (z ⊗ var 5)

  abbrev crossed : Expr → Expr → Expr → Expr
  crossed x y z = ((x ⊗ ((var 1 ⊗ var 5) ⊖ (var 2 ⊗ var 4))) ⊕ (y ⊗ ((var 2 ⊗ var 3) ⊖ (var 0 ⊗ var 5)))) ⊕ (z ⊗ ((var 0 ⊗ var 4) ⊖ (var 1 ⊗ var 3)))

  abbrev one : Expr
  one = con (pos 1)

  abbrev none : Expr
  none = con (pos 0)

  abbrev less : Expr
  less = con (negsuc 0)

  unit_turn : (axis : Axis) (high : Bool) → turn_of (side_of axis high) s t ≡ det (side_of axis high) s t
  unit_turn X true = ring values ((first none one none ⊗ second none none one) ⊖ (first none none one ⊗ second none one none)) (crossed one none none) refl
  unit_turn X false = ring values ((first none less none ⊗ second none none one) ⊖ (first none none one ⊗ second none less none)) (crossed less none none) refl
  unit_turn Y true = ring values ((first less none none ⊗ second none none one) ⊖ (first none none one ⊗ second less none none)) (crossed none one none) refl
  unit_turn Y false = ring values ((first one none none ⊗ second none none one) ⊖ (first none none one ⊗ second one none none)) (crossed none less none) refl
  unit_turn Z true = ring values ((first one none none ⊗ second none one none) ⊖ (first none one none ⊗ second one none none)) (crossed none none one) refl
  unit_turn Z false = ring values ((first one none none ⊗ second none less none) ⊖ (first none less none ⊗ second one none none)) (crossed none none less) refl

-- a turn as the view shows it
pub turn_is : (c : Plane) (s t : Triple) → (dot (right_axis (toward_of c)) s *ℤ dot (up_axis (toward_of c)) t) -ℤ (dot (up_axis (toward_of c)) s *ℤ dot (right_axis (toward_of c)) t) ≡ det (toward_of c) s t
turn_is c s t = unit_turn s t c.axis c.from_high
