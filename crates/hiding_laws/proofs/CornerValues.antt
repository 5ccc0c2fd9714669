-- The values at a corner, by differences of corners.
use Rattle.std.proofs.Common.{◌≡◌, [], ◌∷◌, refl, sym, ap, ◌∙◌}
use Rattle.std.specs.Prelude.{pos, ◌-ℤ◌}
use Rattle.integers.proofs.Ring.{var, con, ◌⊖◌, ring}
use Rattle.lattice.specs.declared.points.Corner.{Corner}
use Rattle.lattice.specs.Triple.{Triple, dot, det}
use Rattle.lattice.specs.Points.{point_of, difference}
use Rattle.lattice.proofs.Vectors.{Letters, letters, dots}
use Rattle.geometry.specs.Faces.{normal}
use Rattle.hiding_laws.specs.Values.{side_of, depth_of}
use Rattle.hiding_laws.proofs.Values.{offset-corner}

pub side_at : (d : Triple) (k l p : Corner) → det d (difference k l) (difference k p) ≡ side_of d k l (point_of p)
side_at d k l p = ap (λ (t : Triple). det d (difference k l) t) (sym (offset-corner k p))

-- from p to a, and from a to p
abbrev toward : Letters
toward = record { x = var 0 ⊖ var 3; y = var 1 ⊖ var 4; z = var 2 ⊖ var 5 }

abbrev away : Letters
away = record { x = var 3 ⊖ var 0; y = var 4 ⊖ var 1; z = var 5 ⊖ var 2 }

returned : (t : Triple) (a p : Corner) → dot (difference p a) t ≡ pos 0 -ℤ dot (difference a p) t
returned t a p = ring (a.x ∷ a.y ∷ a.z ∷ p.x ∷ p.y ∷ p.z ∷ t.x ∷ t.y ∷ t.z ∷ []) (dots toward (letters 6)) (con (pos 0) ⊖ dots away (letters 6)) refl

pub depth_at : (a b c p : Corner) → det (difference p a) (difference a b) (difference a c) ≡ depth_of a b c (point_of p)
depth_at a b c p = returned (normal a b c) a p ∙ ap (λ (t : Triple). pos 0 -ℤ dot t (normal a b c)) (sym (offset-corner a p))
