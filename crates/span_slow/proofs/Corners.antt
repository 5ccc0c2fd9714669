-- How a corner lies to a face and to a side, by differences of corners.
use Rattle.std.proofs.Common.{◌≡◌, ◌<◌, ◌^◌, [], ◌∷◌, refl, sym, ap, ◌∙◌, to_z, of_z}
use Rattle.std.specs.Prelude.{ℤ, pos, ◌-ℤ◌, ◌*ℤ◌, ◌<ℤ◌, unsigned_abs}
use Rattle.std.specs.Int.{w128}
use Rattle.integers.proofs.Comparisons.{positive_of_negated}
use Rattle.integers.proofs.Ring.{var, con, ◌⊖◌, ring}
use Rattle.integers.proofs.Worth.{below, pass, below_of}
use Rattle.lattice.specs.declared.points.Corner.{Corner}
use Rattle.lattice.specs.Triple.{Triple, dot}
use Rattle.lattice.specs.Points.{point_of, difference}
use Rattle.lattice.proofs.Vectors.{Letters, letters, dots}
use Rattle.hiding_laws.specs.Values.{past_of, short_of, behind_of}
use Rattle.hiding_laws.proofs.Values.{offset-corner}

-- the way from p to q is the way back, times -1
abbrev onward : Letters
onward = record { x = var 3 ⊖ var 6; y = var 4 ⊖ var 7; z = var 5 ⊖ var 8 }

abbrev backward : Letters
backward = record { x = var 6 ⊖ var 3; y = var 7 ⊖ var 4; z = var 8 ⊖ var 5 }

returned : (t : Triple) (p q : Corner) → dot t (difference q p) ≡ pos 0 -ℤ dot t (difference p q)
returned t p q = ring (t.x ∷ t.y ∷ t.z ∷ p.x ∷ p.y ∷ p.z ∷ q.x ∷ q.y ∷ q.z ∷ []) (dots (letters 0) onward) (con (pos 0) ⊖ dots (letters 0) backward) refl

-- what goes back one way goes forward the other
pub forward_turned : (t : Triple) (p q : Corner) → dot t (difference p q) <ℤ pos 0 → pos 0 <ℤ dot t (difference q p)
forward_turned t p q h = positive_of_negated (dot t (difference p q)) (dot t (difference q p)) (returned t p q) h

-- a product with the way from one corner to another, as the machine's number gives it
pub product_along : (axis way : Triple) (k p : Corner) (r : ℤ) → unsigned_abs r < 2 ^ 30 → r ≡ dot axis way → way ≡ difference k p → to_z w128 (of_z w128 r) ≡ dot axis (difference k p)
product_along axis way k p r small is between = (pass w128 (below r (2 ^ 30) small) tt).is ∙ is ∙ ap (λ (t : Triple). dot axis t) between

pub small_product : (r : ℤ) → unsigned_abs r < 2 ^ 30 → unsigned_abs (to_z w128 (of_z w128 r)) < 2 ^ 68
small_product r small = below_of (2 ^ 68) (pass w128 (below r (2 ^ 30) small) tt) tt

pub past_at : (axis : Triple) (k p : Corner) → dot axis (difference k p) ≡ past_of axis k (point_of p)
past_at axis k p = ap (λ (t : Triple). dot axis t) (sym (offset-corner k p))

pub short_at : (axis : Triple) (l p : Corner) → dot axis (difference p l) ≡ short_of axis l (point_of p)
short_at axis l p = returned axis l p ∙ ap (λ (t : Triple). pos 0 -ℤ dot axis t) (sym (offset-corner l p))

pub behind_at : (d axis : Triple) (k l p : Corner) → (dot d (difference k l) *ℤ dot axis (difference k p)) -ℤ (dot axis (difference k l) *ℤ dot d (difference k p)) ≡ behind_of d axis k l (point_of p)
behind_at d axis k l p = ap (λ (t : Triple). (dot d (difference k l) *ℤ dot axis t) -ℤ (dot axis (difference k l) *ℤ dot d t)) (sym (offset-corner k p))
