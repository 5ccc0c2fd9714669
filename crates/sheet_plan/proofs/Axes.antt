-- The axes of a view have a length.
use Rattle.std.proofs.Common.{◌≡◌, [], ◌∷◌, refl, ◌<◌, ◌+◌, unsigned_abs, sym, subst}
use Rattle.std.specs.Prelude.{ℤ, pos, ◌-ℤ◌, ◌*ℤ◌, ◌<ℤ◌}
use Rattle.integers.proofs.Ring.{con, ◌⊖◌, ◌⊗◌, ring, by_one}
use Rattle.integers.proofs.Signs.{mul_pos}
use Rattle.lattice.specs.Triple.{Triple, dot, cross, right_axis, up_axis}
use Rattle.lattice.proofs.Vectors.{Letters, letters, dots, crosses, dot_itself}
use Rattle.lattice.proofs.SightLines.{right_axis-is}

abbrev D : Letters
D = letters 0

abbrev R : Letters
R = letters 3

-- Lagrange's identity, for two vectors that are square to each other
square_of_cross : (d r : Triple) → dot r d ≡ pos 0 → dot (cross d r) (cross d r) ≡ dot d d *ℤ dot r r
square_of_cross d r level = by_one (dot (cross d r) (cross d r)) (dot d d *ℤ dot r r) (dot r d) (pos 0) (pos 0 -ℤ dot r d)
    (ring (d.x ∷ d.y ∷ d.z ∷ r.x ∷ r.y ∷ r.z ∷ []) (dots (crosses D R) (crosses D R) ⊖ (dots D D ⊗ dots R R)) ((dots R D ⊖ con (pos 0)) ⊗ (con (pos 0) ⊖ dots R D)) refl) level

pub right_axis-square : (d : Triple) → pos 0 <ℤ dot (right_axis d) (right_axis d)
right_axis-square d = (right_axis-is d).square

pub up_axis-square : (d : Triple) → 0 < unsigned_abs d.x + unsigned_abs d.y + unsigned_abs d.z → pos 0 <ℤ dot (up_axis d) (up_axis d)
up_axis-square d somewhere =
    let r = right_axis-is d in
    let P : ℤ → Type 0 = λ z. pos 0 <ℤ z in
    subst P (sym (square_of_cross d (right_axis d) r.level)) (mul_pos (dot d d) (dot (right_axis d) (right_axis d)) (dot_itself d somewhere) r.square)
