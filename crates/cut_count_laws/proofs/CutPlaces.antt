-- What an edge is beyond the plane at two places, it is at each place between them.
use Rattle.std.proofs.Common.{[], ◌∷◌, refl, sym}
use Rattle.std.specs.Prelude.{ℤ, pos, ◌*ℤ◌, ◌<ℤ◌}
use Rattle.integers.proofs.Comparisons.{positive_at}
use Rattle.integers.proofs.Ring.{var, ◌⊕◌, ◌⊖◌, ◌⊗◌, ring, gap_of_less}
use Rattle.integers.proofs.Signs.{mul_pos, pos_of_mul}
use Rattle.lattice.specs.declared.points.Corner.{Corner}
use Rattle.lattice.specs.Points.{point_of}
use Rattle.lattice.specs.Cuts.{Plane, IsBeyond}
use Rattle.geometry.specs.Faces.{share_point}
use Rattle.hiding_laws.specs.Values.{value_at}
use Rattle.hiding_laws.specs.CutValues.{below_of}
use Rattle.hiding_laws.proofs.CutPlanes.{below-beyond, below-share}
use Rattle.hiding_laws.proofs.Signs.{sum_pos_left, weak}

-- what is linear and above 0 at the first end and at the place n / m is so at the place x / y between them
pub between_up : (f g n m x y : ℤ) → pos 0 <ℤ n → pos 0 <ℤ f → pos 0 <ℤ value_at f g n m → pos 0 <ℤ x → (x *ℤ m) <ℤ (n *ℤ y) → pos 0 <ℤ value_at f g x y
between_up f g n m x y after up up' x_pos earlier =
    pos_of_mul n _ after (positive_at _ _
    (ring (f ∷ g ∷ n ∷ m ∷ x ∷ y ∷ [])
    (var 2 ⊗ (((var 5 ⊖ var 4) ⊗ var 0) ⊕ (var 4 ⊗ var 1)))
    ((((var 2 ⊗ var 5) ⊖ (var 4 ⊗ var 3)) ⊗ var 0) ⊕ (var 4 ⊗ (((var 3 ⊖ var 2) ⊗ var 0) ⊕ (var 2 ⊗ var 1)))) refl)
    (sum_pos_left _ _ (mul_pos _ _ (gap_of_less _ _ earlier) up) (weak _ (mul_pos x _ x_pos up'))))

-- a place between the first end and a place, where both are beyond the plane
pub beyond_between : (c : Plane) (p q : Corner) (n m x y : ℤ) → pos 0 <ℤ n → IsBeyond c (point_of p) → IsBeyond c (share_point p q n m) → pos 0 <ℤ x → (x *ℤ m) <ℤ (n *ℤ y)
    → IsBeyond c (share_point p q x y)
beyond_between c p q n m x y after start here x_pos earlier =
    (below-beyond c (share_point p q x y)).1 (positive_at _ _ (below-share c p q x y)
    (between_up (below_of c (point_of p)) (below_of c (point_of q)) n m x y after ((below-beyond c (point_of p)).0 start)
    (positive_at _ _ (sym (below-share c p q n m)) ((below-beyond c (share_point p q n m)).0 here)) x_pos earlier))
