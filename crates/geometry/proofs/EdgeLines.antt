-- Edges and the lines of a view: the points of an edge are on its line.
use Rattle.std.proofs.Common.{◌≡◌, [], ◌∷◌, refl, subst}
use Rattle.std.specs.Prelude.{ℤ, pos, ◌+ℤ◌, ◌-ℤ◌, ◌*ℤ◌}
use Rattle.integers.proofs.Ring.{var, con, ◌⊕◌, ◌⊖◌, ◌⊗◌, ring}
use Rattle.lattice.specs.declared.lines.Line.{Line}
use Rattle.lattice.specs.declared.points.Corner.{Corner}
use Rattle.lattice.specs.Lines.{IsOnLine}
use Rattle.lattice.specs.Triple.{Triple}
use Rattle.lattice.specs.Points.{point_of}
use Rattle.lattice.proofs.OnLines.{weighted_sum, on_line_of_sum}
use Rattle.geometry.specs.Faces.{share_point}

-- the point at a share is a sum of the two corners
share_is : (a b : Corner) (n m : ℤ) → weighted_sum (m -ℤ n) (point_of a) n (point_of b) ≡ share_point a b n m
share_is a b n m i = record {
  x = ((m -ℤ n) *ℤ a.x) +ℤ (n *ℤ b.x);
  y = ((m -ℤ n) *ℤ a.y) +ℤ (n *ℤ b.y);
  z = ((m -ℤ n) *ℤ a.z) +ℤ (n *ℤ b.z);
  w = whole n m i;
}
  where
    whole : (n m : ℤ) → ((m -ℤ n) *ℤ pos 1) +ℤ (n *ℤ pos 1) ≡ m
    whole n m = ring (n ∷ m ∷ []) (((var 1 ⊖ var 0) ⊗ con (pos 1)) ⊕ (var 0 ⊗ con (pos 1))) (var 1) refl

pub share_on_line : (d : Triple) (l : Line) (a b : Corner) (n m : ℤ) → IsOnLine d l (point_of a) → IsOnLine d l (point_of b) → IsOnLine d l (share_point a b n m)
share_on_line d l a b n m first second =
    subst (IsOnLine d l) (share_is a b n m) (on_line_of_sum d l (m -ℤ n) n (point_of a) (point_of b) first second)
