-- The common points of two edges, and how two edges lie.
use Rattle.std.specs.Prelude.{◌≡◌, ℤ, pos, ◌≤ℤ◌, ◌<ℤ◌}
use Rattle.lattice.specs.declared.points.Corner.{Corner}
use Rattle.lattice.specs.Triple.{Triple, dot, cross, det}
use Rattle.lattice.specs.Points.{Point, difference}
use Rattle.geometry.specs.Faces.{IsFlat, IsPointOfEdge}

-- the edge from a to b and that from p to q have a common point
pub record EdgesTouch (a b p q : Corner) : Type 0 where
  pub point : Point
  pub on_first : IsPointOfEdge a b point
  pub on_second : IsPointOfEdge p q point

-- the corner m is on the edge from p to q: the three are in one line, and from m the ends aren't in one direction
pub record IsBetween (m p q : Corner) : Type 0 where
  pub in_line : IsFlat m p q
  pub opposed : dot (difference m p) (difference m q) ≤ℤ pos 0

-- from a the corners b and q are in one direction
pub record IsOneWay (a b q : Corner) : Type 0 where
  pub in_line : IsFlat a b q
  pub ahead : pos 0 <ℤ dot (difference a b) (difference a q)

-- n / m is from 0 to 1
pub record IsShare (n m : ℤ) : Type 0 where
  pub least : pos 0 ≤ℤ n
  pub most : n ≤ℤ m

-- the lines of two edges have a common point, at a share of the way along each: e and g are the edges, and w goes from the first
-- one's start to the second one's
pub record IsCrossing (e g w : Triple) : Type 0 where
  pub level : det w e g ≡ pos 0
  pub first : IsShare (dot (cross e g) (cross w g)) (dot (cross e g) (cross e g))
  pub second : IsShare (dot (cross e g) (cross w e)) (dot (cross e g) (cross e g))
