-- Where the boxes of an edge and of a triangle meet.
use Rattle.std.specs.Prelude.{◌⊎◌, ℤ, ◌≤ℤ◌}
use Rattle.lattice.specs.declared.points.Corner.{Corner}

-- some number is between p and q, and between the least and the greatest of a, b and c
pub record CoordinatesMeet (a b c p q : ℤ) : Type 0 where
  pub number : ℤ
  pub face_from : (a ≤ℤ number) ⊎ (b ≤ℤ number) ⊎ (c ≤ℤ number)
  pub face_to : (number ≤ℤ a) ⊎ (number ≤ℤ b) ⊎ (number ≤ℤ c)
  pub edge_from : (p ≤ℤ number) ⊎ (q ≤ℤ number)
  pub edge_to : (number ≤ℤ p) ⊎ (number ≤ℤ q)

-- the same of all three coordinates: the box of the edge from p to q and that of the triangle have a common point
pub record BoxesMeet (a b c p q : Corner) : Type 0 where
  pub x : CoordinatesMeet a.x b.x c.x p.x q.x
  pub y : CoordinatesMeet a.y b.y c.y p.y q.y
  pub z : CoordinatesMeet a.z b.z c.z p.z q.z
