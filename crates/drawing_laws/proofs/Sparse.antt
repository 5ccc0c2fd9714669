-- Lines of a view, and views in which all points are ordinary but those of a few lines.
use Rattle.std.specs.Prelude.{◌≡◌, ℤ, ◌+ℤ◌, ◌*ℤ◌, List, Contains}
use Rattle.lattice.specs.Triple.{Triple}
use Rattle.lattice.specs.Points.{Point, IsPoint, across_of, upward_of, OnOneSight}

-- x U + y V = z, with whole numbers; all three may be 0
pub record ViewLine : Type 0 where
  pub x : ℤ
  pub y : ℤ
  pub z : ℤ

abbrev pub IsOnViewLine : Triple → ViewLine → Point → Type 0
IsOnViewLine d l p = (l.x *ℤ across_of d p) +ℤ (l.y *ℤ upward_of d p) ≡ l.z *ℤ p.w

-- each of the lines that p is on holds a and b too
abbrev pub IsBeside : Triple → List ViewLine → Point → Point → Point → Type 0
IsBeside d lines a b p = (l : ViewLine) → Contains lines l → IsOnViewLine d l p → IsOnViewLine d l a × IsOnViewLine d l b

-- Whatever way one goes in the view, from a to b, each point on it is ordinary that is on no other of the lines than those that go
-- along it. So only a few points of any piece are not ordinary.
abbrev pub IsSparse : Triple → (Point → Type 0) → List ViewLine → Type 0
IsSparse d Ordinary lines = (a b p : Point) → IsPoint a → IsPoint b → IsPoint p → ¬ OnOneSight d a b → IsBeside d lines a b p → Ordinary p
