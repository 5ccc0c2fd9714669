-- What a face and its sides hide in a cut view, and what is linear along an edge there.
use Rattle.std.specs.Prelude.{ℤ, pos, ◌+ℤ◌, ◌-ℤ◌, ◌*ℤ◌, ◌<ℤ◌, ◌≤ℤ◌}
use Rattle.lattice.specs.declared.points.Corner.{Corner}
use Rattle.lattice.specs.Triple.{Triple}
use Rattle.lattice.specs.Points.{Point, point_of, height_of, OnOneSight, IsNearer}
use Rattle.lattice.specs.Cuts.{Plane, toward_of, plane_height, IsBeyond}
use Rattle.geometry.specs.Faces.{facing_of, IsPointOfFace, IsPointOfEdge}
use Rattle.hiding_laws.specs.Values.{depth_of, past_of, short_of}

-- twice how far the point is below the plane, times w: positive beyond it
abbrev pub below_of : Plane → Point → ℤ
below_of c p = (plane_height c *ℤ p.w) -ℤ (pos 2 *ℤ height_of (toward_of c) p)

-- ---- faces
-- some point of the triangle of i, j and k beyond the plane is on the line of sight of p and strictly nearer
pub record HidesInCut (c : Plane) (i j k : Corner) (p : Point) : Type 0 where
  pub point : Point
  pub on_face : IsPointOfFace i j k point
  pub beyond : IsBeyond c point
  pub same_sight : OnOneSight (toward_of c) point p
  pub nearer : IsNearer (toward_of c) point p

-- how far the point of a face on the line of sight of p is below the plane, times the normal's product with the direction
abbrev pub under_of : Plane → Corner → Corner → Corner → Point → ℤ
under_of c i j k p = (facing_of (toward_of c) i j k *ℤ below_of c p) -ℤ (pos 2 *ℤ depth_of i j k p)

-- ---- sides
-- some point of the side beyond the plane is on the line of sight of p
pub record SideReaches (c : Plane) (k l : Corner) (p : Point) : Type 0 where
  pub point : Point
  pub on_side : IsPointOfEdge k l point
  pub beyond : IsBeyond c point
  pub same_sight : OnOneSight (toward_of c) point p

-- a side that is not seen end-on, and has such a point
abbrev pub WideSideReaches : Plane → Corner → Corner → Point → Type 0
WideSideReaches c k l p = (¬ OnOneSight (toward_of c) (point_of k) (point_of l)) × SideReaches c k l p

-- how far the point of a side on the line of sight of p is below the plane, times the side's length along the axis
abbrev pub reach_of : Plane → Triple → Corner → Corner → Point → ℤ
reach_of c axis k l p = (short_of axis l p *ℤ below_of c (point_of k)) +ℤ (past_of axis k p *ℤ below_of c (point_of l))

-- between k and l along the axis, where the side is beyond the plane
pub record IsOverReach (c : Plane) (axis : Triple) (k l : Corner) (p : Point) : Type 0 where
  pub past : pos 0 ≤ℤ past_of axis k p
  pub short : pos 0 ≤ℤ short_of axis l p
  pub reach : pos 0 <ℤ reach_of c axis k l p
