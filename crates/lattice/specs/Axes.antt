-- Axes: what directions and points have on each, the axis beside two, and when a direction is along one.
use Rattle.std.specs.Prelude.{◌≡◌, ◌≢◌, ℤ, pos}
use Rattle.lattice.specs.declared.points.Axis.{Axis}
use Rattle.lattice.specs.declared.points.Axis.TheVariants.{X, Y, Z}
use Rattle.lattice.specs.Points.{Point}
use Rattle.lattice.specs.Triple.{Triple}

-- the number of a direction along an axis
abbrev pub component_of : Axis → Triple → ℤ
component_of X d = d.x
component_of Y d = d.y
component_of Z d = d.z

-- the coordinate of a point on an axis, times its w
abbrev pub coordinate_of : Axis → Point → ℤ
coordinate_of X p = p.x
coordinate_of Y p = p.y
coordinate_of Z p = p.z

-- the axis beside two different ones
abbrev pub third_of : Axis → Axis → Axis
third_of X X = X
third_of X Y = Z
third_of X Z = Y
third_of Y X = Z
third_of Y Y = Y
third_of Y Z = X
third_of Z X = Y
third_of Z Y = X
third_of Z Z = Z

-- the direction is along the axis: on no other has it a number that isn't 0
pub record IsAlong (axis : Axis) (d : Triple) : Type 0 where
  pub there : component_of axis d ≢ pos 0
  pub alone : (other : Axis) → other ≢ axis → component_of other d ≡ pos 0
