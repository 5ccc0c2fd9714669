-- From where to where a part reaches along an axis.
use Rattle.std.specs.Prelude.{ℤ, pos, List, [], ◌∷◌, map, fold}
use Rattle.std.specs.Int.{int_min, int_max}
use Rattle.lattice.specs.declared.points.Axis.{Axis}
use Rattle.lattice.specs.declared.points.Axis.TheVariants.{X, Y, Z}
use Rattle.lattice.specs.declared.points.Corner.{Corner}

-- the least and the greatest of some numbers; of none 0
abbrev pub least_of : List ℤ → ℤ
least_of [] = pos 0
least_of (z ∷ zs) = fold int_min z zs

abbrev pub greatest_of : List ℤ → ℤ
greatest_of [] = pos 0
greatest_of (z ∷ zs) = fold int_max z zs

-- a corner's place on an axis
abbrev pub coordinate : Axis → Corner → ℤ
coordinate X c = c.x
coordinate Y c = c.y
coordinate Z c = c.z

-- the part's ends on an axis, by its corners
abbrev pub least_along : Axis → List Corner → ℤ
least_along axis corners = least_of (map (coordinate axis) corners)

abbrev pub greatest_along : Axis → List Corner → ℤ
greatest_along axis corners = greatest_of (map (coordinate axis) corners)
