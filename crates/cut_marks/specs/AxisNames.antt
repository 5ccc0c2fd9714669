-- The names of axes.
use Rattle.std.specs.Prelude.{ℕ, List, codes}
use Rattle.lattice.specs.declared.points.Axis.{Axis}
use Rattle.lattice.specs.declared.points.Axis.TheVariants.{X, Y, Z}

-- axes have the names that a job calls them by
abbrev pub axis_name : Axis → List ℕ
axis_name X = codes "x"
axis_name Y = codes "y"
axis_name Z = codes "z"
