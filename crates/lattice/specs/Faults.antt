-- When three numbers are no direction.
use Rattle.std.specs.Prelude.{ℤ, unsigned_abs, ◌<◌, ◌≤◌}
use Rattle.lattice.specs.declared.points.Axis.{Axis}
use Rattle.lattice.specs.declared.points.Axis.TheVariants.{X, Y, Z}

-- a component that no direction has
abbrev pub IsOutside : ℤ → Type 0
IsOutside n = 9 < unsigned_abs n

-- the axis is the first with such a component
abbrev pub IsFirstOutside : Axis → ℤ → ℤ → ℤ → Type 0
IsFirstOutside X x y z = IsOutside x
IsFirstOutside Y x y z = (unsigned_abs x ≤ 9) × IsOutside y
IsFirstOutside Z x y z = (unsigned_abs x ≤ 9) × (unsigned_abs y ≤ 9) × IsOutside z
