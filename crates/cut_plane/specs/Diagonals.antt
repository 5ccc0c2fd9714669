-- The lines of a view along which U - V stays the same, and borders under a point.
use Rattle.std.specs.Prelude.{ℤ, ◌-ℤ◌}
use Rattle.lattice.specs.Triple.{Triple}
use Rattle.lattice.specs.Points.{Point, across_of, upward_of}
use Rattle.lattice.specs.Cuts.{Plane}
use Rattle.geometry.specs.Parts.{Part, Face}
use Rattle.geometry.specs.Cuts.{border, IsSeenOverInCut}

-- U - V, times w
abbrev pub diagonal_of : Triple → Point → ℤ
diagonal_of d p = across_of d p -ℤ upward_of d p

-- a border has a point on the line of sight
abbrev pub IsUnderBorder : Plane → Part → Point → Type 0
IsUnderBorder c s p = (f : Face s) × IsSeenOverInCut c (border f) p
