-- How far two faces turn at a crease.
use Rattle.std.specs.Prelude.{ℕ}
use Rattle.lattice.specs.declared.pieces.Crease.{Crease}
use Rattle.lattice.specs.declared.pieces.Crease.TheVariants.{Fine, Normal, Coarse}

-- the square of the cosine of the turn beyond which an edge is a crease, over a million
abbrev pub fraction_of : Crease → ℕ
fraction_of Fine = 992404
fraction_of Normal = 933013
fraction_of Coarse = 750000
