-- Which cuts a view shows.
use Rattle.std.specs.Prelude.{List, [], ◌∷◌}
use Rattle.lattice.specs.declared.cuts.Cut.{Cut}
use Rattle.lattice.specs.declared.pieces.ViewSpec.{ViewSpec}
use Rattle.lattice.specs.declared.pieces.ViewSpec.TheVariants.{Plain, Section}

-- one or none
abbrev pub cuts_of : ViewSpec → List Cut
cuts_of (Plain d) = []
cuts_of (Section c) = c ∷ []
