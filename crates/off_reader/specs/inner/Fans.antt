-- What the search for a fan keeps: the corners twice over, and an area.
use Rattle.std.specs.Prelude.{List, ◌++◌}
use Rattle.lattice.specs.Triple.{Triple}
use Rattle.off_reader.specs.declared.fan.Area.{Area}

-- the list, and then the list again
abbrev pub twice : {X : Type 0} → List X → List X
twice xs = xs ++ xs

abbrev pub of_area : Area → Triple
of_area area = record { x = area.x; y = area.y; z = area.z }
