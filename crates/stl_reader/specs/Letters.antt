-- The keywords of ASCII STL.
use Rattle.std.specs.Prelude.{ℕ, List, codes}
use Rattle.weld.specs.declared.fault.Word.{Word}
use Rattle.weld.specs.declared.fault.Word.TheVariants.{Solid, Facet, Normal, Outer, Loop, Vertex, Endloop, Endfacet}

abbrev pub letters_of : Word → List ℕ
letters_of Solid = codes "solid"
letters_of Facet = codes "facet"
letters_of Normal = codes "normal"
letters_of Outer = codes "outer"
letters_of Loop = codes "loop"
letters_of Vertex = codes "vertex"
letters_of Endloop = codes "endloop"
letters_of Endfacet = codes "endfacet"
