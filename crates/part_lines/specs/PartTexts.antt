-- What a line says of a part that is refused.
use Rattle.std.specs.Prelude.{ℕ, Bool, true, false, nat_eq, if◌then◌else◌, List, Option, Some, None, codes}
use Rattle.std.specs.Fmt.{decimal}
use Rattle.fault_lines.specs.Lines.{kind_text}
use Rattle.part_lines.specs.declared.hint.PartHint.{PartHint}
use Rattle.part_lines.specs.declared.hint.PartHint.TheVariants as hint
use Rattle.solid_mesh.specs.declared.faults.MeshFault.{MeshFault}
use Rattle.solid_mesh.specs.declared.faults.MeshFault.TheVariants.{Flat, SameWay, Unpaired, Double, Meet}
use Rattle.svg_page.specs.Texts.{◌⊕◌}
use Rattle.weld.specs.declared.fault.PartFault.{PartFault}
use Rattle.weld.specs.declared.fault.PartKind.{PartKind}
use Rattle.weld.specs.declared.fault.PartKind.TheVariants.{Prefixed, TooMany}

-- ---- a text
-- the largest size of a coordinate in mm: 1,048,576 units
abbrev pub most_text : ℕ → List ℕ
most_text decimals =
    if nat_eq decimals 0 then codes "1048576" else (
    if nat_eq decimals 1 then codes "104857.6" else (
    if nat_eq decimals 2 then codes "10485.76" else (
    if nat_eq decimals 3 then codes "1048.576" else (
    if nat_eq decimals 4 then codes "104.8576" else (
    if nat_eq decimals 5 then codes "10.48576" else (codes "1.048576"))))))

abbrev pub decimals_text : ℕ → List ℕ
decimals_text decimals = decimal decimals ⊕ (if nat_eq decimals 1 then codes " decimal" else codes " decimals")

-- with how many decimals the coordinate is in range
abbrev pub room_text : Option ℕ → List ℕ
room_text (Some decimals) = decimals_text decimals ⊕ codes " would do"
room_text None = codes "no number of decimals would do: move the part to the origin"

abbrev pub coordinate_text : List ℕ → ℕ → Option ℕ → List ℕ
coordinate_text word decimals room = word ⊕ codes " is too large: at most " ⊕ most_text decimals ⊕ codes " mm with " ⊕ decimals_text decimals ⊕ codes "; " ⊕ room_text room

-- what is wrong, if no hint is given
abbrev pub plain_text : PartKind → List ℕ
plain_text Prefixed = codes "prefixed OFF: examples/scripts/part.py writes it as plain OFF"
plain_text TooMany = codes "more than 20000 triangles; export a coarser mesh"
plain_text kind = kind_text kind

-- what is wrong, and what helps
abbrev pub hint_text : PartKind → PartHint → List ℕ
hint_text kind hint.Nothing = plain_text kind
hint_text kind hint.Neither = codes "neither OFF nor ASCII STL: examples/scripts/part.py makes a part of STEP, IGES and 3MF"
hint_text kind hint.BinaryStl = codes "binary: admesh -a part-ascii.stl part.stl writes a binary STL as text"
hint_text kind (hint.Vertices n) = codes "more than 60000 vertices: its head says " ⊕ decimal n ⊕ codes "; export a coarser mesh"
hint_text kind (hint.Faces n) = codes "more than 20000 triangles: its head says " ⊕ decimal n ⊕ codes " faces; export a coarser mesh"
hint_text kind (hint.Facets n) = codes "more than 20000 triangles: it has " ⊕ decimal n ⊕ codes "; export a coarser mesh"
hint_text kind (hint.Coordinate word decimals room) = coordinate_text word decimals room

-- the place in the text too
abbrev pub part_text : PartFault → PartHint → List ℕ
part_text fault hint = codes "line " ⊕ decimal fault.line ⊕ codes ": " ⊕ hint_text fault.kind hint

-- ---- a surface
abbrev pub mesh_text : MeshFault → List ℕ
mesh_text (Flat t) = codes "triangle " ⊕ decimal t ⊕ codes " is flat"
mesh_text (SameWay a b) = codes "triangles " ⊕ decimal a ⊕ codes " and " ⊕ decimal b ⊕ codes " use a side the same way"
mesh_text (Unpaired t side) = codes "side " ⊕ decimal side ⊕ codes " of triangle " ⊕ decimal t ⊕ codes " has no partner"
mesh_text (Double a b) = codes "triangles " ⊕ decimal a ⊕ codes " and " ⊕ decimal b ⊕ codes " have the same corners"
mesh_text (Meet e t) = codes "edge " ⊕ decimal e ⊕ codes " meets triangle " ⊕ decimal t

-- the faults that rounding makes: more decimals help, if there may be more, or `mend`
abbrev pub rounding_text : Bool → List ℕ
rounding_text true = codes ": try more decimals, then mend (docs/from-cad.md)"
rounding_text false = codes ": try mend (docs/from-cad.md)"

-- what helps with a surface; with `more` more decimals may be tried
abbrev pub advice_text : MeshFault → Bool → List ℕ
advice_text (Flat t) more = rounding_text more
advice_text (Meet e t) more = rounding_text more
advice_text fault more = codes ": docs/from-cad.md says how it is mended"
