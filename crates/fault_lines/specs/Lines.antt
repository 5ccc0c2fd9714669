-- The line that a fault is told by, in a program with a name and the usage that it tells.
use Rattle.std.specs.Prelude.{ℕ, ℤ, List, map, if◌then◌else◌, ◌&&◌, nat_le, codes}
use Rattle.std.specs.Fmt.{decimal, signed_decimal}
use Rattle.job_file.specs.declared.fault.JobFault.{JobFault}
use Rattle.job_file.specs.declared.fault.JobFault.TheVariants.{NotToml, Version, UnknownKey, Wrong, TooManyViews, ZeroDirection, DirectionRange, CutRange}
use Rattle.job_file.specs.declared.fault.Key.{Key}
use Rattle.job_file.specs.declared.fault.Key.TheVariants as key
use Rattle.lattice.specs.declared.points.Axis.{Axis}
use Rattle.lattice.specs.declared.points.Axis.TheVariants.{X, Y, Z}
use Rattle.solid_mesh.specs.declared.faults.MeshFault.{MeshFault}
use Rattle.solid_mesh.specs.declared.faults.MeshFault.TheVariants.{Flat, SameWay, Unpaired, Double, Meet}
use Rattle.svg_page.specs.Texts.{◌⊕◌}
use Rattle.weld.specs.declared.fault.PartFault.{PartFault}
use Rattle.weld.specs.declared.fault.PartKind.{PartKind}
use Rattle.weld.specs.declared.fault.PartKind.TheVariants.{Binary, Prefixed, Missing, BadNumber, TooLarge, BadIndex, FaceSize, TooMany, Trailing, FaceUnseen, Expected}
use Rattle.weld.specs.declared.fault.Want.{Want}
use Rattle.weld.specs.declared.fault.Want.TheVariants as want
use Rattle.weld.specs.declared.fault.Word.{Word}
use Rattle.weld.specs.declared.fault.Word.TheVariants as word
use Rattle.part_input.specs.declared.fault.Input.{Input}
use Rattle.part_input.specs.declared.fault.Input.TheVariants as input
use Rattle.part_input.specs.declared.fault.Target.{Target}
use Rattle.part_input.specs.declared.fault.Target.TheVariants.{Out, Plot, Summary}
use Rattle.part_input.specs.declared.fault.Fault.{Fault}
use Rattle.part_input.specs.declared.fault.Fault.TheVariants.{Usage, ReadFault, JobTooLong, Job, NoPlotter, SampleRange, PartTooLong, Part, Nothing, Mesh, DoesNotFit, WriteFault, Memory}

-- a byte of a name that is told: a question mark stands for what isn't printable ASCII
abbrev pub shown_byte : ℕ → ℕ
shown_byte byte = if nat_le 32 byte && nat_le byte 126 then byte else 63

abbrev pub shown : List ℕ → List ℕ
shown name = map shown_byte name

abbrev pub key_text : Key → List ℕ
key_text key.Version = codes "version"
key_text key.Decimals = codes "decimals"
key_text key.Angle = codes "angle"
key_text key.Sheet = codes "sheet"
key_text key.Scale = codes "scale"
key_text key.Crease = codes "crease"
key_text key.Title = codes "title"
key_text key.Outputs = codes "outputs"
key_text key.Unit = codes "unit"
key_text key.Layout = codes "layout"
key_text key.View = codes "view"
key_text key.Name = codes "name"
key_text key.Toward = codes "toward"
key_text key.Cut = codes "cut"
key_text key.At = codes "at"
key_text key.From = codes "from"

abbrev pub axis_text : Axis → List ℕ
axis_text X = codes "x"
axis_text Y = codes "y"
axis_text Z = codes "z"

abbrev pub job_line : List ℕ → JobFault → List ℕ
job_line program NotToml = program ⊕ codes ": job: not TOML\n"
job_line program (Version n) = program ⊕ codes ": job: version " ⊕ signed_decimal n ⊕ codes "\n"
job_line program (UnknownKey name) = program ⊕ codes ": job: unknown key " ⊕ shown name ⊕ codes "\n"
job_line program (Wrong key) = program ⊕ codes ": job: wrong " ⊕ key_text key ⊕ codes "\n"
job_line program TooManyViews = program ⊕ codes ": job: more than 12 views\n"
job_line program (ZeroDirection v) = program ⊕ codes ": job: view " ⊕ decimal v ⊕ codes ": zero direction\n"
job_line program (DirectionRange v axis) = program ⊕ codes ": job: view " ⊕ decimal v ⊕ codes ": direction " ⊕ axis_text axis ⊕ codes " outside -9 to 9\n"
job_line program (CutRange v) = program ⊕ codes ": job: view " ⊕ decimal v ⊕ codes ": cut outside -1048576 to 1048576\n"

abbrev pub read_line : List ℕ → Input → List ℕ
read_line program input.Job = program ⊕ codes ": cannot read the job\n"
read_line program input.Part = program ⊕ codes ": cannot read the part\n"

abbrev pub word_text : Word → List ℕ
word_text word.Solid = codes "solid"
word_text word.Facet = codes "facet or endsolid"
word_text word.Normal = codes "normal"
word_text word.Outer = codes "outer"
word_text word.Loop = codes "loop"
word_text word.Vertex = codes "vertex"
word_text word.Endloop = codes "endloop"
word_text word.Endfacet = codes "endfacet"

abbrev pub want_text : Want → List ℕ
want_text want.Count = codes "count"
want_text want.Coordinate = codes "coordinate"
want_text want.FaceSize = codes "face size"
want_text want.Index = codes "index"
want_text want.Normal = codes "normal"
want_text (want.Keyword word) = word_text word

abbrev pub kind_text : PartKind → List ℕ
kind_text Binary = codes "binary"
kind_text Prefixed = codes "prefixed OFF"
kind_text (Missing want) = codes "missing " ⊕ want_text want
kind_text BadNumber = codes "bad number"
kind_text TooLarge = codes "number too large"
kind_text (BadIndex n) = codes "no vertex " ⊕ decimal n
kind_text (FaceSize n) = codes "face of " ⊕ decimal n ⊕ codes " corners"
kind_text TooMany = codes "too many vertices or triangles"
kind_text Trailing = codes "text after the last face"
kind_text (FaceUnseen n) = codes "face " ⊕ decimal n ⊕ codes " is not seen whole from a corner"
kind_text (Expected word) = codes "expected " ⊕ word_text word

abbrev pub part_line : List ℕ → PartFault → List ℕ
part_line program fault = program ⊕ codes ": part: line " ⊕ decimal fault.line ⊕ codes ": " ⊕ kind_text fault.kind ⊕ codes "\n"

abbrev pub mesh_line : List ℕ → MeshFault → List ℕ
mesh_line program (Flat t) = program ⊕ codes ": solid: triangle " ⊕ decimal t ⊕ codes " is flat\n"
mesh_line program (SameWay a b) = program ⊕ codes ": solid: triangles " ⊕ decimal a ⊕ codes " and " ⊕ decimal b ⊕ codes " use a side the same way\n"
mesh_line program (Unpaired t side) = program ⊕ codes ": solid: side " ⊕ decimal side ⊕ codes " of triangle " ⊕ decimal t ⊕ codes " has no partner\n"
mesh_line program (Double a b) = program ⊕ codes ": solid: triangles " ⊕ decimal a ⊕ codes " and " ⊕ decimal b ⊕ codes " have the same corners\n"
mesh_line program (Meet e t) = program ⊕ codes ": solid: edge " ⊕ decimal e ⊕ codes " meets triangle " ⊕ decimal t ⊕ codes "\n"

abbrev pub sheet_line : List ℕ → ℤ → ℤ → ℤ → ℤ → List ℕ
sheet_line program need_w need_h have_w have_h =
    program ⊕ codes ": sheet: needs " ⊕ signed_decimal need_w ⊕ codes " by " ⊕ signed_decimal need_h
    ⊕ codes ", has " ⊕ signed_decimal have_w ⊕ codes " by " ⊕ signed_decimal have_h ⊕ codes "\n"

abbrev pub write_line : List ℕ → Target → List ℕ
write_line program Out = program ⊕ codes ": cannot write the drawing\n"
write_line program (Plot number) = program ⊕ codes ": cannot write plot " ⊕ decimal number ⊕ codes "\n"
write_line program Summary = program ⊕ codes ": cannot write the summary\n"

abbrev pub fault_line : List ℕ → List ℕ → Fault → List ℕ
fault_line program usage Usage = program ⊕ codes ": usage: " ⊕ usage ⊕ codes "\n"
fault_line program usage (ReadFault input) = read_line program input
fault_line program usage JobTooLong = program ⊕ codes ": job: more than 65536 bytes\n"
fault_line program usage (Job fault) = job_line program fault
fault_line program usage (NoPlotter name) = program ⊕ codes ": no plotter " ⊕ shown name ⊕ codes "\n"
fault_line program usage SampleRange = program ⊕ codes ": sample: outside 1 to 8\n"
fault_line program usage PartTooLong = program ⊕ codes ": part: more than 16777216 bytes\n"
fault_line program usage (Part fault) = part_line program fault
fault_line program usage Nothing = program ⊕ codes ": part: no triangle\n"
fault_line program usage (Mesh fault) = mesh_line program fault
fault_line program usage (DoesNotFit need_w need_h have_w have_h) = sheet_line program need_w need_h have_w have_h
fault_line program usage (WriteFault target) = write_line program target
fault_line program usage Memory = program ⊕ codes ": out of memory\n"

-- a fault of a job with neither a number nor a name
abbrev pub HasNoNumberOrName : JobFault → Type 0
HasNoNumberOrName NotToml = Unit {0}
HasNoNumberOrName (Wrong key) = Unit {0}
HasNoNumberOrName TooManyViews = Unit {0}
HasNoNumberOrName fault = ⊥

-- a fault with neither a number nor a name, whose line takes no memory
abbrev pub NamesNothing : Fault → Type 0
NamesNothing (Job fault) = HasNoNumberOrName fault
NamesNothing (NoPlotter name) = ⊥
NamesNothing (Part fault) = ⊥
NamesNothing (Mesh fault) = ⊥
NamesNothing (DoesNotFit need_w need_h have_w have_h) = ⊥
NamesNothing (WriteFault (Plot number)) = ⊥
NamesNothing fault = Unit {0}
