-- The lines that `sheet` tells its faults by: the file, the place there, what is wrong, and what is allowed.
use Rattle.std.specs.Prelude.{ℕ, ℤ, Bool, true, false, if◌then◌else◌, List, [], Option, Some, None, codes, unwrap_or}
use Rattle.std.specs.Fmt.{decimal, signed_decimal}
use Rattle.std.specs.Str.{bytes_eq}
use Rattle.desk_reasons.specs.ReasonTexts.{reason_text}
use Rattle.desk_reasons.specs.declared.reason.Reason.{Reason}
use Rattle.fault_lines.specs.Lines.{shown, key_text, axis_text}
use Rattle.job_file.specs.declared.fault.JobFault.{JobFault}
use Rattle.job_file.specs.declared.fault.JobFault.TheVariants.{NotToml, Version, UnknownKey, Wrong, TooManyViews, ZeroDirection, DirectionRange, CutRange}
use Rattle.job_file.specs.declared.fault.Key.{Key}
use Rattle.job_file.specs.declared.fault.Key.TheVariants as key
use Rattle.part_input.specs.declared.fault.Fault.{Fault}
use Rattle.part_input.specs.declared.fault.Fault.TheVariants.{Usage, ReadFault, JobTooLong, Job, NoPlotter, SampleRange, PartTooLong, Part, Nothing, Mesh, DoesNotFit, WriteFault, Memory}
use Rattle.part_input.specs.declared.fault.Input.TheVariants as input
use Rattle.part_input.specs.declared.fault.Target.{Target}
use Rattle.part_input.specs.declared.fault.Target.TheVariants as target
use Rattle.part_lines.specs.PartTexts.{advice_text, mesh_text, part_text}
use Rattle.part_lines.specs.declared.hint.PartHint.{PartHint}
use Rattle.part_lines.specs.declared.hint.PartHint.TheVariants as hint
use Rattle.sheet_core.specs.Places.{point_text}
use Rattle.sheet_core.specs.Rooms.{no_room_line}
use Rattle.sheet_input.specs.declared.fault.SheetFault.{SheetFault}
use Rattle.sheet_input.specs.declared.fault.SheetFault.TheVariants.{Common, OwnJob, NoRoom, WriteList, WritePlain}
use Rattle.flaw_lines.specs.FlawTexts.{flaw_text}
use Rattle.sheet_input.specs.declared.place.FaultPlace.{FaultPlace}
use Rattle.sheet_input.specs.declared.refusal.Told.{Told}
use Rattle.sheet_input.specs.declared.refusal.Told.TheVariants as told
use Rattle.sheet_job.specs.declared.flaw.PlacedFlaw.{PlacedFlaw}
use Rattle.sheet_words.specs.Names.{Goal, ListGoal, Named, said, svg_file, pdf_file, list_said, list_file}
use Rattle.length_text.specs.Lengths.{mm_text}
use Rattle.solid_mesh.specs.declared.faults.MeshFault.{MeshFault}
use Rattle.solid_mesh.specs.declared.faults.MeshFault.TheVariants.{Flat, SameWay, Unpaired, Double, Meet}
use Rattle.svg_page.specs.Texts.{◌⊕◌}

-- ---- a job
-- what is allowed for a key
abbrev pub allowed : Key → List ℕ
allowed key.Version = codes "1, 2 or 3"
allowed key.Decimals = codes "0 to 6"
allowed key.Angle = codes "\"first\" or \"third\""
allowed key.Sheet = codes "\"A0\", \"A1\", \"A2\", \"A3\" or \"A4\""
allowed key.Scale = codes "one of \"50:1\", \"20:1\", \"10:1\", \"5:1\", \"2:1\", \"1:1\", \"1:2\", \"1:5\", \"1:10\", \"1:20\", \"1:50\", \"1:100\", or \"fit\""
allowed key.Crease = codes "\"fine\", \"normal\" or \"coarse\""
allowed key.Title = codes "a text of at most 120 bytes, without bytes below 32, the byte 127, U+FFFE and U+FFFF"
allowed key.Outputs = codes "at most 8 different texts of 1 to 16 bytes from a to z and 0 to 9, none of them \"svg\""
allowed key.Unit = codes "\"mm\" or \"inch\""
allowed key.Layout = codes "\"landscape\" or \"portrait\""
allowed key.View = codes "1 to 12 tables, each with exactly one of name, toward and cut"
allowed key.Name = codes "\"front\", \"back\", \"left\", \"right\", \"above\" or \"below\", each at most once"
allowed key.Toward = codes "three whole numbers from -9 to 9, not all 0"
allowed key.Cut = codes "\"x\", \"y\" or \"z\", with at and from beside it"
allowed key.At = codes "a whole number of units from -1048576 to 1048576; with 3 decimals a unit is 0.001 mm, and 22.5 mm is 22500"
allowed key.From = codes "\"high\" or \"low\""

-- a key that a job has itself, so that it is unknown in a view
abbrev pub is_of_job : List ℕ → Bool
is_of_job name =
    if bytes_eq name (codes "version") then true else (
    if bytes_eq name (codes "decimals") then true else (
    if bytes_eq name (codes "angle") then true else (
    if bytes_eq name (codes "sheet") then true else (
    if bytes_eq name (codes "scale") then true else (
    if bytes_eq name (codes "crease") then true else (
    if bytes_eq name (codes "title") then true else (
    if bytes_eq name (codes "outputs") then true else (false))))))))

-- a key that a view has, so that it is unknown before the first view
abbrev pub is_of_view : List ℕ → Bool
is_of_view name =
    if bytes_eq name (codes "name") then true else (
    if bytes_eq name (codes "toward") then true else (
    if bytes_eq name (codes "cut") then true else (
    if bytes_eq name (codes "at") then true else (
    if bytes_eq name (codes "from") then true else (false)))))

-- a key that an older version doesn't have
abbrev pub newer_text : List ℕ → List ℕ
newer_text name =
    if bytes_eq name (codes "unit") then codes ": versions 2 and 3 have it, before the first [[view]]"
    else (if bytes_eq name (codes "layout") then codes ": versions 2 and 3 have it, before the first [[view]]"
    else (if bytes_eq name (codes "hidden") then codes ": version 3 has it"
    else (if bytes_eq name (codes "block") then codes ": version 3 has it" else codes "")))

-- where a key belongs that is unknown at its place, or which versions have it
abbrev pub belongs_text : List ℕ → List ℕ
belongs_text name =
    if is_of_job name then codes ": it belongs before the first [[view]]"
    else (if is_of_view name then codes ": it belongs in a [[view]]" else newer_text name)

-- what is wrong with a job
abbrev pub job_text : JobFault → List ℕ
job_text NotToml = codes "not TOML"
job_text (Version n) = codes "version " ⊕ signed_decimal n ⊕ codes ": 1, 2 and 3 are known"
job_text (UnknownKey name) = codes "unknown key " ⊕ shown name ⊕ belongs_text name
job_text (Wrong key) = codes "wrong " ⊕ key_text key ⊕ codes ": " ⊕ allowed key
job_text TooManyViews = codes "more than 12 views"
job_text (ZeroDirection v) = codes "view " ⊕ decimal v ⊕ codes ": zero direction"
job_text (DirectionRange v axis) = codes "view " ⊕ decimal v ⊕ codes ": direction " ⊕ axis_text axis ⊕ codes " outside -9 to 9"
job_text (CutRange v) = codes "view " ⊕ decimal v ⊕ codes ": cut outside -1048576 to 1048576"

-- ---- a part
-- the place where an edge meets a triangle is in both; the one of another fault is near it
abbrev pub nearness : MeshFault → List ℕ
nearness (Flat t) = codes "near"
nearness (SameWay a b) = codes "near"
nearness (Unpaired t side) = codes "near"
nearness (Double a b) = codes "near"
nearness (Meet e t) = codes "at"

-- where it is, if a place is given
abbrev pub placed_text : Option FaultPlace → MeshFault → List ℕ
placed_text None fault = []
placed_text (Some place) fault = codes ", " ⊕ nearness fault ⊕ codes " " ⊕ point_text place

-- more decimals may be tried
abbrev pub may_try_more : Option FaultPlace → Bool
may_try_more None = false
may_try_more (Some place) = place.more

-- what is wrong with a surface, where it is, and what helps
abbrev pub surface_text : Option FaultPlace → MeshFault → List ℕ
surface_text place fault = mesh_text fault ⊕ placed_text place fault ⊕ advice_text fault (may_try_more place)

-- what the views need, and what the sheet has, from hundredths of a millimetre
abbrev pub size_text : ℤ → ℤ → List ℕ
size_text width height = mm_text 2 width ⊕ codes " by " ⊕ mm_text 2 height ⊕ codes " mm"

abbrev pub room_text : List ℕ → List ℕ → List ℕ
room_text need have = codes "views need " ⊕ need ⊕ codes ", the sheet has room for " ⊕ have

-- ---- lines
-- a line about a file: its name, and what is wrong
abbrev pub about : List ℕ → List ℕ → List ℕ
about name text = codes "sheet: " ⊕ shown name ⊕ codes ": " ⊕ text ⊕ codes "\n"

-- the part by its name, as far as the words name one
abbrev pub part_in : Option Named → List ℕ
part_in None = []
part_in (Some named) = named.part

-- the job by its name, or the usual one
abbrev pub job_in : Option Named → List ℕ
job_in None = []
job_in (Some named) = unwrap_or named.job (codes "the usual job")

-- where the sheet was to go; what was to be told, where no sheet was asked for, is said
abbrev pub goal_in : Option Named → Goal
goal_in None = said
goal_in (Some named) = named.out

-- the line of what couldn't be said
abbrev pub said_line : List ℕ
said_line = codes "sheet: cannot write the standard output\n"

-- the line of a file that couldn't be written, with the system's reason
abbrev pub unwritten_line : List ℕ → Option Reason → List ℕ
unwritten_line name reason = codes "sheet: cannot write " ⊕ shown name ⊕ reason_text reason ⊕ codes "\n"

-- that of a sheet, by where it goes
abbrev pub write_line : Goal → Option Reason → List ℕ
write_line said reason = said_line
write_line (svg_file name) reason = unwritten_line name reason
write_line (pdf_file name) reason = unwritten_line name reason

-- and of a list
abbrev pub list_line : Option ListGoal → Option Reason → List ℕ
list_line None reason = said_line
list_line (Some list_said) reason = said_line
list_line (Some (list_file name)) reason = unwritten_line name reason

-- where the list was to go
abbrev pub list_in : Option Named → Option ListGoal
list_in None = None
list_in (Some named) = named.list

-- and the plain job
abbrev pub plain_in : Option Named → Option ListGoal
plain_in None = None
plain_in (Some named) = named.plain

-- the line of what couldn't be written: the sheet, or the summary of it and of its list
abbrev pub target_line : Option Named → Option Reason → Target → List ℕ
target_line named reason target.Out = write_line (goal_in named) reason
target_line named reason other = said_line

-- what is wrong with a file that couldn't be read, with the system's reason
abbrev pub unread_text : Option Reason → List ℕ
unread_text reason = codes "cannot be read" ⊕ reason_text reason

-- the place and the hint that are told
abbrev pub place_told : Told → Option FaultPlace
place_told (told.Surface place) = Some place
place_told other = None

abbrev pub hint_told : Told → PartHint
hint_told (told.Text hint) = hint
hint_told other = hint.Nothing

-- the line of a fault that `draw` has too, with what is told beside it, and of a file the system's reason, if it is known
abbrev pub common_line : Option Named → Told → Option Reason → Fault → List ℕ
common_line named told reason Usage = codes "sheet: usage: sheet PART [--job JOB] [--out OUT] [--list LIST] [--plain-job FILE] [--hidden all|plain|none] [--title TEXT] [--number TEXT] [--revision TEXT] [--material TEXT] [--date TEXT]; sheet --help tells more\n"
common_line named told reason (ReadFault input.Job) = about (job_in named) (unread_text reason)
common_line named told reason JobTooLong = about (job_in named) (codes "more than 65536 bytes")
common_line named told reason (Job fault) = about (job_in named) (job_text fault)
common_line named told reason (NoPlotter name) = about (job_in named) (codes "no plotter " ⊕ shown name)
common_line named told reason SampleRange = about (part_in named) (codes "outside sample:1 to sample:8")
common_line named told reason (ReadFault input.Part) = about (part_in named) (unread_text reason)
common_line named told reason PartTooLong = about (part_in named) (codes "more than 16777216 bytes")
common_line named told reason (Part fault) = about (part_in named) (part_text fault (hint_told told))
common_line named told reason Nothing = about (part_in named) (codes "no triangle")
common_line named told reason (Mesh fault) = about (part_in named) (surface_text (place_told told) fault)
common_line named told reason (DoesNotFit need_w need_h have_w have_h) = about (part_in named) (room_text (size_text need_w need_h) (size_text have_w have_h))
common_line named told reason (WriteFault target) = target_line named reason target
common_line named told reason Memory = codes "sheet: out of memory\n"

-- the line of what is wrong with a job, with the place there
abbrev pub flaw_line : List ℕ → PlacedFlaw → List ℕ
flaw_line job flaw = codes "sheet: " ⊕ shown job ⊕ codes ":" ⊕ flaw_text flaw ⊕ codes "\n"

abbrev pub own_line : Option Named → Told → List ℕ
own_line named (told.Job flaw) = flaw_line (job_in named) flaw
own_line named other = about (job_in named) (codes "no job")

-- The line of a fault, with the names that the words give; they give none where they are refused or ask for no sheet.
abbrev pub fault_line : Option Named → Told → Option Reason → SheetFault → List ℕ
fault_line named told reason (Common fault) = common_line named told reason fault
fault_line named told reason OwnJob = own_line named told
fault_line named told reason (NoRoom lack) = no_room_line lack
fault_line named told reason WriteList = list_line (list_in named) reason
fault_line named told reason WritePlain = list_line (plain_in named) reason
