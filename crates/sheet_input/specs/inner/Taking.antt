-- What the steps of this crate give and refuse.
use Rattle.std.specs.Prelude.{◌≡◌, ◌⊎◌, ℕ, Bool, true, false, List, All, Option, Some, None, Ok}
use Rattle.dec_text.specs.declared.number.Length.{Length}
use Rattle.fault_place.specs.Places.{IsPlaceOf}
use Rattle.geometry.specs.Parts.{Part}
use Rattle.desk.specs.Files.{DeskState}
use Rattle.part_input.specs.Jobs.{TakesJob}
use Rattle.part_input.specs.Parts.{IsOfPart, IsOfSoupOr, IsOfSampleOr, sample_size}
use Rattle.part_input.specs.declared.fault.Fault.{Fault}
use Rattle.part_input.specs.declared.fault.Fault.TheVariants.{ReadFault, Part as PartUnread, Mesh, WriteFault, Memory}
use Rattle.part_lines.specs.Hints.{IsPartHint}
use Rattle.part_lines.specs.declared.hint.PartHint.{PartHint}
use Rattle.part_input.specs.inner.Texts.{IsOfMesh}
use Rattle.cut_marks.specs.AskedSides.{sides_for}
use Rattle.drawing.specs.Drawing.{drawn_in}
use Rattle.job_file.specs.Documents.{JobValues}
use Rattle.job_file.specs.Seen.{job_seen}
use Rattle.job_file.specs.declared.job.Job.{Job as MadeJob}
use Rattle.job_file.specs.declared.job.Paper.{Paper}
use Rattle.lattice.specs.declared.points.Corner.{Corner}
use Rattle.sheet_layout.specs.Keeps.{HasPlaceForEach, KeepsApart, KeepsInLine, KeepsSides, StandsInFrame}
use Rattle.sheet_layout.specs.Layouts.{HasNoRoom, IsLaidOut, seats_on}
use Rattle.sheet_layout.specs.declared.layout.Layout.{Layout}
use Rattle.sheet_layout.specs.declared.layout.Wish.{Wish}
use Rattle.sheet_plan.specs.JobSheets.{Drawn}
use Rattle.solid_mesh.specs.Solids.{solid_part}
use Rattle.solid_mesh.specs.Faults.{HasFault}
use Rattle.solid_mesh.specs.declared.faults.MeshFault.{MeshFault}
use Rattle.sheet_job.specs.AnyJobs.{any_job_of_bytes, IsFaultOf as IsFlawOf}
use Rattle.sheet_job.specs.JobsAt.{IsFirstTooFar}
use Rattle.sheet_job.specs.SheetSeen.{IsPlacedIn}
use Rattle.sheet_job.specs.declared.job.SheetJob.{SheetJob}
use Rattle.sheet_job.specs.declared.any.AnyJob.{AnyJob}
use Rattle.sheet_job.specs.declared.any.AnyJob.TheVariants as job
use Rattle.sheet_input.specs.Fits.{Attempts, IsFaultAt, Settled as SettledValues, SettlesBy, decimals_of, first_by, last_by, may_name_more, others_by}
use Rattle.sheet_input.specs.Jobs.{AnyValues, ReadsAnyJob, unit_of}
use Rattle.sheet_input.specs.Places.{IsPartAt, IsTextAt}
use Rattle.sheet_words.specs.Names.{Named}
use Rattle.sheet_input.specs.Seen.{any_seen}
use Rattle.sheet_input.specs.Steps.{DrawnSheet, DrawsText}
use Rattle.sheet_input.specs.Texts as of
use Rattle.sheet_input.specs.Titles.{title_of}
use Rattle.sheet_input.specs.declared.fault.SheetFault.{SheetFault}
use Rattle.sheet_input.specs.declared.fault.SheetFault.TheVariants.{Common, OwnJob, NoRoom}
use Rattle.sheet_input.specs.declared.fit.Settled.{Settled}
use Rattle.sheet_input.specs.declared.place.FaultPlace.{FaultPlace}
use Rattle.sheet_input.specs.declared.refusal.Told.{Told}
use Rattle.sheet_input.specs.declared.refusal.Told.TheVariants.{Nothing, Text, Surface, Job}
use Rattle.sheet_input.specs.declared.take.LaidDrawing.{LaidDrawing}
use Rattle.sheet_input.specs.declared.taken_text.PartText.{PartText}
use Rattle.sheet_input.specs.declared.taken_text.PartText.TheVariants.{Sample, Bytes}
use Rattle.weld.specs.declared.fault.PartFault.{PartFault}

-- ---- what is seen
abbrev pub text_seen : PartText → of.PartText
text_seen (Sample size) = of.sample size
text_seen (Bytes file) = of.file file.bytes.items

abbrev pub settled_seen : Settled → SettledValues
settled_seen s = record { job = job_seen s.job; part = solid_part s.solid }

-- memory ran out
abbrev pub is_short : SheetFault → Bool
is_short (Common Memory) = true
is_short fault = false

-- ---- whose faults they are
-- of a text, before and after the part is checked; and of a job of version 3 at a number of decimals too
abbrev pub size_in : of.PartText → Option (List ℕ)
size_in (of.sample size) = Some size
size_in (of.file bytes) = None

abbrev pub IsOfSoupIn : of.PartText → Fault → Type 0
IsOfSoupIn text fault = IsOfSoupOr (size_in text) fault

-- it is none of reading and none of writing
abbrev pub IsOfNoRead : Fault → Type 0
IsOfNoRead (ReadFault input) = ⊥
IsOfNoRead (WriteFault target) = ⊥
IsOfNoRead fault = Unit {0}

-- it is none of a text
abbrev pub IsOfNoText : Fault → Type 0
IsOfNoText (PartUnread cause) = ⊥
IsOfNoText fault = Unit {0}

abbrev pub IsOfMeshIn : SheetFault → Type 0
IsOfMeshIn (Common fault) = IsOfMesh fault
IsOfMeshIn fault = ⊥

abbrev pub IsOfSolidIn : of.PartText → SheetFault → Type 0
IsOfSolidIn text (Common fault) = IsOfSampleOr (size_in text) fault × IsOfNoRead fault
IsOfSolidIn text fault = ⊥

abbrev pub IsOfFit : of.PartText → SheetFault → Type 0
IsOfFit text OwnJob = Unit {0}
IsOfFit text fault = IsOfSolidIn text fault

-- of a job of version 3 alone
abbrev pub IsOfOwn : SheetFault → Type 0
IsOfOwn OwnJob = Unit {0}
IsOfOwn (Common Memory) = Unit {0}
IsOfOwn fault = ⊥

-- ---- what is told beside them
-- the part has the fault at this place
pub record IsFaultOf (part : Part) (decimals : ℕ) (more : Bool) (fault : MeshFault) (place : FaultPlace) : Type 0 where
  pub has : HasFault part fault
  pub there : IsPlaceOf part fault place.corner
  pub same : place.decimals ≡ decimals
  pub may : place.more ≡ more

-- of a surface, and with `more` more decimals may be tried
abbrev pub IsToldOf : Part → ℕ → Bool → SheetFault → Told → Type 0
IsToldOf part decimals more (Common (Mesh fault)) (Surface place) = IsFaultOf part decimals more fault place
IsToldOf part decimals more (Common (Mesh fault)) told = ⊥
IsToldOf part decimals more (Common (PartUnread fault)) told = ⊥
IsToldOf part decimals more OwnJob told = ⊥
IsToldOf part decimals more fault told = told ≡ Nothing

-- the text is that of a file, and has the hint
abbrev pub IsHintIn : of.PartText → ℕ → Length → PartFault → PartHint → Type 0
IsHintIn (of.file bytes) decimals unit fault hint = IsPartHint bytes fault decimals unit hint
IsHintIn (of.sample size) decimals unit fault hint = ⊥

-- so has the part that a text says at this number of decimals, in lengths of this unit
pub record IsSurfaceIn (text : of.PartText) (decimals : ℕ) (unit : Length) (more : Bool) (fault : MeshFault) (place : FaultPlace) : Type 0 where
  pub part : Part
  pub reads : of.ReadsSoup text decimals unit (Ok part)
  pub has : HasFault part fault
  pub there : IsPlaceOf part fault place.corner
  pub same : place.decimals ≡ decimals
  pub may : place.more ≡ more

abbrev pub IsToldText : of.PartText → ℕ → Length → Bool → SheetFault → Told → Type 0
IsToldText text decimals unit more (Common (PartUnread fault)) (Text hint) = IsHintIn text decimals unit fault hint
IsToldText text decimals unit more (Common (PartUnread fault)) told = ⊥
IsToldText text decimals unit more (Common (Mesh fault)) (Surface place) = IsSurfaceIn text decimals unit more fault place
IsToldText text decimals unit more (Common (Mesh fault)) told = ⊥
IsToldText text decimals unit more OwnJob told = ⊥
IsToldText text decimals unit more fault told = told ≡ Nothing

-- the flaw is that of the first view of a job of version 3 that is too far away at this number
abbrev pub IsToldOwn : SheetJob → ℕ → SheetFault → Told → Type 0
IsToldOwn j decimals OwnJob (Job flaw) = IsFirstTooFar decimals j.unit j.views.items flaw
IsToldOwn j decimals OwnJob told = ⊥
IsToldOwn j decimals fault told = told ≡ Nothing

abbrev pub IsToldRange : AnyJob → ℕ → Told → Type 0
IsToldRange (job.Own j) decimals told = IsToldOwn j decimals OwnJob told
IsToldRange (job.Older j) decimals told = ⊥

-- of the job or of the text at this number
abbrev pub IsToldAt : AnyJob → of.PartText → ℕ → SheetFault → Told → Type 0
IsToldAt any text decimals OwnJob told = IsToldRange any decimals told
IsToldAt any text decimals fault told = IsToldText text decimals (unit_of (any_seen any)) (may_name_more (any_seen any)) fault told

-- of one of several numbers: of the one whose fault it is
pub record IsToldThere (title : List ℕ) (any : AnyJob) (text : of.PartText) (first : ℕ) (others : List ℕ) (fault : SheetFault) (told : Told) : Type 0 where
  pub number : ℕ
  pub tells : IsFaultAt (Attempts title (any_seen any) text) first others number fault
  pub there : IsToldAt any text number fault told

abbrev pub IsToldFit : List ℕ → AnyJob → of.PartText → ℕ → List ℕ → SheetFault → Told → Type 0
IsToldFit title any text first others OwnJob told = IsToldThere title any text first others OwnJob told
IsToldFit title any text first others (Common (PartUnread fault)) told = IsToldThere title any text first others (Common (PartUnread fault)) told
IsToldFit title any text first others (Common (Mesh fault)) told = IsToldThere title any text first others (Common (Mesh fault)) told
IsToldFit title any text first others fault told = told ≡ Nothing

-- of the numbers that are tried for a part, a sample of this size or another one
abbrev pub IsToldIn : List ℕ → AnyJob → Option (List ℕ) → of.PartText → SheetFault → Told → Type 0
IsToldIn title any size text fault told = IsToldFit title any text (first_by (decimals_of (any_seen any)) size) (others_by (decimals_of (any_seen any)) size) fault told

-- of the job at the last of these numbers
abbrev pub IsToldJob : AnyJob → Option (List ℕ) → SheetFault → Told → Type 0
IsToldJob any size OwnJob told = IsToldRange any (last_by (decimals_of (any_seen any)) size) told
IsToldJob any size fault told = told ≡ Nothing

-- ---- a job that was taken
-- the cuts of a job of version 3 have their places in these bytes
abbrev pub IsPlacedBy : List ℕ → AnyJob → Type 0
IsPlacedBy bytes (job.Older j) = Unit {0}
IsPlacedBy bytes (job.Own j) = All (IsPlacedIn bytes) j.views.items

-- the bytes say the job, with its places
pub record IsJobOf (bytes : List ℕ) (taken : AnyJob) : Type 0 where
  pub reads : ReadsAnyJob bytes (Ok (any_seen taken))
  pub placed : IsPlacedBy bytes taken

-- on a desk that tells its files, the bytes of the job that was named do
abbrev pub IsJobTaken : DeskState → Option (List ℕ) → AnyJob → Type 0
IsJobTaken old name taken = old.tells ≡ true → (bytes : List ℕ) × TakesJob old.files name (Ok bytes) × IsJobOf bytes taken

-- what bytes say has the flaw, at its place
abbrev pub IsToldBytes : List ℕ → SheetFault → Told → Type 0
IsToldBytes bytes OwnJob (Job flaw) = IsFlawOf bytes (any_job_of_bytes bytes) flaw
IsToldBytes bytes OwnJob told = ⊥
IsToldBytes bytes fault told = told ≡ Nothing

-- on a desk that tells its files, the job of this name has
abbrev pub IsToldTaken : DeskState → Option (List ℕ) → SheetFault → Told → Type 0
IsToldTaken old name OwnJob (Job flaw) = old.tells ≡ true → (bytes : List ℕ) × TakesJob old.files name (Ok bytes) × IsFlawOf bytes (any_job_of_bytes bytes) flaw
IsToldTaken old name OwnJob told = ⊥
IsToldTaken old name fault told = told ≡ Nothing

-- ---- a layout
-- the views of the job are laid out so
pub record IsLaidFor (job : MadeJob) (corners : List Corner) (w : Wish) (layout : Layout) : Type 0 where
  pub laid : IsLaidOut job corners (sides_for job) w layout
  pub apart : KeepsApart corners (sides_for job) layout
  pub in_frame : StandsInFrame corners (sides_for job) layout
  pub in_line : KeepsInLine (seats_on laid.laid laid.plan) layout
  pub beside : KeepsSides corners (sides_for job) (seats_on laid.laid laid.plan) layout
  pub places : HasPlaceForEach job.views.items layout

-- where no other paper may be chosen, they are on the job's
abbrev pub IsOnOwnPaper : MadeJob → Wish → Layout → Type 0
IsOnOwnPaper job w layout = w.any_paper ≡ false → layout.paper ≡ job.paper

-- no plan has room for them
abbrev pub IsUnlaid : MadeJob → List Corner → Wish → SheetFault → Type 0
IsUnlaid job corners w (NoRoom lack) = HasNoRoom job corners (sides_for job) w lack
IsUnlaid job corners w (Common Memory) = Unit {0}
IsUnlaid job corners w fault = ⊥

-- the job is the other one, but for its paper
pub record IsSameButPaper (job made : MadeJob) : Type 0 where
  pub decimals : made.decimals ≡ job.decimals
  pub third : made.third ≡ job.third
  pub scale : made.scale ≡ job.scale
  pub unit : made.unit ≡ job.unit
  pub portrait : made.portrait ≡ job.portrait
  pub views : made.views.items ≡ job.views.items

-- it is the job itself, or the job on the paper that was chosen where any will do
abbrev pub IsDrawnFor : Wish → Paper → MadeJob → MadeJob → Type 0
IsDrawnFor w paper job made = ((w.any_paper ≡ false) × (made ≡ job)) ⊎ ((w.any_paper ≡ true) × (made.paper ≡ paper) × IsSameButPaper job made)

abbrev pub laid_in : LaidDrawing → Drawn
laid_in made = drawn_in made.drawing

-- ---- all of it
-- what a text of the part says is drawn by the job
pub record IsDrawnOf (named : Named) (values : AnyValues) (made : DrawnSheet) : Type 0 where
  pub text : of.PartText
  pub size : size_in text ≡ sample_size named.part
  pub draws : DrawsText named values text (Ok made)

-- of the sheet: it has no room, or memory ran out
abbrev pub IsOfSheetIn : SheetFault → Type 0
IsOfSheetIn (NoRoom lack) = Unit {0}
IsOfSheetIn (Common Memory) = Unit {0}
IsOfSheetIn fault = ⊥

-- of a job, of a part's text, or of a sheet
abbrev pub IsOfDraw : of.PartText → SheetFault → Type 0
IsOfDraw text fault = IsOfFit text fault ⊎ IsOfSheetIn fault

-- of a part of this name, or of a job at a number of decimals, or of a sheet
abbrev pub IsOfDrawn : List ℕ → SheetFault → Type 0
IsOfDrawn part OwnJob = Unit {0}
IsOfDrawn part (NoRoom lack) = Unit {0}
IsOfDrawn part (Common fault) = IsOfPart part fault
IsOfDrawn part fault = ⊥

-- where a file can't be read, the job's cuts are in range
abbrev pub IsSettledIfRead : Named → AnyValues → SheetFault → Type 0
IsSettledIfRead named values (Common (ReadFault input)) = (made : JobValues) × SettlesBy (title_of named.said.title values named.part) values (sample_size named.part) (Ok made)
IsSettledIfRead named values fault = Unit {0}

-- a part has the fault there; on a desk that tells its files it is the named one, by a job of these values
pub record IsSurfaceBy (old : DeskState) (named : Named) (values : AnyValues) (fault : MeshFault) (place : FaultPlace) : Type 0 where
  pub part : Part
  pub has : HasFault part fault
  pub there : IsPlaceOf part fault place.corner
  pub may : place.more ≡ may_name_more values
  pub of_files : old.tells ≡ true → IsPartAt named old.files values fault part place.decimals

-- so has a text the hint
pub record IsHintBy (old : DeskState) (named : Named) (values : AnyValues) (fault : PartFault) (hint : PartHint) : Type 0 where
  pub bytes : List ℕ
  pub decimals : ℕ
  pub helps : IsPartHint bytes fault decimals (unit_of values) hint
  pub of_files : old.tells ≡ true → IsTextAt named old.files values fault bytes decimals

-- the hint of the named part's text, the place of its surface, or the flaw of the job
abbrev pub IsToldBy : DeskState → Named → AnyJob → SheetFault → Told → Type 0
IsToldBy old named any OwnJob told = IsToldJob any (sample_size named.part) OwnJob told
IsToldBy old named any (Common (PartUnread fault)) (Text hint) = IsHintBy old named (any_seen any) fault hint
IsToldBy old named any (Common (PartUnread fault)) told = ⊥
IsToldBy old named any (Common (Mesh fault)) (Surface place) = IsSurfaceBy old named (any_seen any) fault place
IsToldBy old named any (Common (Mesh fault)) told = ⊥
IsToldBy old named any fault told = told ≡ Nothing
