-- What the line of a fault tells beside it.
use Rattle.std.specs.Prelude.{◌≡◌, ◌⊎◌, ℕ, true, List, All, Option, Ok}
use Rattle.dec_text.specs.declared.number.Length.{Length}
use Rattle.desk.specs.Files.{Files, DeskState}
use Rattle.fault_place.specs.Places.{IsPlaceOf}
use Rattle.geometry.specs.Parts.{Part}
use Rattle.part_input.specs.Jobs.{TakesJob}
use Rattle.part_lines.specs.Hints.{IsPartHint}
use Rattle.part_lines.specs.declared.hint.PartHint.{PartHint}
use Rattle.part_input.specs.Parts.{sample_size}
use Rattle.part_input.specs.declared.fault.Fault.TheVariants.{Part as PartUnread, Mesh}
use Rattle.sheet_job.specs.AnyJobs.{any_job_of_bytes, own, IsFaultOf}
use Rattle.sheet_job.specs.JobsAt.{IsFirstTooFar}
use Rattle.sheet_job.specs.SheetSeen.{sheet_job_seen, IsPlacedIn}
use Rattle.sheet_job.specs.declared.job.SheetJob.{SheetJob}
use Rattle.sheet_job.specs.declared.flaw.PlacedFlaw.{PlacedFlaw}
use Rattle.solid_mesh.specs.Faults.{HasFault}
use Rattle.solid_mesh.specs.declared.faults.MeshFault.{MeshFault}
use Rattle.sheet_words.specs.Names.{Named}
use Rattle.weld.specs.declared.fault.PartFault.{PartFault}
use Rattle.sheet_input.specs.Fits.{IsFaultBy, last_by, may_name_more}
use Rattle.sheet_input.specs.Jobs.{AnyValues, TakesAnyJob, unit_of}
use Rattle.sheet_input.specs.Texts.{PartText, file, ReadsSoup, TakesText}
use Rattle.sheet_input.specs.Titles.{title_of}
use Rattle.sheet_input.specs.declared.fault.SheetFault.{SheetFault}
use Rattle.sheet_input.specs.declared.fault.SheetFault.TheVariants.{Common, OwnJob}
use Rattle.sheet_input.specs.declared.place.FaultPlace.{FaultPlace}
use Rattle.sheet_input.specs.declared.refusal.Told.{Told}
use Rattle.sheet_input.specs.declared.refusal.Told.TheVariants.{Nothing, Text, Surface, Job}

-- ---- a text
-- by a job of these values the fault is told of this number of decimals, and the named part has these bytes
pub record IsTextAt (named : Named) (files : Files) (values : AnyValues) (fault : PartFault) (bytes : List ℕ) (decimals : ℕ) : Type 0 where
  pub taken : TakesText files named.part (Ok (file bytes))
  pub tells : IsFaultBy (title_of named.said.title values named.part) values (sample_size named.part) (file bytes) decimals (Common (PartUnread fault))

-- a text has the hint; on a desk that tells its files it is the one that was named, by the job that was named
pub record IsHintThere (named : Named) (old : DeskState) (fault : PartFault) (hint : PartHint) : Type 0 where
  pub bytes : List ℕ
  pub decimals : ℕ
  pub unit : Length
  pub helps : IsPartHint bytes fault decimals unit hint
  pub of_files : old.tells ≡ true → (values : AnyValues) × TakesAnyJob old.files named.job (Ok values) × IsTextAt named old.files values fault bytes decimals × (unit ≡ unit_of values)

-- ---- a surface
-- by a job of these values the fault is told of this number of decimals, and the part is what the named one says there
pub record IsPartAt (named : Named) (files : Files) (values : AnyValues) (fault : MeshFault) (part : Part) (decimals : ℕ) : Type 0 where
  pub text : PartText
  pub taken : TakesText files named.part (Ok text)
  pub tells : IsFaultBy (title_of named.said.title values named.part) values (sample_size named.part) text decimals (Common (Mesh fault))
  pub reads : ReadsSoup text decimals (unit_of values) (Ok part)

-- a part has the fault there; on a desk that tells its files it is the one that was named, by the job that was named
pub record IsFaultThere (named : Named) (old : DeskState) (fault : MeshFault) (place : FaultPlace) : Type 0 where
  pub part : Part
  pub has : HasFault part fault
  pub there : IsPlaceOf part fault place.corner
  pub of_files : old.tells ≡ true → (values : AnyValues) × TakesAnyJob old.files named.job (Ok values) × IsPartAt named old.files values fault part place.decimals × (place.more ≡ may_name_more values)

-- ---- a job
-- the flaw is that of the first cut of a job of version 3 that is out of range at the last number of decimals that is tried
pub record IsOutOfRange (bytes : List ℕ) (size : Option (List ℕ)) (flaw : PlacedFlaw) : Type 0 where
  pub job : SheetJob
  pub says : any_job_of_bytes bytes ≡ own (Ok (sheet_job_seen job))
  pub placed : All (IsPlacedIn bytes) job.views.items
  pub first : IsFirstTooFar (last_by job.decimals size) job.unit job.views.items flaw

-- the job's bytes have the flaw there
abbrev pub HasFlaw : List ℕ → Option (List ℕ) → PlacedFlaw → Type 0
HasFlaw bytes size flaw = IsFaultOf bytes (any_job_of_bytes bytes) flaw ⊎ IsOutOfRange bytes size flaw

-- on a desk that tells its files the job that is named has the flaw there
abbrev pub IsFlawIn : DeskState → Named → PlacedFlaw → Type 0
IsFlawIn old named flaw = old.tells ≡ true → (bytes : List ℕ) × TakesJob old.files named.job (Ok bytes) × HasFlaw bytes (sample_size named.part) flaw

-- ---- all faults
-- of a text the hint is told, of a surface the place, of a job the flaw and its place, and else nothing
abbrev pub IsToldFor : Named → DeskState → SheetFault → Told → Type 0
IsToldFor named old (Common (PartUnread fault)) (Text hint) = IsHintThere named old fault hint
IsToldFor named old (Common (PartUnread fault)) told = ⊥
IsToldFor named old (Common (Mesh fault)) (Surface place) = IsFaultThere named old fault place
IsToldFor named old (Common (Mesh fault)) told = ⊥
IsToldFor named old OwnJob (Job flaw) = IsFlawIn old named flaw
IsToldFor named old OwnJob told = ⊥
IsToldFor named old fault told = told ≡ Nothing
