-- The sheet that a job's views of a part are planned on, and why there may be none.
use Rattle.std.specs.Prelude.{◌≡◌, ℕ, List, [], Option, Some, None, IsSome, Result, Ok, Err}
use Rattle.geometry.specs.Parts.{Part}
use Rattle.job_file.specs.Documents.{JobValues}
use Rattle.job_file.specs.declared.job.Job.{Job}
use Rattle.lattice.specs.declared.points.Corner.{Corner}
use Rattle.sheet_plan.specs.JobSheets.{Drawn, HasNoRoomFor, HasSheet, HasNoSheet}
use Rattle.desk.specs.Files.{Files}
use Rattle.part_input.specs.Jobs.{ReadsJob, TakesReadJob}
use Rattle.part_input.specs.Parts.{MakesSample, TakesSolid, sample_size}
use Rattle.part_input.specs.Steps.{◌and_then◌}
use Rattle.part_input.specs.declared.fault.Fault.{Fault}
use Rattle.part_input.specs.declared.fault.Fault.TheVariants.{DoesNotFit, Memory}

-- the part is drawn by the job, whose views of it fit the sheet
abbrev pub PlansSheet : JobValues → Part → Result Drawn Fault → Type 0
PlansSheet job part (Ok drawn) = (drawn ≡ record { job = job; part = part }) × HasSheet job part.corners
PlansSheet job part (Err (DoesNotFit need_w need_h have_w have_h)) = HasNoSheet job part.corners need_w need_h have_w have_h
PlansSheet job part (Err e) = ⊥

-- the job that was named or the usual one, the part, and the sheet
abbrev pub DrawsPart : Files → List ℕ → Option (List ℕ) → Result Drawn Fault → Type 0
DrawsPart files part job =
    TakesReadJob files job and_then λ values. (TakesSolid files part values.decimals values.unit and_then PlansSheet values)

-- the fault of a sheet
abbrev pub IsOfSheet : Fault → Type 0
IsOfSheet (DoesNotFit need_w need_h have_w have_h) = Unit {0}
IsOfSheet Memory = Unit {0}
IsOfSheet fault = ⊥

-- why there is no sheet: the views don't fit, or memory ran out
abbrev pub IsNoSheetOf : Job → List Corner → Fault → Type 0
IsNoSheetOf job corners (DoesNotFit need_w need_h have_w have_h) = HasNoRoomFor job corners need_w need_h have_w have_h
IsNoSheetOf job corners Memory = Unit {0}
IsNoSheetOf job corners fault = ⊥

-- ---- words that name no file
-- no job is named, and the part is a sample
pub record NamesNoFile (job : Option (List ℕ)) (part : List ℕ) : Type 0 where
  pub no_job : job ≡ None
  pub sample : IsSome (sample_size part)

-- where no job is named, it is that of the empty text
abbrev pub IsJobOf : Option (List ℕ) → JobValues → Type 0
IsJobOf None job = ReadsJob [] (Ok job)
IsJobOf (Some name) job = Unit {0}

-- where the part is a sample of this size, it is the one that is made
abbrev pub IsPartOf : Option (List ℕ) → Part → Type 0
IsPartOf None part = Unit {0}
IsPartOf (Some size) part = MakesSample size (Ok part)

-- what these names of a job and a part alone say of what is drawn
pub record IsOfWords (job_name : Option (List ℕ)) (part_name : List ℕ) (drawn : Drawn) : Type 0 where
  pub job : IsJobOf job_name drawn.job
  pub part : IsPartOf (sample_size part_name) drawn.part
