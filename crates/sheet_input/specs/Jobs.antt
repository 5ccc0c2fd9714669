-- A job of any version, as it is taken from a desk, and as it is settled at a number of decimals.
use Rattle.std.specs.Prelude.{◌≡◌, ℕ, List, Option, Result, Ok, Err}
use Rattle.dec_text.specs.declared.number.Length.{Length}
use Rattle.desk.specs.Files.{Files}
use Rattle.job_file.specs.Documents.{JobValues}
use Rattle.part_input.specs.Jobs.{TakesJob}
use Rattle.part_input.specs.Steps.{◌and_then◌}
use Rattle.part_input.specs.declared.fault.Fault.{Fault}
use Rattle.part_input.specs.declared.fault.Fault.TheVariants.{Job as JobUnread}
use Rattle.sheet_job.specs.AnyJobs.{AnyRead, older, own, no_toml, any_job_of_bytes}
use Rattle.sheet_job.specs.JobsAt.{IsJobAt, IsTooFarIn}
use Rattle.sheet_job.specs.SheetJobs.{SheetJobValues}
use Rattle.sheet_input.specs.declared.fault.SheetFault.{SheetFault}
use Rattle.sheet_input.specs.declared.fault.SheetFault.TheVariants.{Common, OwnJob}

-- so it is with the faults of `sheet`
abbrev pub Lifted : {A : Type 0} → (Result A Fault → Type 0) → Result A SheetFault → Type 0
Lifted steps (Ok x) = steps (Ok x)
Lifted steps (Err (Common e)) = steps (Err e)
Lifted steps (Err other) = ⊥

-- ---- reading
-- a job of version 1 or 2, or one of version 3
pub data AnyValues : Type 0 where
  older_job : JobValues → AnyValues
  own_job : SheetJobValues → AnyValues

-- the unit of its lengths and of the part's
abbrev pub unit_of : AnyValues → Length
unit_of (older_job values) = values.unit
unit_of (own_job values) = values.unit

-- bytes say this job
abbrev pub read_of : AnyValues → AnyRead
read_of (older_job values) = older (Ok values)
read_of (own_job values) = own (Ok values)

-- they say a wrong job of version 3, or TOML refuses them
abbrev pub IsRefusedRead : AnyRead → Type 0
IsRefusedRead (older said) = ⊥
IsRefusedRead (own (Ok values)) = ⊥
IsRefusedRead (own (Err fault)) = Unit {0}
IsRefusedRead no_toml = Unit {0}

-- what bytes say as a job
abbrev pub ReadsAnyJob : List ℕ → Result AnyValues SheetFault → Type 0
ReadsAnyJob bytes (Ok values) = any_job_of_bytes bytes ≡ read_of values
ReadsAnyJob bytes (Err (Common (JobUnread cause))) = any_job_of_bytes bytes ≡ older (Err cause)
ReadsAnyJob bytes (Err OwnJob) = IsRefusedRead (any_job_of_bytes bytes)
ReadsAnyJob bytes (Err other) = ⊥

-- the job is taken, and read
abbrev pub TakesAnyJob : Files → Option (List ℕ) → Result AnyValues SheetFault → Type 0
TakesAnyJob files name = Lifted (TakesJob files name) and_then ReadsAnyJob

-- ---- at a number of decimals
-- an older job with this title
abbrev pub titled : List ℕ → JobValues → JobValues
titled title job = record {
  decimals = job.decimals;
  third = job.third;
  paper = job.paper;
  scale = job.scale;
  crease = job.crease;
  title = title;
  outputs = job.outputs;
  unit = job.unit;
  portrait = job.portrait;
  views = job.views;
}

-- what the job says at a number of decimals, with this title: an older one has its own number
abbrev pub SettlesJob : List ℕ → AnyValues → ℕ → Result JobValues SheetFault → Type 0
SettlesJob title (older_job values) decimals (Ok job) = job ≡ titled title values
SettlesJob title (own_job values) decimals (Ok job) = IsJobAt decimals title values job
SettlesJob title (own_job values) decimals (Err OwnJob) = IsTooFarIn decimals values
SettlesJob title values decimals (Err other) = ⊥
