-- The job of a file, or the usual one: what is taken, what it says, and what may be at fault.
use Rattle.std.specs.Prelude.{◌≡◌, ◌⊎◌, ◌<◌, ◌≤◌, ℕ, List, [], length, Option, Some, None, IsSome, IsSomeAnd, Result, Ok, Err}
use Rattle.desk.specs.Files.{Files}
use Rattle.job_file.specs.Documents.{JobValues, job_of_bytes}
use Rattle.job_file.specs.declared.fault.JobFault.{JobFault}
use Rattle.part_input.specs.Steps.{◌and_then◌}
use Rattle.part_input.specs.declared.fault.Input.{Input}
use Rattle.part_input.specs.declared.fault.Input.TheVariants.{Job as TheJob, Part as ThePart}
use Rattle.part_input.specs.declared.fault.Fault.{Fault}
use Rattle.part_input.specs.declared.fault.Fault.TheVariants.{ReadFault, JobTooLong, Job as JobUnread, PartTooLong, Memory}

-- the most bytes that a file may have
abbrev pub limit_of : Input → ℕ
limit_of TheJob = 65536
limit_of ThePart = 16777216

-- the fault of a file that has more
abbrev pub too_long : Input → Fault
too_long TheJob = JobTooLong
too_long ThePart = PartTooLong

-- the file is there, within the limit
abbrev pub TakesFile : Input → Files → List ℕ → Result (List ℕ) Fault → Type 0
TakesFile input files name (Ok bytes) = (files name ≡ Some bytes) × (length bytes ≤ limit_of input)
TakesFile input files name (Err e) =
    ((e ≡ ReadFault input) × (files name ≡ None)) ⊎ ((e ≡ too_long input) × IsSomeAnd (files name) (λ bytes. limit_of input < length bytes))

-- the bytes of the job: with no name, none
abbrev pub TakesJob : Files → Option (List ℕ) → Result (List ℕ) Fault → Type 0
TakesJob files None (Ok bytes) = bytes ≡ []
TakesJob files None (Err e) = ⊥
TakesJob files (Some name) answer = TakesFile TheJob files name answer

-- what they say as a job
abbrev pub ReadsJob : List ℕ → Result JobValues Fault → Type 0
ReadsJob bytes (Ok job) = job_of_bytes bytes ≡ Ok job
ReadsJob bytes (Err e) = (cause : JobFault) × (e ≡ JobUnread cause) × (job_of_bytes bytes ≡ Err cause)

-- the job is taken, and read
abbrev pub TakesReadJob : Files → Option (List ℕ) → Result JobValues Fault → Type 0
TakesReadJob files name = TakesJob files name and_then ReadsJob

-- the faults of the file of a job
abbrev pub IsOfJobFile : Fault → Type 0
IsOfJobFile (ReadFault TheJob) = Unit {0}
IsOfJobFile JobTooLong = Unit {0}
IsOfJobFile (JobUnread cause) = Unit {0}
IsOfJobFile Memory = Unit {0}
IsOfJobFile fault = ⊥

-- those of the usual job
abbrev pub IsOfUsualJob : Fault → Type 0
IsOfUsualJob Memory = Unit {0}
IsOfUsualJob fault = ⊥

-- a job that is named is there
abbrev pub HasJobFile : Files → Option (List ℕ) → Type 0
HasJobFile files None = Unit {0}
HasJobFile files (Some name) = IsSome (files name)
