-- What the taking of a sheet's drawing answers.
use Rattle.std.specs.Prelude.{◌≡◌, ◌⊎◌, ℕ, List, [], Option, Some, None, IsSome, Result, Ok, Err}
use Rattle.desk.specs.Files.{Files}
use Rattle.job_file.specs.Documents.{JobValues}
use Rattle.job_file.specs.declared.job.Paper.{Paper}
use Rattle.part_input.specs.Jobs.{IsOfJobFile, ReadsJob}
use Rattle.part_input.specs.Parts.{IsOfPart, sample_size}
use Rattle.part_input.specs.Sheets.{IsPartOf}
use Rattle.part_input.specs.Steps.{RefusesOf}
use Rattle.part_input.specs.declared.fault.Fault.TheVariants.{ReadFault, Memory}
use Rattle.part_input.specs.declared.fault.Input.{Input}
use Rattle.part_input.specs.declared.fault.Input.TheVariants.{Job as TheJob, Part as ThePart}
use Rattle.sheet_words.specs.Names.{Named}
use Rattle.sheet_input.specs.Faults.{sheet_faults}
use Rattle.sheet_input.specs.Fits.{SettlesBy}
use Rattle.sheet_input.specs.Jobs.{AnyValues, SettlesJob, TakesAnyJob, older_job}
use Rattle.sheet_input.specs.Looks.{look_of}
use Rattle.sheet_input.specs.Sheets.{job_on, wish_of}
use Rattle.sheet_input.specs.Steps.{DrawnSheet}
use Rattle.sheet_input.specs.Titles.{title_of}
use Rattle.sheet_input.specs.declared.fault.SheetFault.{SheetFault}
use Rattle.sheet_input.specs.declared.fault.SheetFault.TheVariants.{Common, OwnJob, NoRoom}
use Rattle.sheet_input.specs.declared.refusal.Refusal.{Refusal}

-- ---- answers
-- the answer, without what is told beside it
abbrev pub fault_in : {T : Type 0} → Result T Refusal → Result T SheetFault
fault_in (Ok x) = Ok x
fault_in (Err r) = Err r.fault

-- a step's result, seen by view; want of memory is free, and a fault of reading has its count
abbrev pub GivesSheet : {X Y : Type 0} → (X → Y) → (Result Y SheetFault → Type 0) → Result X Refusal → Type 0
GivesSheet view steps (Ok x) = steps (Ok (view x))
GivesSheet view steps (Err r) = RefusesOf sheet_faults steps r.fault

-- ---- whose faults they are
-- of the usual job, and of one that is named
abbrev pub IsOfAnyJob : Option (List ℕ) → SheetFault → Type 0
IsOfAnyJob None (Common Memory) = Unit {0}
IsOfAnyJob (Some name) (Common fault) = IsOfJobFile fault
IsOfAnyJob (Some name) OwnJob = Unit {0}
IsOfAnyJob name fault = ⊥

-- of a job, of a part, or of a sheet
abbrev pub IsOfFiles : List ℕ → Option (List ℕ) → SheetFault → Type 0
IsOfFiles part job (Common fault) = IsOfAnyJob job (Common fault) ⊎ IsOfPart part fault
IsOfFiles part job OwnJob = IsSome job
IsOfFiles part job (NoRoom lack) = Unit {0}
IsOfFiles part job fault = ⊥

-- ---- the order of reading
-- a run comes to reading the job where it is named, and to a part that isn't a sample once the job was taken and its cuts are in range
abbrev pub ComesTo : Files → Named → Input → Type 0
ComesTo files named TheJob = IsSome named.job
ComesTo files named ThePart =
    (sample_size named.part ≡ None) × (values : AnyValues) × TakesAnyJob files named.job (Ok values)
    × (job : JobValues) × SettlesBy (title_of named.said.title values named.part) values (sample_size named.part) (Ok job)

-- a fault of reading is answered only where the run comes to that
abbrev pub ReadsInOrder : Files → Named → SheetFault → Type 0
ReadsInOrder files named (Common (ReadFault input)) = ComesTo files named input
ReadsInOrder files named fault = Unit {0}

-- ---- on every desk
-- where no job is named, it is the usual one
abbrev pub IsUsualIfNone : Option (List ℕ) → AnyValues → Type 0
IsUsualIfNone None values = (usual : JobValues) × ReadsJob [] (Ok usual) × (values ≡ older_job usual)
IsUsualIfNone (Some name) values = Unit {0}

-- What is drawn goes by one job and by the words: at some number of decimals the job is that job's, with the words' title or its own, and
-- on some paper where any will do; its layout is asked for what this job says; and the sheet looks as this job and the words say. Where no job
-- is named it is the usual one, and a sample is that of its size.
pub record IsOfNames (named : Named) (made : DrawnSheet) : Type 0 where
  pub values : AnyValues
  pub decimals : ℕ
  pub settled : JobValues
  pub settles : SettlesJob (title_of named.said.title values named.part) values decimals (Ok settled)
  pub paper : Paper
  pub job : made.drawn.job ≡ job_on (wish_of values) paper settled
  pub look : made.look ≡ look_of named values
  pub wish : made.wish ≡ wish_of values
  pub usual : IsUsualIfNone named.job values
  pub part : IsPartOf (sample_size named.part) made.drawn.part
