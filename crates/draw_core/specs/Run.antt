-- What a run answers, from its words and the files at entry: steps in order, each with what it gives and what it refuses.
use Rattle.std.specs.Prelude.{◌≡◌, ◌⊎◌, ℕ, List, Option, Some, None, IfSome, IsSome, IsSomeAnd, Result, Ok, Err}
use Rattle.desk.specs.Files.{Files}
use Rattle.draw_words.specs.Names.{Named, named_by}
use Rattle.job_file.specs.Documents.{JobValues}
use Rattle.part_input.specs.Jobs.{TakesReadJob, IsOfUsualJob, HasJobFile}
use Rattle.part_input.specs.Parts.{sample_size, TakesSolid, IsOfPart, HasSampleOr}
use Rattle.part_input.specs.Sheets.{PlansSheet, IsOfSheet, IsOfWords, NamesNoFile}
use Rattle.part_input.specs.Causes.{common}
use Rattle.part_input.specs.Faults.{status_of}
use Rattle.part_input.specs.Steps.{◌and_then◌, IsAnswerOf}
use Rattle.sheet_plan.specs.JobSheets.{Drawn}
use Rattle.part_input.specs.declared.fault.Input.{Input}
use Rattle.part_input.specs.declared.fault.Input.TheVariants.{Job as TheJob, Part as ThePart}
use Rattle.part_input.specs.declared.fault.Fault.{Fault}
use Rattle.part_input.specs.declared.fault.Fault.TheVariants.{Usage, ReadFault, JobTooLong, Job as JobUnread, NoPlotter, WriteFault, Memory}
use Rattle.drawing.specs.Drawing.{drawn_in}
use Rattle.drawing.specs.declared.drawn.Drawing.{Drawing}
use Rattle.put_texts.specs.Faults.{IsThereOf}
use Rattle.put_texts.specs.Runs.{Run, Task}
use Rattle.draw_core.specs.Lines.{fault_line}
use Rattle.draw_core.specs.Outputs.{first_unmet}

-- ---- the steps of a run
-- the words name files
abbrev pub NamesFiles : List (List ℕ) → Result Named Fault → Type 0
NamesFiles words (Ok named) = named_by words ≡ Some named
NamesFiles words (Err e) = (e ≡ Usage) × (named_by words ≡ None)

-- each of its outputs is the suffix of a plotter
abbrev pub HasPlotters : List (List ℕ) → JobValues → Result JobValues Fault → Type 0
HasPlotters suffixes job (Ok same) = (same ≡ job) × (first_unmet suffixes job.outputs ≡ None)
HasPlotters suffixes job (Err e) = (name : List ℕ) × (e ≡ NoPlotter name) × (first_unmet suffixes job.outputs ≡ Some name)

-- the job is taken and read, and its outputs have plotters with these suffixes
abbrev pub TakesMetJob : List (List ℕ) → Files → Option (List ℕ) → Result JobValues Fault → Type 0
TakesMetJob suffixes files name = TakesReadJob files name and_then HasPlotters suffixes

-- what was named gives the job, and then the part
abbrev pub DrawsFiles : List (List ℕ) → Files → Named → Result Drawn Fault → Type 0
DrawsFiles suffixes files named =
    TakesMetJob suffixes files named.job and_then λ job. (TakesSolid files named.part job.decimals job.unit and_then PlansSheet job)

-- a run with plotters of these suffixes: what is drawn, or the refusal
abbrev pub RunsDraw : List (List ℕ) → List (List ℕ) → Files → Result Drawn Fault → Type 0
RunsDraw suffixes words files = NamesFiles words and_then DrawsFiles suffixes files

-- ---- answers
-- the faults of a named job
abbrev pub IsOfNamedJob : Fault → Type 0
IsOfNamedJob (ReadFault TheJob) = Unit {0}
IsOfNamedJob JobTooLong = Unit {0}
IsOfNamedJob (JobUnread cause) = Unit {0}
IsOfNamedJob (NoPlotter output) = Unit {0}
IsOfNamedJob Memory = Unit {0}
IsOfNamedJob fault = ⊥

abbrev pub IsOfJob : Option (List ℕ) → Fault → Type 0
IsOfJob None fault = IsOfUsualJob fault
IsOfJob (Some name) fault = IsOfNamedJob fault

-- the faults of what was named: of the job, of the part, or of the sheet
abbrev pub IsOfFiles : Named → Fault → Type 0
IsOfFiles named fault = IsOfJob named.job fault ⊎ IsOfPart named.part fault ⊎ IsOfSheet fault

-- on every desk the words are refused exactly so, unless memory ran out, and the job and the part are at fault only as they may be
abbrev pub AnswersDrawWords : Option Named → Option Fault → Type 0
AnswersDrawWords named (Some Usage) = named ≡ None
AnswersDrawWords named (Some Memory) = Unit {0}
AnswersDrawWords named (Some (WriteFault target)) = IsSome named
AnswersDrawWords named (Some fault) = IsSomeAnd named (λ names. IsOfFiles names fault)
AnswersDrawWords named None = IsSome named

-- the run comes to reading the job where it is named, and to a part that isn't a sample once the job was taken
abbrev pub ComesTo : List (List ℕ) → Files → Named → Input → Type 0
ComesTo suffixes files named TheJob = IsSome named.job
ComesTo suffixes files named ThePart = (sample_size named.part ≡ None) × (job : JobValues) × TakesMetJob suffixes files named.job (Ok job)

-- a fault of reading is answered only where the run comes to that
abbrev pub RunsInOrder : List (List ℕ) → List (List ℕ) → Files → Fault → Type 0
RunsInOrder suffixes words files (ReadFault input) = IsSomeAnd (named_by words) (λ named. ComesTo suffixes files named input)
RunsInOrder suffixes words files fault = Unit {0}

-- the files that were named to be read are there
abbrev pub HasFiles : Files → Named → Type 0
HasFiles files named = HasJobFile files named.job × HasSampleOr (sample_size named.part) files named.part

-- ---- a run
-- what the words come to, with plotters of these suffixes
abbrev pub draw_task : List (List ℕ) → List (List ℕ) → Task Fault Drawn
draw_task suffixes words = record {
  faults = common;
  steps = RunsDraw suffixes words;
  may = AnswersDrawWords (named_by words);
  comes_to = RunsInOrder suffixes words;
  has_files = λ files. IfSome (named_by words) (HasFiles files);
  no_file = IfSome (named_by words) (λ named. NamesNoFile named.job named.part);
  settles = λ files. IsAnswerOf (RunsDraw suffixes words files);
}

-- and what is made of that
abbrev pub draw_run : List (List ℕ) → List (List ℕ) → Run Fault Drawing Drawn
draw_run suffixes words = record {
  task = draw_task suffixes words;
  status = status_of;
  makes = IsThereOf common;
  given = drawn_in;
  of_words = λ d. IsSomeAnd (named_by words) (λ named. IsOfWords named.job named.part (drawn_in d));
  tells = λ old fault line. line ≡ fault_line fault;
}
