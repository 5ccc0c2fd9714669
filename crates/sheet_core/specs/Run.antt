-- What a run answers, from its words and the files at entry: steps in order, each with what it gives and what it refuses.
use Rattle.std.specs.Prelude.{◌≡◌, ℕ, List, Option, Some, None, IsSome, Result, Ok, Err, Bool, false}
use Rattle.desk.specs.Files.{Files}
use Rattle.desk_reasons.specs.declared.reason.Reason.{Reason}
use Rattle.part_input.specs.Sheets.{NamesNoFile}
use Rattle.part_input.specs.Jobs.{HasJobFile}
use Rattle.part_input.specs.Parts.{sample_size, HasSampleOr}
use Rattle.part_input.specs.Steps.{◌and_then◌, AnswersSteps}
use Rattle.part_input.specs.declared.fault.Fault.TheVariants.{Usage, ReadFault, WriteFault, Memory}
use Rattle.part_input.specs.declared.fault.Target.{Target}
use Rattle.part_input.specs.declared.fault.Target.TheVariants.{Out}
use Rattle.put_texts.specs.Faults.{IsThereOf}
use Rattle.put_texts.specs.Runs.{Run, Task}
use Rattle.sheet_core.specs.Lines.{IsLineOf, named_in}
use Rattle.sheet_core.specs.Writing.{AsksSheetAnd, IsOfTarget}
use Rattle.sheet_input.specs.Answers.{ComesTo, IsOfFiles, IsOfNames}
use Rattle.sheet_input.specs.Faults.{sheet_faults, status_of}
use Rattle.sheet_input.specs.Seen.{input_seen}
use Rattle.sheet_input.specs.Steps.{DrawnSheet, DrawsSheet}
use Rattle.sheet_input.specs.declared.fault.SheetFault.{SheetFault}
use Rattle.sheet_input.specs.declared.fault.SheetFault.TheVariants.{Common, OwnJob, NoRoom, WriteList, WritePlain}
use Rattle.sheet_input.specs.declared.take.SheetInput.{SheetInput}
use Rattle.sheet_words.specs.Names.{Asks, help, version, sheet}

-- ---- the steps of a run
-- A run: what is drawn, if anything is, or the refusal. Words that ask for nothing are refused.
abbrev pub RunsSheet : Option Asks → Files → Result (Option DrawnSheet) SheetFault → Type 0
RunsSheet None files r = r ≡ Err (Common Usage)
RunsSheet (Some help) files r = r ≡ Ok None
RunsSheet (Some version) files r = r ≡ Ok None
RunsSheet (Some (sheet named)) files r = (DrawsSheet files named and_then λ drawn answer. answer ≡ Ok (Some drawn)) r

-- ---- answers
-- help and the version may be what couldn't be said
abbrev pub IsOfAsked : Option Asks → Target → Type 0
IsOfAsked None target = ⊥
IsOfAsked (Some help) target = target ≡ Out
IsOfAsked (Some version) target = target ≡ Out
IsOfAsked (Some (sheet named)) target = IsOfTarget named target

-- on every desk the words are refused exactly so, unless memory ran out, and the job and the part are at fault only as they may be
abbrev pub AnswersSheetWords : Option Asks → Option SheetFault → Type 0
AnswersSheetWords asked (Some OwnJob) = AsksSheetAnd asked (λ named. IsOfFiles named.part named.job OwnJob)
AnswersSheetWords asked (Some (NoRoom lack)) = AsksSheetAnd asked (λ named. IsOfFiles named.part named.job (NoRoom lack))
AnswersSheetWords asked (Some WriteList) = AsksSheetAnd asked (λ named. IsSome named.list)
AnswersSheetWords asked (Some WritePlain) = AsksSheetAnd asked (λ named. IsSome named.plain)
AnswersSheetWords asked (Some (Common Usage)) = asked ≡ None
AnswersSheetWords asked (Some (Common Memory)) = Unit {0}
AnswersSheetWords asked (Some (Common (WriteFault target))) = IsOfAsked asked target
AnswersSheetWords asked (Some (Common fault)) = AsksSheetAnd asked (λ named. IsOfFiles named.part named.job (Common fault))
AnswersSheetWords asked None = IsSome asked

-- a fault of reading is answered only where the run comes to that
abbrev pub RunsInOrder : Option Asks → Files → SheetFault → Type 0
RunsInOrder asked files (Common (ReadFault input)) = AsksSheetAnd asked (λ named. ComesTo files named input)
RunsInOrder asked files fault = Unit {0}

-- the files that were named to be read are there
abbrev pub HasFiles : Files → List ℕ → Option (List ℕ) → Type 0
HasFiles files part job = HasJobFile files job × HasSampleOr (sample_size part) files part

abbrev pub HasFilesAsked : Files → Option Asks → Type 0
HasFilesAsked files (Some (sheet named)) = HasFiles files named.part named.job
HasFilesAsked files asked = Unit {0}

-- no file is named to be read
abbrev pub NamesNoFileAsked : Option Asks → Type 0
NamesNoFileAsked (Some (sheet named)) = NamesNoFile named.job named.part
NamesNoFileAsked asked = Unit {0}

-- where a sheet was asked for, a drawing is there as the fault says, and else there is none
abbrev pub HasDrawing : Option Asks → Option SheetFault → Bool → Type 0
HasDrawing (Some (sheet named)) fault there = IsThereOf sheet_faults fault there
HasDrawing asked fault there = there ≡ false

-- ---- a run
-- what the words come to
abbrev pub sheet_task : Option Asks → Task SheetFault (Option DrawnSheet)
sheet_task asked = record {
  faults = sheet_faults;
  steps = λ files. RunsSheet asked files;
  may = AnswersSheetWords asked;
  comes_to = RunsInOrder asked;
  has_files = λ files. HasFilesAsked files asked;
  no_file = NamesNoFileAsked asked;
  settles = λ files. AnswersSteps sheet_faults (RunsSheet asked files);
}

-- and what is made of that, and told, with the reasons that desks of this kind give
abbrev pub sheet_run : {D : Type 0} → (D → Option Reason) → Option Asks → Run SheetFault SheetInput (Option DrawnSheet)
sheet_run of_desk asked = record {
  task = sheet_task asked;
  status = status_of;
  makes = HasDrawing asked;
  given = λ m. Some (input_seen m);
  of_words = λ m. AsksSheetAnd asked (λ named. IsOfNames named (input_seen m));
  tells = IsLineOf of_desk (named_in asked);
}
