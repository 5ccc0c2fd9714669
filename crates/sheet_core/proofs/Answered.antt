-- What is asked of a run of `sheet`: its steps have one answer, and they miss no file that is there.
use Rattle.std.proofs.Common.{◌≡◌, inl, inr, ℕ, List, Option, Some, None, Ok, Err, refl, sym, ap, subst, ◌∙◌}
use Rattle.desk.specs.Files.{Files}
use Rattle.part_input.specs.Causes.{elsewhere, unread, unwritten}
use Rattle.part_input.specs.Sheets.{NamesNoFile}
use Rattle.part_input.specs.Parts.{sample_size}
use Rattle.part_input.specs.declared.fault.Input.{Input}
use Rattle.part_input.specs.declared.fault.Fault.{Fault}
use Rattle.part_input.specs.declared.fault.Fault.TheVariants.{Usage, ReadFault}
use Rattle.part_input.proofs.Causes.{read_only, unread_only}
use Rattle.part_input.proofs.NoFile.{sample_not_read}
use Rattle.part_input.proofs.Singles.{IsSingle, not_both, same_fault, single_then}
use Rattle.put_texts.proofs.Runs.{IsLawful, settled_steps}
use Rattle.sheet_input.specs.Answers.{IsOfAnyJob, IsOfFiles}
use Rattle.sheet_input.specs.Faults.{cause_of}
use Rattle.sheet_input.specs.Steps.{DrawnSheet, DrawsSheet}
use Rattle.sheet_input.specs.declared.fault.SheetFault.{SheetFault}
use Rattle.sheet_input.specs.declared.fault.SheetFault.TheVariants.{Common, OwnJob, NoRoom, WriteList, WritePlain}
use Rattle.sheet_input.specs.inner.Shortage.{short_alone}
use Rattle.sheet_input.proofs.NeverMissing.{never_missing_sheet}
use Rattle.sheet_input.proofs.OneDrawing.{draws_sheet_single}
use Rattle.sheet_core.specs.Run.{AnswersSheetWords, HasFilesAsked, NamesNoFileAsked, RunsSheet, sheet_task}
use Rattle.sheet_words.specs.Names.{Asks, help, version, sheet}

-- ---- one answer
one_answer : (asked : Option Asks) (files : Files) → IsSingle (RunsSheet asked files)
one_answer None files r s e h = e ∙ sym h
one_answer (Some help) files r s e h = e ∙ sym h
one_answer (Some version) files r s e h = e ∙ sym h
one_answer (Some (sheet named)) files r s e h =
    single_then (DrawsSheet files named) (λ drawn answer. answer ≡ Ok (Some drawn)) (draws_sheet_single files named) (λ drawn a b p q. p ∙ sym q) r s e h

-- ---- files that are there
not_given : {A : Type 0} (x : A) (e : SheetFault) → Err e ≡ Ok x → ⊥
not_given x e h = not_both x e (sym h)

module _ (files : Files) (input : Input) where
  never_missing : (asked : Option Asks) → HasFilesAsked files asked → RunsSheet asked files (Err (Common (ReadFault input))) → ⊥
  never_missing None there h = unread_only elsewhere (sym (ap cause_of (same_fault {A = Option DrawnSheet} (Common (ReadFault input)) (Common Usage) h)))
  never_missing (Some help) there h = not_given None (Common (ReadFault input)) h
  never_missing (Some version) there h = not_given None (Common (ReadFault input)) h
  never_missing (Some (sheet named)) there (inl h) = never_missing_sheet files input named there h
  never_missing (Some (sheet named)) there (inr (drawn, _, h)) = not_given (Some drawn) (Common (ReadFault input)) h

never_unread : (asked : Option Asks) (files : Files) → HasFilesAsked files asked → (f : SheetFault) → cause_of f ≡ unread → RunsSheet asked files (Err f) → ⊥
never_unread asked files there (Common e) is h = read_only (λ (e : Fault). RunsSheet asked files (Err (Common e)) → ⊥) (λ input. never_missing files input asked there) e is h
never_unread asked files there OwnJob is h = unread_only elsewhere is
never_unread asked files there (NoRoom lack) is h = unread_only elsewhere is
never_unread asked files there WriteList is h = unread_only unwritten is
never_unread asked files there WritePlain is h = unread_only unwritten is

-- ---- words that name no file
module _ (part : List ℕ) (job : Option (List ℕ)) (alone : NamesNoFile job part) (input : Input) where
  files_unread : IsOfFiles part job (Common (ReadFault input)) → ⊥
  files_unread (inl of_job) = subst (λ (name : Option (List ℕ)). IsOfAnyJob name (Common (ReadFault input))) alone.no_job of_job
  files_unread (inr of_part) = sample_not_read (sample_size part) alone.sample input of_part

input_unread : (asked : Option Asks) → NamesNoFileAsked asked → (input : Input) → AnswersSheetWords asked (Some (Common (ReadFault input))) → ⊥
input_unread None none input h = h
input_unread (Some help) none input h = h
input_unread (Some version) none input h = h
input_unread (Some (sheet named)) none input h = files_unread named.part named.job none input h

none_unread : (asked : Option Asks) → NamesNoFileAsked asked → (f : SheetFault) → cause_of f ≡ unread → AnswersSheetWords asked (Some f) → ⊥
none_unread asked none (Common e) is may = read_only (λ (e : Fault). AnswersSheetWords asked (Some (Common e)) → ⊥) (λ input. input_unread asked none input) e is may
none_unread asked none OwnJob is may = unread_only elsewhere is
none_unread asked none (NoRoom lack) is may = unread_only elsewhere is
none_unread asked none WriteList is may = unread_only unwritten is
none_unread asked none WritePlain is may = unread_only unwritten is

pub lawful : (asked : Option Asks) → IsLawful (sheet_task asked)
lawful asked = record {
  is_wanting = refl;
  alone = short_alone;
  may_want = tt;
  want_in_order = λ files. tt;
  settled = λ files fault is. settled_steps (sheet_task asked) files (one_answer asked files) fault is;
  no_reading = none_unread asked;
  there = never_unread asked;
}
