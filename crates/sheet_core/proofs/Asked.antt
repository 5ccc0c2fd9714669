-- Which faults a run with names may have, and what it answers with them.
use Rattle.std.proofs.Common.{◌≡◌, inl, inr, ℕ, List, Option, Some, None, IfSome, true, false, refl}
use Rattle.desk.specs.Files.{DeskState, Files}
use Rattle.part_input.specs.Causes.{elsewhere, unread, unwritten}
use Rattle.part_input.specs.declared.fault.Fault.{Fault}
use Rattle.part_input.specs.Parts.{IsOfSampleOr, sample_size}
use Rattle.part_input.specs.declared.fault.Target.{Target}
use Rattle.part_input.specs.declared.fault.Fault.TheVariants.{Usage, ReadFault, WriteFault, Memory}
use Rattle.part_input.proofs.Causes.{read_only, unread_only}
use Rattle.put_texts.specs.Faults.{HasNoWriteFaultOf, IsThereOf}
use Rattle.put_texts.proofs.Counting.{not_there}
use Rattle.sheet_input.specs.Answers.{IsOfAnyJob, IsOfFiles, ReadsInOrder}
use Rattle.sheet_input.specs.Faults.{cause_of, sheet_faults}
use Rattle.sheet_input.specs.declared.refusal.Told.TheVariants.{Nothing}
use Rattle.sheet_core.specs.Lines.{IsToldTo}
use Rattle.sheet_core.specs.Run.{AnswersSheetWords, HasDrawing, RunsInOrder}
use Rattle.sheet_core.specs.inner.Faults.{IsOfReading, IsOfWriting}
use Rattle.sheet_core.proofs.Putting.{by_writing}
use Rattle.sheet_input.specs.declared.fault.SheetFault.{SheetFault}
use Rattle.sheet_input.specs.declared.fault.SheetFault.TheVariants.{Common, OwnJob, NoRoom, WriteList, WritePlain}
use Rattle.sheet_words.specs.Names.{Asks, Named, help, version, sheet}

-- ---- faults of taking a drawing are none of the words and none of writing
job_no_usage : (job : Option (List ℕ)) → IsOfAnyJob job (Common Usage) → ⊥
job_no_usage None h = h
job_no_usage (Some name) h = h

part_no_usage : (size : Option (List ℕ)) → IsOfSampleOr size Usage → ⊥
part_no_usage None h = h
part_no_usage (Some size) h = h

job_no_write : (job : Option (List ℕ)) (target : Target) → IsOfAnyJob job (Common (WriteFault target)) → ⊥
job_no_write None target h = h
job_no_write (Some name) target h = h

part_no_write : (size : Option (List ℕ)) (target : Target) → IsOfSampleOr size (WriteFault target) → ⊥
part_no_write None target h = h
part_no_write (Some size) target h = h

module _ (part : List ℕ) (job : Option (List ℕ)) where
  no_usage : IsOfFiles part job (Common Usage) → ⊥
  no_usage (inl h) = job_no_usage job h
  no_usage (inr h) = part_no_usage (sample_size part) h

  no_write : (target : Target) → IsOfFiles part job (Common (WriteFault target)) → ⊥
  no_write target (inl h) = job_no_write job target h
  no_write target (inr h) = part_no_write (sample_size part) target h

  pub unwritten_files : (e : SheetFault) → IsOfFiles part job e → HasNoWriteFaultOf sheet_faults (Some e)
  unwritten_files (Common (WriteFault target)) h = absurd (no_write target h)
  unwritten_files (Common e) h = tt
  unwritten_files OwnJob h = tt
  unwritten_files (NoRoom lack) h = tt
  unwritten_files WriteList h = absurd h
  unwritten_files WritePlain h = absurd h

  pub undrawn_files : (e : SheetFault) → IsOfFiles part job e → IsThereOf sheet_faults (Some e) false
  undrawn_files e h = not_there (cause_of e) (unwritten_files e h)

pub answers_files : (named : Named) (e : SheetFault) → IsOfFiles named.part named.job e → AnswersSheetWords (Some (sheet named)) (Some e)
answers_files named (Common Usage) h = absurd (no_usage named.part named.job h)
answers_files named (Common Memory) h = tt
answers_files named (Common (WriteFault target)) h = absurd (no_write named.part named.job target h)
answers_files named (Common e) h = h
answers_files named OwnJob h = h
answers_files named (NoRoom lack) h = h
answers_files named WriteList h = absurd h
answers_files named WritePlain h = absurd h

-- a drawing is there after each fault of writing it
write_drawn : (named : Named) (e : SheetFault) → IsOfWriting named e → IsThereOf sheet_faults (Some e) true
write_drawn named e is = by_writing named (λ (e : SheetFault). IsThereOf sheet_faults (Some e) true) (λ target at. refl) (λ some. refl) (λ some. refl) tt e is

pub written_of : (named : Named) (fault : Option SheetFault) → IfSome fault (IsOfWriting named) → IsThereOf sheet_faults fault true
written_of named None is = refl
written_of named (Some e) is = write_drawn named e is

pub may_of : (named : Named) (fault : Option SheetFault) → IfSome fault (IsOfWriting named) → AnswersSheetWords (Some (sheet named)) fault
may_of named None is = refl
may_of named (Some e) is = by_writing named (λ (e : SheetFault). AnswersSheetWords (Some (sheet named)) (Some e)) (λ target at. at) (λ some. some) (λ some. some) tt e is

-- ---- the order of reading
pub writing_in_order : (named : Named) (files : Files) (e : SheetFault) → IsOfWriting named e → RunsInOrder (Some (sheet named)) files e
writing_in_order named files e is = by_writing named (RunsInOrder (Some (sheet named)) files) (λ target at. tt) (λ some. tt) (λ some. tt) tt e is

pub in_order : (named : Named) (files : Files) (e : SheetFault) → ReadsInOrder files named e → RunsInOrder (Some (sheet named)) files e
in_order named files (Common (ReadFault input)) h = h
in_order named files e h = tt

pub of_reading : (e : SheetFault) → cause_of e ≡ unread → IsOfReading e
of_reading (Common e) is = read_only (λ (e : Fault). IsOfReading (Common e)) (λ input. tt) e is
of_reading OwnJob is = absurd (unread_only elsewhere is)
of_reading (NoRoom lack) is = absurd (unread_only elsewhere is)
of_reading WriteList is = absurd (unread_only unwritten is)
of_reading WritePlain is = absurd (unread_only unwritten is)

-- want of memory leaves no drawing where none was made
pub undrawn_short : (asked : Option Asks) → HasDrawing asked (Some (Common Memory)) false
undrawn_short None = refl
undrawn_short (Some help) = refl
undrawn_short (Some version) = refl
undrawn_short (Some (sheet named)) = tt

-- and nothing is told beside it
pub short_told : (named : Option Named) (old : DeskState) → IsToldTo named old (Common Memory) Nothing
short_told None old = refl
short_told (Some named) old = refl
