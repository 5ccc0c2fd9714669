-- What the lines of a run tell: of files that can't be read, and where help or the version is asked for.
use Rattle.std.proofs.Common.{◌≡◌, ℕ, List, Option, None, Some, false, Ok, refl}
use Rattle.std.specs.Prelude.{IfSome}
use Rattle.desk.specs.Files.{Files, DeskState}
use Rattle.desk_reasons.specs.declared.reason.Reason.{Reason}
use Rattle.part_input.specs.declared.fault.Fault.TheVariants.{ReadFault, WriteFault, Memory}
use Rattle.part_input.specs.declared.fault.Input.{Input}
use Rattle.part_input.specs.declared.fault.Input.TheVariants.{Job, Part}
use Rattle.part_input.specs.declared.fault.Target.TheVariants.{Out}
use Rattle.put_texts.specs.Order.{aloud}
use Rattle.put_texts.specs.Puts.{IsOfTexts, one_text, told_by}
use Rattle.put_texts.proofs.Putting.{by_fault, of_one}
use Rattle.put_texts.proofs.Runs.{IsPutting}
use Rattle.sheet_input.specs.Faults.{sheet_faults}
use Rattle.sheet_core.specs.Lines.{IsLineOf, named_in}
use Rattle.sheet_core.specs.Run.{AnswersSheetWords, HasDrawing, RunsInOrder, RunsSheet, sheet_run}
use Rattle.sheet_input.specs.declared.fault.SheetFault.{SheetFault}
use Rattle.sheet_input.specs.declared.fault.SheetFault.TheVariants.{Common}
use Rattle.sheet_input.specs.declared.refusal.Told.{Told}
use Rattle.sheet_input.specs.declared.refusal.Told.TheVariants.{Nothing}
use Rattle.sheet_core.specs.Refusals.{fault_line}
use Rattle.sheet_core.specs.Unread.{AreUnreadLines, unread_line}
use Rattle.sheet_core.specs.declared.unread.UnreadLines.{UnreadLines}
use Rattle.sheet_core.specs.declared.refusals.TheConstants.{MEMORY_LINE, SAID_LINE}
use Rattle.sheet_input.specs.inner.Shortage.{short_only}
use Rattle.sheet_words.specs.Names.{Asks, Named, help, version, sheet}

-- the line of a file that can't be read, without a reason, whatever is told beside it
pub unread_told : (named : Named) (lines : UnreadLines) → AreUnreadLines named lines → (input : Input) (told : Told) → unread_line lines input ≡ fault_line (Some named) told None (Common (ReadFault input))
unread_told named lines are Job told = are.job
unread_told named lines are Part told = are.part

-- the words ask for no sheet
abbrev pub AsksToTell : Asks → Type 0
AsksToTell help = Unit {0}
AsksToTell version = Unit {0}
AsksToTell (sheet named) = ⊥

gives : (asks : Asks) → AsksToTell asks → (files : Files) → RunsSheet (Some asks) files (Ok None)
gives help is files = refl
gives version is files = refl
gives (sheet named) is files = absurd is

abbrev pub unsaid : SheetFault
unsaid = Common (WriteFault Out)

-- what holds of the fault of saying it, and of want of memory, holds of each fault of the run
module _ (bytes : List ℕ) (P : SheetFault → Type 0) (written : P unsaid) (want : P (Common Memory)) where
  each_fault : (f : SheetFault) → IsOfTexts sheet_faults (one_text aloud unsaid bytes) f → P f
  each_fault f is = by_fault sheet_faults P unsaid written (short_only P want) f (of_one sheet_faults aloud unsaid bytes f is)

module _ {D : Type 0} (of_desk : D → Option Reason) (bytes : List ℕ) where
  may : (asks : Asks) → AsksToTell asks → (fault : Option SheetFault) → IfSome fault (IsOfTexts sheet_faults (one_text aloud unsaid bytes)) → AnswersSheetWords (Some asks) fault
  may asks is None of_texts = refl
  may help is (Some f) of_texts = each_fault bytes (λ (f : SheetFault). AnswersSheetWords (Some help) (Some f)) refl tt f of_texts
  may version is (Some f) of_texts = each_fault bytes (λ (f : SheetFault). AnswersSheetWords (Some version) (Some f)) refl tt f of_texts
  may (sheet named) is (Some f) of_texts = absurd is

  undrawn : (asks : Asks) → AsksToTell asks → (fault : Option SheetFault) → HasDrawing (Some asks) fault false
  undrawn help is fault = refl
  undrawn version is fault = refl
  undrawn (sheet named) is fault = absurd is

  lines : (asks : Asks) → AsksToTell asks → (old : DeskState) (f : SheetFault) → IsOfTexts sheet_faults (one_text aloud unsaid bytes) f → IsLineOf of_desk (named_in (Some asks)) old f (told_by sheet_faults MEMORY_LINE.now SAID_LINE.now f)
  lines help is old f of_texts = each_fault bytes (λ (f : SheetFault). IsLineOf of_desk None old f (told_by sheet_faults MEMORY_LINE.now SAID_LINE.now f)) (Nothing, None, tt, refl, refl) (Nothing, None, tt, refl, refl) f of_texts
  lines version is old f of_texts = each_fault bytes (λ (f : SheetFault). IsLineOf of_desk None old f (told_by sheet_faults MEMORY_LINE.now SAID_LINE.now f)) (Nothing, None, tt, refl, refl) (Nothing, None, tt, refl, refl) f of_texts
  lines (sheet named) is old f of_texts = absurd is

  pub telling : (asks : Asks) → AsksToTell asks → (old : DeskState) → IsPutting (sheet_run of_desk (Some asks)) (one_text aloud unsaid bytes) (told_by sheet_faults MEMORY_LINE.now SAID_LINE.now) None old
  telling asks is old = record {
    gives = λ told. (None, gives asks is old.files);
    alone = λ none files. (None, gives asks is files);
    words = tt;
    part = λ told. tt;
    may = may asks is;
    order = λ f of_texts. each_fault bytes (RunsInOrder (Some asks) old.files) tt tt f of_texts;
    made = λ fault of_texts. undrawn asks is fault;
    tells = lines asks is old;
  }
