-- A run that is asked for help or the version: what it says.
use Rattle.std.proofs.Common.{ℕ, List, Option, None, Some, false, Ok, refl}
use Rattle.std.specs.Prelude.{IfSome}
use Rattle.desk.specs.Files.{Files, DeskState}
use Rattle.desk_reasons.specs.declared.reason.Reason.{Reason}
use Rattle.mend_core.specs.Hints.{IsLineOf, named_in}
use Rattle.mend_core.specs.Run.{AnswersMendWords, HasMended, RunsInOrder, RunsMend, mend_run}
use Rattle.mend_core.specs.declared.lines.TheConstants.{MEMORY_LINE, SAID_LINE}
use Rattle.mend_words.specs.Names.{Asks, help, version, mend}
use Rattle.part_input.specs.Causes.{common}
use Rattle.part_input.specs.declared.fault.Fault.{Fault}
use Rattle.part_input.specs.declared.fault.Fault.TheVariants.{WriteFault, Memory}
use Rattle.part_input.specs.declared.fault.Target.TheVariants.{Out}
use Rattle.part_input.proofs.Causes.{memory_only}
use Rattle.part_lines.specs.declared.hint.PartHint.TheVariants.{Nothing}
use Rattle.put_texts.specs.Order.{aloud}
use Rattle.put_texts.specs.Puts.{IsOfTexts, one_text, told_by}
use Rattle.put_texts.proofs.Putting.{by_fault, of_one}
use Rattle.put_texts.proofs.Runs.{IsPutting}

-- the words ask for no part
abbrev pub AsksToTell : Asks → Type 0
AsksToTell help = Unit {0}
AsksToTell version = Unit {0}
AsksToTell (mend named) = ⊥

gives : (asks : Asks) → AsksToTell asks → (files : Files) → RunsMend (Some asks) files (Ok None)
gives help is files = refl
gives version is files = refl
gives (mend named) is files = absurd is

-- what holds of the fault of saying it, and of want of memory, holds of each fault of the run
module _ (bytes : List ℕ) (P : Fault → Type 0) (written : P (WriteFault Out)) (want : P Memory) where
  each_fault : (f : Fault) → IsOfTexts common (one_text aloud (WriteFault Out) bytes) f → P f
  each_fault f is = by_fault common P (WriteFault Out) written (memory_only P want) f (of_one common aloud (WriteFault Out) bytes f is)

module _ {D : Type 0} (of_desk : D → Option Reason) (bytes : List ℕ) where
  may : (asks : Asks) → AsksToTell asks → (fault : Option Fault) → IfSome fault (IsOfTexts common (one_text aloud (WriteFault Out) bytes)) → AnswersMendWords (Some asks) fault
  may asks is None of_texts = refl
  may help is (Some f) of_texts = each_fault bytes (λ (f : Fault). AnswersMendWords (Some help) (Some f)) refl tt f of_texts
  may version is (Some f) of_texts = each_fault bytes (λ (f : Fault). AnswersMendWords (Some version) (Some f)) refl tt f of_texts
  may (mend named) is (Some f) of_texts = absurd is

  unmade : (asks : Asks) → AsksToTell asks → (fault : Option Fault) → HasMended (Some asks) fault false
  unmade help is fault = refl
  unmade version is fault = refl
  unmade (mend named) is fault = absurd is

  lines : (asks : Asks) → AsksToTell asks → (old : DeskState) (f : Fault) → IsOfTexts common (one_text aloud (WriteFault Out) bytes) f → IsLineOf of_desk (named_in (Some asks)) old f (told_by common MEMORY_LINE.now SAID_LINE.now f)
  lines help is old f of_texts = each_fault bytes (λ (f : Fault). IsLineOf of_desk None old f (told_by common MEMORY_LINE.now SAID_LINE.now f)) (Nothing, None, tt, refl, refl) (Nothing, None, tt, refl, refl) f of_texts
  lines version is old f of_texts = each_fault bytes (λ (f : Fault). IsLineOf of_desk None old f (told_by common MEMORY_LINE.now SAID_LINE.now f)) (Nothing, None, tt, refl, refl) (Nothing, None, tt, refl, refl) f of_texts
  lines (mend named) is old f of_texts = absurd is

  pub telling : (asks : Asks) → AsksToTell asks → (old : DeskState) → IsPutting (mend_run of_desk (Some asks)) (one_text aloud (WriteFault Out) bytes) (told_by common MEMORY_LINE.now SAID_LINE.now) None old
  telling asks is old = record {
    gives = λ told. (None, gives asks is old.files);
    alone = λ none files. (None, gives asks is files);
    words = tt;
    part = λ told. tt;
    may = may asks is;
    order = λ f of_texts. each_fault bytes (RunsInOrder (Some asks)) tt tt f of_texts;
    made = λ fault of_texts. unmade asks is fault;
    tells = lines asks is old;
  }
