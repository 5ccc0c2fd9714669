-- Saying the summary after the files are kept.
use Rattle.std.proofs.Common.{◌≡◌, ℕ, List, length, true, sym, ap, subst, ◌∙◌, arith}
use Rattle.std.specs.Prelude.{Option, None, Some, IfSome, IfNone}
use Rattle.std.proofs.lemmas.List.{take_all, append-nil}
use Rattle.desk.specs.Files.{Files, DeskState, OnlyReads}
use Rattle.drawing.specs.declared.drawn.Drawing.{Drawing}
use Rattle.draw_core.specs.inner.Kept.{IsOfSaying}
use Rattle.draw_core.specs.Outputs.{File, KeepsAll, LeavesAll}
use Rattle.draw_core.specs.inner.Faults.{IsWriteOutcome}
use Rattle.draw_core.specs.Summary.{Says, SaysMade, SaysSummary}
use Rattle.part_input.specs.declared.fault.Fault.{Fault}
use Rattle.part_input.specs.declared.fault.Fault.TheVariants.{WriteFault, Memory}
use Rattle.part_input.specs.declared.fault.Target.TheVariants.{Summary}

-- where nothing is said, that is so with each fault
pub says_nothing : (fault : Fault) (old new line : List ℕ) → new ≡ old → Says (Some fault) old new line
says_nothing (WriteFault Summary) old new line same = (0, same ∙ sym (append-nil old))
says_nothing e old new line same = same

-- all files stand, whatever comes of saying
leaves_whole : (fault : Fault) (old new : Files) (files : List File) → IsOfSaying fault → KeepsAll old new files → LeavesAll (Some fault) old new files
leaves_whole (WriteFault Summary) old new files of_saying kept = kept
leaves_whole Memory old new files of_saying kept = (length files, subst (KeepsAll old new) (sym (take_all (length files) files (omega arith))) kept)
leaves_whole e old new files of_saying kept = absurd of_saying

write_outcome : (fault : Fault) → IsOfSaying fault → IsWriteOutcome fault
write_outcome (WriteFault target) of_saying = tt
write_outcome Memory of_saying = tt
write_outcome e of_saying = absurd of_saying

-- what is answered where the summary was said or not
pub leaves_said : (answer : Option Fault) (old new : Files) (files : List File) → IfSome answer IsOfSaying → KeepsAll old new files → LeavesAll answer old new files
leaves_said None old new files of_saying kept = kept
leaves_said (Some fault) old new files of_saying kept = leaves_whole fault old new files of_saying kept

pub outcome_said : (answer : Option Fault) → IfSome answer IsOfSaying → IfSome answer IsWriteOutcome
outcome_said None of_saying = tt
outcome_said (Some fault) of_saying = write_outcome fault of_saying

-- ---- a whole run
pub says_made : (made : Option Drawing) (fault : Option Fault) (old between new : DeskState) → OnlyReads old between → (between.tells_said ≡ true → IfSome made (SaysSummary fault between.said new.said))
    → IfNone made (new.said ≡ between.said) → SaysMade made fault old new
says_made (Some d) fault old between new same said unsaid = λ told.
    subst (λ (w : List ℕ). SaysSummary fault w new.said d) (ap (λ (s : DeskState). s.said) same) (said (ap (λ (s : DeskState). s.tells_said) same ∙ told))
says_made None fault old between new same said unsaid = unsaid ∙ ap (λ (s : DeskState). s.said) same
