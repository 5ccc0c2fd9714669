-- The lines of files that can't be read, made before anything is.
use Rattle.std.specs.Prelude.{◌≡◌, ℕ, List, None, Some, string_bytes}
use Rattle.part_input.specs.declared.fault.Input.{Input}
use Rattle.part_input.specs.declared.fault.Input.TheVariants.{Job, Part}
use Rattle.part_input.specs.declared.fault.Fault.TheVariants.{ReadFault}
use Rattle.sheet_core.specs.Refusals.{common_line}
use Rattle.sheet_core.specs.declared.unread.UnreadLines.{UnreadLines}
use Rattle.sheet_input.specs.declared.refusal.Told.TheVariants.{Nothing}
use Rattle.sheet_words.specs.Names.{Named}

abbrev pub unread_line : UnreadLines → Input → List ℕ
unread_line lines Job = string_bytes lines.job
unread_line lines Part = string_bytes lines.part

-- each is that of its fault, with these names and without a reason
pub record AreUnreadLines (named : Named) (lines : UnreadLines) : Type 0 where
  pub job : unread_line lines Job ≡ common_line (Some named) Nothing None (ReadFault Job)
  pub part : unread_line lines Part ≡ common_line (Some named) Nothing None (ReadFault Part)
