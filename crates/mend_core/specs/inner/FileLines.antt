-- The lines of files that can't be read or written, made before anything is.
use Rattle.std.specs.Prelude.{◌≡◌, None, Some, string_bytes}
use Rattle.mend_core.specs.Lines.{mend_line}
use Rattle.mend_core.specs.declared.file_lines.FileLines.{FileLines}
use Rattle.mend_words.specs.Names.{Named}
use Rattle.part_input.specs.declared.fault.Fault.TheVariants.{ReadFault, WriteFault}
use Rattle.part_input.specs.declared.fault.Input.TheVariants.{Part}
use Rattle.part_input.specs.declared.fault.Target.TheVariants.{Out}
use Rattle.part_lines.specs.declared.hint.PartHint.TheVariants.{Nothing}

-- each is that of its fault, with these names and without a reason
pub record AreFileLines (named : Named) (lines : FileLines) : Type 0 where
  pub unread : string_bytes lines.unread ≡ mend_line (Some named) Nothing None (ReadFault Part)
  pub unwritten : string_bytes lines.unwritten ≡ mend_line (Some named) Nothing None (WriteFault Out)
