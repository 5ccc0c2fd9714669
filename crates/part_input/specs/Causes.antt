-- What the faults of a program are to the desk, and the counts of the faults of reading.
use Rattle.std.specs.Prelude.{◌≡◌, ℕ, Option, Some, None}
use Rattle.desk.specs.Files.{Rose}
use Rattle.part_input.specs.declared.fault.Fault.{Fault}
use Rattle.part_input.specs.declared.fault.Fault.TheVariants.{ReadFault, WriteFault, Memory}

-- what a fault is to the desk: a file couldn't be read, a text couldn't be written, no memory was found, or nothing
pub data Cause : Type 0 where
  unread : Cause
  unwritten : Cause
  wanting : Cause
  elsewhere : Cause

-- the faults of a program: what each is to the desk, and which of them is want of memory
pub record Faults (F : Type 0) : Type 0 where
  pub cause : F → Cause
  pub memory : F

-- ---- those that programs have in common
abbrev pub cause_of : Fault → Cause
cause_of (ReadFault input) = unread
cause_of (WriteFault target) = unwritten
cause_of Memory = wanting
cause_of fault = elsewhere

abbrev pub common : Faults Fault
common = record { cause = cause_of; memory = Memory }

-- ---- counts
-- the count of the faults of reading rose where one is answered, and else it stands
abbrev pub CountsRead : Cause → ℕ → ℕ → Type 0
CountsRead unread old new = Rose old new
CountsRead cause old new = new ≡ old

abbrev pub CountsReadsOf : {F : Type 0} → Faults F → Option F → ℕ → ℕ → Type 0
CountsReadsOf faults None old new = new ≡ old
CountsReadsOf faults (Some fault) old new = CountsRead (faults.cause fault) old new
