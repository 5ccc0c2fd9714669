-- What the faults of a run of `sheet` are to its desk, and its status with them.
use Rattle.std.specs.Prelude.{ℕ, Option, None, Some}
use Rattle.part_input.specs.Causes.{Cause, Faults, unwritten, elsewhere, cause_of as common_cause}
use Rattle.part_input.specs.Faults.{status_of as common_status}
use Rattle.part_input.specs.declared.fault.Fault.TheVariants.{Memory, WriteFault}
use Rattle.part_input.specs.declared.fault.Target.TheVariants as target
use Rattle.sheet_input.specs.declared.fault.SheetFault.{SheetFault}
use Rattle.sheet_input.specs.declared.fault.SheetFault.TheVariants.{Common, OwnJob, NoRoom, WriteList, WritePlain}
use Rattle.sheet_input.specs.declared.fault.SheetTarget.{SheetTarget}
use Rattle.sheet_input.specs.declared.fault.SheetTarget.TheVariants.{Page, Listing, PlainJob, Summary}

abbrev pub status_of : Option SheetFault → ℕ
status_of None = 0
status_of (Some (Common fault)) = common_status (Some fault)
status_of (Some OwnJob) = 3
status_of (Some (NoRoom lack)) = 6
status_of (Some WriteList) = 8
status_of (Some WritePlain) = 8

abbrev pub cause_of : SheetFault → Cause
cause_of (Common fault) = common_cause fault
cause_of OwnJob = elsewhere
cause_of (NoRoom lack) = elsewhere
cause_of WriteList = unwritten
cause_of WritePlain = unwritten

abbrev pub sheet_faults : Faults SheetFault
sheet_faults = record { cause = cause_of; memory = Common Memory }

-- the fault of writing what goes to a target
abbrev pub unwritten_of : SheetTarget → SheetFault
unwritten_of Page = Common (WriteFault target.Out)
unwritten_of Listing = WriteList
unwritten_of PlainJob = WritePlain
unwritten_of Summary = Common (WriteFault target.Summary)
