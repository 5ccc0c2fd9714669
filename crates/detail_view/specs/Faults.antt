-- The status of a run, and what its faults are to the desk.
use Rattle.std.specs.Prelude.{ℕ, Option, Some, None}
use Rattle.part_input.specs.Causes.{Cause, Faults, unread, unwritten, wanting, elsewhere}
use Rattle.part_input.specs.Faults.{status_of as input_status}
use Rattle.part_input.specs.declared.fault.Fault.{Fault}
use Rattle.part_input.specs.declared.fault.Fault.TheVariants.{ReadFault, Memory as NoMemory}
use Rattle.piece_verify.specs.declared.check.Verdict.{Verdict}
use Rattle.piece_verify.specs.declared.check.Verdict.TheVariants.{Right, Stranger, Differs}
use Rattle.detail_view.specs.declared.fault.PiecesFault.{PiecesFault}
use Rattle.detail_view.specs.declared.fault.PiecesFault.TheVariants.{Usage, Input, NoView, ReadList, ListTooLong, List as Unlisted, WriteFault, Memory}

abbrev pub fault_status : PiecesFault → ℕ
fault_status Usage = 2
fault_status (Input fault) = input_status (Some fault)
fault_status (NoView view) = 3
fault_status ReadList = 7
fault_status ListTooLong = 6
fault_status (Unlisted fault) = 6
fault_status WriteFault = 8
fault_status Memory = 9

-- without a fault, 0 for a right list and 1 for any other
abbrev pub verdict_status : Option Verdict → ℕ
verdict_status None = 0
verdict_status (Some Right) = 0
verdict_status (Some (Stranger place)) = 1
verdict_status (Some (Differs view place want)) = 1

abbrev pub status_of : Option PiecesFault → Option Verdict → ℕ
status_of None verdict = verdict_status verdict
status_of (Some fault) verdict = fault_status fault

-- ---- faults of the desk
abbrev pub cause_of : PiecesFault → Cause
cause_of ReadList = unread
cause_of (Input (ReadFault input)) = unread
cause_of WriteFault = unwritten
cause_of Memory = wanting
cause_of fault = elsewhere

abbrev pub pieces_faults : Faults PiecesFault
pieces_faults = record { cause = cause_of; memory = Memory }

-- want of memory is one fault, wherever it was found
abbrev pub fault_of : Fault → PiecesFault
fault_of NoMemory = Memory
fault_of fault = Input fault

-- a fault of the job or of the part, other than want of memory
abbrev pub IsNoMemory : Fault → Type 0
IsNoMemory NoMemory = ⊥
IsNoMemory fault = Unit {0}
