-- Texts that are put by lines that say the system's reason, if it is known and the line finds memory.
use Rattle.std.specs.Prelude.{List, Option, Some}
use Rattle.desk.specs.Files.{DeskState}
use Rattle.desk_reasons.specs.Reasons.{MayGive}
use Rattle.desk_reasons.specs.declared.reason.Reason.{Reason}
use Rattle.put_texts.specs.Order.{Text}
use Rattle.put_texts.specs.Reasoned as reasoned
use Rattle.sheet_core.specs.Refusals.{fault_line}
use Rattle.sheet_input.specs.Faults.{sheet_faults}
use Rattle.sheet_input.specs.declared.fault.SheetFault.{SheetFault}
use Rattle.sheet_input.specs.declared.refusal.Told.TheVariants.{Nothing}
use Rattle.sheet_words.specs.Names.{Named}

-- the texts are put in order, as far as the fault allows, of which it is warned by its line, with a reason that desks of this kind may give
abbrev pub IsPutWith : {D : Type 0} → (D → Option Reason) → Named → List (Text SheetFault) → Option SheetFault → DeskState → DeskState → Type 0
IsPutWith of_desk named = reasoned.IsPutWith (MayGive of_desk) sheet_faults (fault_line (Some named) Nothing)
