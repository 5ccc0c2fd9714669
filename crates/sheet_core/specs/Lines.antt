-- The line that tells a fault.
use Rattle.std.specs.Prelude.{◌≡◌, ℕ, List, Option, Some, None}
use Rattle.desk.specs.Files.{DeskState}
use Rattle.desk_reasons.specs.Reasons.{MayGive}
use Rattle.desk_reasons.specs.declared.reason.Reason.{Reason}
use Rattle.put_texts.specs.Reasoned.{IsLineWith}
use Rattle.sheet_core.specs.Refusals.{fault_line}
use Rattle.sheet_input.specs.Places.{IsToldFor}
use Rattle.sheet_input.specs.declared.fault.SheetFault.{SheetFault}
use Rattle.sheet_input.specs.declared.refusal.Told.{Told}
use Rattle.sheet_input.specs.declared.refusal.Told.TheVariants.{Nothing}
use Rattle.sheet_words.specs.Names.{Asks, Named, help, version, sheet}

-- the names that the words give, where they ask for a sheet
abbrev pub named_in : Option Asks → Option Named
named_in (Some (sheet named)) = Some named
named_in (Some help) = None
named_in (Some version) = None
named_in None = None

-- what the line tells beside a fault: of a run with names what is told for it, and else nothing
abbrev pub IsToldTo : Option Named → DeskState → SheetFault → Told → Type 0
IsToldTo None old fault told = told ≡ Nothing
IsToldTo (Some named) old fault told = IsToldFor named old fault told

-- The line tells the fault, and what is told beside it. That of a file which couldn't be read or written says a reason that desks of
-- this kind may give, or none.
abbrev pub IsLineOf : {D : Type 0} → (D → Option Reason) → Option Named → DeskState → SheetFault → List ℕ → Type 0
IsLineOf of_desk named = IsLineWith (MayGive of_desk) (IsToldTo named) (fault_line named)
