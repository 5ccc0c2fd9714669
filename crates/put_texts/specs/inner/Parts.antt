-- What one text leaves, by the fault of putting it: whole with none, and else in part.
use Rattle.std.specs.Prelude.{ℕ, List, Option, None, Some}
use Rattle.desk.specs.Files.{Files}
use Rattle.part_input.specs.Causes.{Faults}
use Rattle.put_texts.specs.Order.{Way, KeepsText, KeepsTextPart, SaysText, SaysTextPart}

abbrev pub KeepsBy : {F : Type 0} → Faults F → Way → List ℕ → Option F → Files → Files → Type 0
KeepsBy faults way bytes None old new = KeepsText way bytes old new
KeepsBy faults way bytes (Some fault) old new = KeepsTextPart way (faults.cause fault) bytes old new

abbrev pub SaysBy : {F : Type 0} → Faults F → Way → List ℕ → Option F → List ℕ → List ℕ → Type 0
SaysBy faults way bytes None old new = SaysText way bytes old new
SaysBy faults way bytes (Some fault) old new = SaysTextPart way (faults.cause fault) bytes old new
