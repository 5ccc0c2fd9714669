-- What single steps of a check answer.
use Rattle.std.specs.Prelude.{◌≡◌, List, Option, Some, None, Result, Ok, Err}
use Rattle.std.specs.List.{AllZip}
use Rattle.desk.specs.Files.{Files}
use Rattle.job_file.specs.Documents.{JobValues}
use Rattle.geometry.specs.Parts.{Part}
use Rattle.sheet_plan.specs.declared.sheet.Stroke.{Stroke}
use Rattle.piece_verify.specs.ListLines.{IsEntryOf}
use Rattle.piece_verify.specs.declared.check.Verdict.{Verdict}
use Rattle.piece_verify.specs.declared.list.PieceList.{PieceList}
use Rattle.part_input.specs.Parts.{sample_size}
use Rattle.part_input.specs.declared.fault.Fault.TheVariants.{ReadFault}
use Rattle.detail_view.specs.Run.{Given, TakesPart, IsVerdictOf}
use Rattle.detail_view.specs.inner.Steps.{Refuses}
use Rattle.detail_view.specs.Words.{Check}
use Rattle.detail_view.specs.declared.fault.PiecesFault.{PiecesFault}
use Rattle.detail_view.specs.declared.fault.PiecesFault.TheVariants.{Input, ReadList, WriteFault, Memory}

-- the list has entries of the strokes that the steps give
abbrev pub GivesEntries : (Result (List Stroke) PiecesFault → Type 0) → Result PieceList PiecesFault → Type 0
GivesEntries steps (Ok list) = (strokes : List Stroke) × steps (Ok strokes) × AllZip IsEntryOf strokes list.entries.items
GivesEntries steps (Err e) = Refuses steps e

-- the verdict is that on what the steps give
abbrev pub Judges : (Result Given PiecesFault → Type 0) → Result Verdict PiecesFault → Type 0
Judges steps (Ok v) = IsVerdictOf steps v
Judges steps (Err e) = Refuses steps e

-- a fault of reading, once the job was taken: of a part that isn't a sample, or of the list once the part was taken
abbrev pub ComesAfterJob : Files → Check → JobValues → PiecesFault → Type 0
ComesAfterJob files c job (Input (ReadFault input)) = sample_size c.part ≡ None
ComesAfterJob files c job ReadList = (part : Part) × TakesPart files c.part job (Ok part)
ComesAfterJob files c job fault = Unit {0}

-- the faults of saying
abbrev pub IsOfSaying : PiecesFault → Type 0
IsOfSaying WriteFault = Unit {0}
IsOfSaying Memory = Unit {0}
IsOfSaying fault = ⊥

-- a verdict that was said is told, and no other
abbrev pub Tells : Verdict → Option PiecesFault → Option Verdict → Type 0
Tells v None told = told ≡ Some v
Tells v (Some fault) told = told ≡ None
