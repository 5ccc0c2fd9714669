-- What single steps of a run refuse and count, with the faults of `pieces`.
use Rattle.std.specs.Prelude.{ℕ, Option, Result, Ok, Err}
use Rattle.part_input.specs.Causes.{CountsReadsOf}
use Rattle.part_input.specs.Steps.{IsMissingOf, RefusesOf}
use Rattle.put_texts.specs.Faults.{CountsWritesOf, HasNoWriteFaultOf}
use Rattle.detail_view.specs.Faults.{pieces_faults}
use Rattle.detail_view.specs.declared.fault.PiecesFault.{PiecesFault}

abbrev pub Refuses : {A : Type 0} → (Result A PiecesFault → Type 0) → PiecesFault → Type 0
Refuses steps e = RefusesOf pieces_faults steps e

abbrev pub IsMissing : {A : Type 0} → (Result A PiecesFault → Type 0) → PiecesFault → Type 0
IsMissing steps e = IsMissingOf pieces_faults steps e

-- a step's result, seen by view
abbrev pub GivesPieces : {X Y : Type 0} → (X → Y) → (Result Y PiecesFault → Type 0) → Result X PiecesFault → Type 0
GivesPieces view steps (Ok x) = steps (Ok (view x))
GivesPieces view steps (Err e) = Refuses steps e

-- ---- counts
abbrev pub CountsReads : Option PiecesFault → ℕ → ℕ → Type 0
CountsReads fault old new = CountsReadsOf pieces_faults fault old new

abbrev pub CountsWrites : Option PiecesFault → ℕ → ℕ → Type 0
CountsWrites fault old new = CountsWritesOf pieces_faults fault old new

abbrev pub HasNoWriteFault : Option PiecesFault → Type 0
HasNoWriteFault fault = HasNoWriteFaultOf pieces_faults fault
