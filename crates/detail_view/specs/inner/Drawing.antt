-- What keeping a page answers and leaves.
use Rattle.std.specs.Prelude.{◌≡◌, ℕ, List, Option, Some, None}
use Rattle.desk.specs.Files.{Files, Keeps, MayKeepFront}
use Rattle.lattice.specs.declared.pieces.Piece.{Piece}
use Rattle.detail_view.specs.declared.fault.PiecesFault.{PiecesFault}
use Rattle.detail_view.specs.declared.fault.PiecesFault.TheVariants.{WriteFault, Memory}

-- what is left of the files, by the fault
abbrev pub LeavesPage : Option PiecesFault → Files → Files → List ℕ → List ℕ → Type 0
LeavesPage None old new name page = Keeps old new name page
LeavesPage (Some WriteFault) old new name page = MayKeepFront old new name page
LeavesPage (Some fault) old new name page = new ≡ old

-- the pieces are told, unless memory ran out
abbrev pub TellsPieces : List Piece → Option PiecesFault → Option (List Piece) → Type 0
TellsPieces pieces (Some Memory) told = told ≡ None
TellsPieces pieces fault told = told ≡ Some pieces
