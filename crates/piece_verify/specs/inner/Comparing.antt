-- Where entries first do not stand for pieces.
use Rattle.std.specs.Prelude.{ℕ, ◌≤◌, List, length, take, slice_get}
use Rattle.std.specs.List.{AllZip}
use Rattle.lattice.specs.declared.pieces.Piece.{Piece}
use Rattle.lattice.specs.Triple.{Triple}
use Rattle.piece_verify.specs.declared.line.Entry.{Entry}
use Rattle.piece_verify.specs.Stands.{StandsFor, AgreeAt}

-- they stand for each other before the place, and not there
pub record IsFirstUnlike (d : Triple) (given : List Entry) (pieces : List Piece) (place : ℕ) : Type 0 where
  pub within : place ≤ length given
  pub agrees : AllZip (StandsFor d) (take place given) (take place pieces)
  pub lacks : ¬ AgreeAt d (slice_get given place) (slice_get pieces place)
