-- Pieces that are drawn alike.
use Rattle.std.specs.Prelude.{◌≡◌}
use Rattle.lattice.specs.declared.pieces.Piece.{Piece}
use Rattle.lattice.specs.Points.{of_spot, OnOneSight}
use Rattle.lattice.specs.Triple.{Triple}

-- two pieces of one style, between the same points of the view
pub record AreAlike (d : Triple) (l m : Piece) : Type 0 where
  pub style : l.style ≡ m.style
  pub a : OnOneSight d (of_spot l.a) (of_spot m.a)
  pub b : OnOneSight d (of_spot l.b) (of_spot m.b)
