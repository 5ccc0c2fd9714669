-- When pieces are right, and in order, for what a view shows, and hatch lines fill its section.
use Rattle.std.specs.Prelude.{◌≡◌, ℕ, List, []}
use Rattle.lattice.specs.Cuts.{Plane, plane_of, toward_of}
use Rattle.lattice.specs.Points.{of_dir}
use Rattle.lattice.specs.declared.pieces.HatchLine.{HatchLine}
use Rattle.lattice.specs.declared.pieces.Piece.{Piece}
use Rattle.lattice.specs.declared.pieces.ViewSpec.{ViewSpec}
use Rattle.lattice.specs.declared.pieces.ViewSpec.TheVariants.{Plain, Section}
use Rattle.geometry.specs.Parts.{Part}
use Rattle.geometry.specs.Pieces.{AreInOrder}
use Rattle.geometry.specs.Scenes.{AreRight, AreRightInCut}
use Rattle.hatch_fill.specs.Hatching.{IsHatching}

-- the pieces are right for what the view shows: the whole part, with the traces of these cuts, or what a cut leaves of it
abbrev pub IsRightView : ViewSpec → ℕ → Part → List Plane → List Piece → Type 0
IsRightView (Plain d) fraction s cuts pieces = AreRight (of_dir d) fraction s cuts pieces
IsRightView (Section c) fraction s cuts pieces = AreRightInCut (plane_of c) fraction s pieces

-- the pieces are in the order of the view's direction, of a cut that toward its viewer
abbrev pub IsOrderedView : ViewSpec → List Piece → Type 0
IsOrderedView (Plain d) pieces = AreInOrder (of_dir d) pieces
IsOrderedView (Section c) pieces = AreInOrder (toward_of (plane_of c)) pieces

-- the hatch lines of what the view shows: those that fill the section of a cut, and none of the whole part
abbrev pub IsHatchedView : ViewSpec → ℕ → Part → List HatchLine → Type 0
IsHatchedView (Plain d) spacing s lines = lines ≡ []
IsHatchedView (Section c) spacing s lines = IsHatching (plane_of c) s spacing lines
