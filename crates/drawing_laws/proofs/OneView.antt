-- A view has one right drawing: two lists of pieces that are right for it, and in order, are drawn alike.
use Rattle.std.proofs.Common.{ℕ, List}
use Rattle.std.specs.List.{AllZip}
use Rattle.lattice.specs.Cuts.{Plane, toward_of}
use Rattle.lattice.specs.Points.{of_dir}
use Rattle.lattice.specs.declared.pieces.Piece.{Piece}
use Rattle.lattice.specs.declared.points.Dir.{Dir}
use Rattle.geometry.specs.Cuts.{IsDrawnInCut, IsHiddenInCut, IsOrdinaryInCut}
use Rattle.geometry.specs.Parts.{Part}
use Rattle.geometry.specs.Pieces.{AreInOrder}
use Rattle.geometry.specs.Scenes.{AreRight, AreRightInCut}
use Rattle.geometry.specs.Traces.{IsTracePoint, IsOrdinaryBeside}
use Rattle.geometry.specs.Views.{IsDrawnPoint, IsHidden}
use Rattle.drawing_laws.specs.Alike.{AreAlike}
use Rattle.drawing_laws.proofs.CutLines.{cut_sparse}
use Rattle.drawing_laws.proofs.OneList.{one_list}
use Rattle.drawing_laws.proofs.PlainLines.{plain_sparse}

pub one_plain : (d : Dir) (fraction : ℕ) (s : Part) (cuts : List Plane) (pieces others : List Piece)
    → AreRight (of_dir d) fraction s cuts pieces → AreInOrder (of_dir d) pieces → AreRight (of_dir d) fraction s cuts others → AreInOrder (of_dir d) others → AllZip (AreAlike (of_dir d)) pieces others
one_plain d fraction s cuts pieces others =
    let (lines, sparse) = plain_sparse d s cuts in
    one_list (of_dir d) (IsDrawnPoint (of_dir d) fraction s) (IsHidden (of_dir d) s) (IsTracePoint (of_dir d) s cuts) (IsOrdinaryBeside (of_dir d) s cuts) lines sparse pieces others

pub one_cut : (c : Plane) (fraction : ℕ) (s : Part) (pieces others : List Piece)
    → AreRightInCut c fraction s pieces → AreInOrder (toward_of c) pieces → AreRightInCut c fraction s others → AreInOrder (toward_of c) others → AllZip (AreAlike (toward_of c)) pieces others
one_cut c fraction s pieces others =
    let (lines, sparse) = cut_sparse c s in
    one_list (toward_of c) (IsDrawnInCut c fraction s) (IsHiddenInCut c s) (λ p. ⊥) (IsOrdinaryInCut c s) lines sparse pieces others
