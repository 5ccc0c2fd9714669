use Rattle.std.proofs.Common.{List, sym, subst}
use Rattle.std.specs.List.{All}
use Rattle.lattice.specs.Points.{of_dir}
use Rattle.lattice.specs.Lines.{AreStripEnds}
use Rattle.lattice.specs.declared.pieces.Piece.{Piece}
use Rattle.line_merge.specs.declared.numbering.Numbered.{Numbered}
use Rattle.line_merge.specs.inner.Pieces.{ArePiecesOf}
use Rattle.std.proofs.Common.{IsPermutation}
use Rattle.line_merge.proofs.Taken.{taken_ends, merged_taken}
use Rattle.line_merge.proofs.by_line.LineMerge.pieces.Goals as goal

pub add_pieces-requires : goal.add_pieces-requires
add_pieces-requires c =
    let d = of_dir c.args.d.now in
    let (number, given, taken) = c.requires in
    subst (All (λ (x : Numbered). AreStripEnds d x.strip.line x.strip.a x.strip.b)) (sym c.deref.ensures.value) (taken_ends d number given c.args.self taken)

pub returns : goal.returns
returns c number given numbering taken =
    let d = of_dir c.args.d.now in
    let (others, grown, right) = c.in_ok-add_pieces.ensures in
    merged_taken d number given c.args.self taken numbering others c.sorted.result.items (subst (λ (xs : List Numbered). ArePiecesOf d xs others) c.deref.ensures.value right)
    (subst (λ (ls : List Piece). IsPermutation ls c.sorted.result.items) grown c.sorted.ensures.same) c.sorted.ensures.sorted
