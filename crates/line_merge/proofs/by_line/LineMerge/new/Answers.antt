use Rattle.std.proofs.Common.{List, [], sym, subst, arith}
use Rattle.lattice.specs.Points.{of_dir}
use Rattle.lattice.specs.declared.pieces.Piece.{Piece}
use Rattle.line_merge.specs.declared.numbering.Numbered.{Numbered}
use Rattle.line_merge.specs.inner.Pieces.{AreUpToLine}
use Rattle.line_merge.proofs.ByLine.{none_yet}
use Rattle.line_merge.proofs.by_line.LineMerge.new.Goals as goal

pub returns-clause-taken : goal.returns-clause-taken
returns-clause-taken c d number = record {
  ends = λ k e less. absurd (omega arith);
  up_to = subst (λ (ls : List Piece). AreUpToLine (of_dir d) [] ls c.new-2.result.items 0) (sym c.new.ensures.items)
      (subst (λ (xs : List Numbered). AreUpToLine (of_dir d) [] [] xs 0) (sym c.new-2.ensures.items) (none_yet (of_dir d)));
}
