use Rattle.std.proofs.Common.{◌≡◌, ◌++◌, map, take}
use Rattle.line_merge.specs.inner.Pieces.{piece_over}
use Rattle.line_merge.proofs.merging.add.Given as goal

abbrev pub invariant-loop-x : goal.invariant-loop-x
invariant-loop-x l = l.pieces.items ≡ l.initial.pieces.items ++ map (piece_over l.style) (take l.x-index l.intervals)
