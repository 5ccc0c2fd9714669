use Rattle.std.proofs.Common.{◌≡◌, take}
use Rattle.std.specs.Prelude.{count_by}
use Rattle.draw_core.specs.Summary.{is_style}
use Rattle.draw_core.proofs.summary.count_pieces.Given as goal

-- the pieces so far are counted
abbrev pub invariant-loop-piece : goal.invariant-loop-piece
invariant-loop-piece l = l.count ≡ count_by (λ piece. is_style l.style piece.style) (take l.piece-index l.pieces)
