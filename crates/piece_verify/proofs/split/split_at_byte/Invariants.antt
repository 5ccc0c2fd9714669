use Rattle.std.proofs.Common.{take}
use Rattle.piece_verify.specs.Columns.{IsFree}
use Rattle.piece_verify.proofs.split.split_at_byte.Given as goal

abbrev pub invariant-loop-at : goal.invariant-loop-at
invariant-loop-at l = IsFree l.byte (take l.at l.text)
