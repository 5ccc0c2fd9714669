use Rattle.std.proofs.Common.{arith}
use Rattle.piece_verify.proofs.Parts.{free-more}
use Rattle.piece_verify.proofs.split.split_at_byte.Goals as goal

pub loop-at-preserved : goal.loop-at-preserved
loop-at-preserved c = free-more c.args.byte c.args.text.now c.loop-at.at (omega arith) c.loop-at.invariant c.if-next-byte.false
