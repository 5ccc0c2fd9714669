use Rattle.piece_verify.proofs.Numerals.{negative_none}
use Rattle.piece_verify.proofs.digits.negative.Goals as goal

pub returns-then-size-eq0 : goal.returns-then-size-eq0
returns-then-size-eq0 c = negative_none c.args.size c.if-size-eq0.true
