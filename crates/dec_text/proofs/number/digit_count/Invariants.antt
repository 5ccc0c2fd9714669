use Rattle.std.proofs.Common.{take}
use Rattle.dec_text.specs.Numbers.{AreDigits}
use Rattle.dec_text.proofs.number.digit_count.Given as goal

abbrev pub invariant-loop-at : goal.invariant-loop-at
invariant-loop-at l = AreDigits (take l.at l.text)
