use Rattle.std.proofs.Common.{◌+◌, arith}
use Rattle.std.proofs.lemmas.List.Sums.{fold_more}
use Rattle.dec_text.proofs.Digits.{more, fold_front}
use Rattle.dec_text.proofs.number.with_digits.Goals as goal

pub returns-then-value-ge-TENTHS_END : goal.returns-then-value-ge-TENTHS_END
returns-then-value-ge-TENTHS_END c =
    omega (arith, fold_more more c.args.before c.args.digits.now c.loop-digit.digit-index 0, fold_front c.args.digits.now (c.loop-digit.digit-index + 1) c.args.before)
