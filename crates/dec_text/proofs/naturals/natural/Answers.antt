use Rattle.std.proofs.Common.{rules}
use Rattle.dec_text.specs.Numbers.{AreDigits}
use Rattle.dec_text.proofs.Digits.{digits_size}
use Rattle.dec_text.proofs.naturals.natural.Goals as goal

pub returns-clause-size : goal.returns-clause-size
returns-clause-size c =
    let digits : AreDigits c.args.text.now = search rules in
    rw c.value_of.ensures (digits_size c.args.text.now c.args.most c.if-text-most.false digits)
