use Rattle.std.proofs.Common.{◌-◌, drop, length, sym, lit<, arith}
use Rattle.std.proofs.Math.Nat.{one-le-pow}
use Rattle.dec_text.proofs.Digits.{digits-take, digits-drop, digits-append}
use Rattle.dec_text.proofs.Rests.{whole_drop, rest_parts, rest_small}
use Rattle.dec_text.proofs.number.rest.Goals as goal

pub carried-behind-requires-clause-digits : goal.carried-behind-requires-clause-digits
carried-behind-requires-clause-digits c =
    digits-take (length c.args.fraction.now - c.min-second.result) (drop c.min-second.result c.args.fraction.now) (digits-drop c.min-second.result c.args.fraction.now c.requires.fraction)

pub carried-carry-requires-clause-digits : goal.carried-carry-requires-clause-digits
carried-carry-requires-clause-digits c =
    digits-take (length c.args.whole.now - c.min.result) (drop c.min.result c.args.whole.now) (digits-drop c.min.result c.args.whole.now c.requires.whole)

pub nonzero_div-result : goal.nonzero_div-result
nonzero_div-result c = rw c.pow.ensures (one-le-pow c.args.lead 10 (lit< tt))

pub returns-then-lead-gt2-clause-value : goal.returns-then-lead-gt2-clause-value
returns-then-lead-gt2-clause-value c =
    sym (rest_small c.args.factor _ c.args.count c.args.lead (digits-append c.args.whole.now c.args.fraction.now c.requires.whole c.requires.fraction) c.requires.factor.1 (omega (arith, c.if-lead-gt2.true)))

pub returns-else-lead-gt2-clause-value : goal.returns-else-lead-gt2-clause-value
returns-else-lead-gt2-clause-value c =
    rw c.pow.ensures (rest_parts c.args.factor c.args.whole.now c.args.fraction.now c.args.count c.min.result c.min-second.result c.carried-behind.result c.carried-carry.result c.args.lead
    c.min.ensures (rw c.saturating_sub.ensures at c.min-second.ensures)
    (rw (whole_drop c.min-second.result c.args.fraction.now) at c.carried-behind.ensures.value)
    (rw (whole_drop c.min.result c.args.whole.now) at c.carried-carry.ensures.value))
