use Rattle.std.proofs.Common.{◌<◌, ◌^◌, arith}
use Rattle.dec_text.proofs.Digits.{front_size}
use Rattle.dec_text.proofs.naturals.value_of.Goals as goal

pub overflow_mul-value : goal.overflow_mul-value
overflow_mul-value c =
    let size : c.loop-digit.value < 10 ^ 13 = rw c.loop-digit.invariant.value (front_size c.args.digits.now c.loop-digit.digit-index c.requires.few c.requires.digits) in
    omega (arith, size)

pub overflow_add-value : goal.overflow_add-value
overflow_add-value c =
    let size : c.loop-digit.value < 10 ^ 13 = rw c.loop-digit.invariant.value (front_size c.args.digits.now c.loop-digit.digit-index c.requires.few c.requires.digits) in
    let digit = c.type_inv.digits c.loop-digit.digit-index in
    omega (arith, size, digit)
