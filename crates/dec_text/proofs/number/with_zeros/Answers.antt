use Rattle.std.proofs.Common.{◌≤◌, ◌^◌, arith, lit<}
use Rattle.std.proofs.Math.Nat.{pow-le-pow_right, mul-le-mul}
use Rattle.dec_text.proofs.number.with_zeros.Goals as goal

pub returns-then-zeros-gt8 : goal.returns-then-zeros-gt8
returns-then-zeros-gt8 c =
    let some : 1 ≤ c.args.value = omega arith in
    let large : 10 ^ 9 ≤ 10 ^ c.args.zeros = pow-le-pow_right {n = 10} (lit< tt) {i = 9} {j = c.args.zeros} (omega arith) in
    omega (arith, mul-le-mul some large)
