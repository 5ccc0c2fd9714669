use Rattle.std.proofs.Common.{◌≡◌, ◌≢◌, length, get_or, rules, arith, lit<}
use Rattle.piece_verify.proofs.Numerals.{by_empty, by_zero, by_padding, by_digits}
use Rattle.piece_verify.proofs.digits.natural.Goals as goal

pub returns-in-empty : goal.returns-in-empty
returns-in-empty c = by_empty c.args.bytes.now (omega arith)

pub returns-then-is_empty : goal.returns-then-is_empty
returns-then-is_empty c =
    let first : get_or c.args.bytes.now 0 0 ≡ 48 = cc in
    let one : length c.args.bytes.now ≡ 1 = grind arith in
    (lit< tt, by_zero c.args.bytes.now first one)

pub returns-else-is_empty : goal.returns-else-is_empty
returns-else-is_empty c =
    let first : get_or c.args.bytes.now 0 0 ≡ 48 = cc in
    let more : length c.args.bytes.now ≢ 1 = grind arith in
    by_padding c.args.bytes.now first more

pub returns-in_default : goal.returns-in_default
returns-in_default c =
    let solid : get_or c.args.bytes.now 0 0 ≢ 48 = search rules in
    rw c.read_digits.ensures (by_digits c.args.bytes.now c.in_default.len_at_least solid)
