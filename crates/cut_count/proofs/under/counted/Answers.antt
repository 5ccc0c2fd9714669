use Rattle.std.proofs.Common.{◌<◌, ◌≤◌, ◌^◌, arith}
use Rattle.std.specs.Prelude.{ℤ, unsigned_abs}
use Rattle.std.specs.Int.{w128}
use Rattle.integers.proofs.Worth.{known, wide, fits, pass, times, size_of}
use Rattle.cut_count.proofs.under.counted.Goals as goal

height : (z : ℤ) → unsigned_abs z < 2 ^ 23 → unsigned_abs z ≤ 2 ^ 23
height z h = omega arith

pub overflow_mul-result : goal.overflow_mul-result
overflow_mul-result c =
    let over = wide c.args.over (2 ^ 23) c.from.ensures (height c.args.over c.requires.first) tt in
    fits w128 (times over (pass w128 (known c.args.turn (2 ^ 93) c.requires.second) tt)) tt

pub returns-clause-value : goal.returns-clause-value
returns-clause-value c =
    let over = wide c.args.over (2 ^ 23) c.from.ensures (height c.args.over c.requires.first) tt in
    (pass w128 (times over (pass w128 (known c.args.turn (2 ^ 93) c.requires.second) tt)) tt).is

pub returns-clause-size : goal.returns-clause-size
returns-clause-size c =
    let over = wide c.args.over (2 ^ 23) c.from.ensures (height c.args.over c.requires.first) tt in
    size_of (2 ^ 116) (pass w128 (times over (pass w128 (known c.args.turn (2 ^ 93) c.requires.second) tt)) tt) tt
