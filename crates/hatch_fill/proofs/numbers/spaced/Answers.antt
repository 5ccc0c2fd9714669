use Rattle.std.proofs.Common.{◌≤◌, ◌^◌, arith}
use Rattle.std.specs.Prelude.{pos, unsigned_abs}
use Rattle.std.specs.Int.{w128}
use Rattle.std.proofs.lemmas.Int.{ints}
use Rattle.integers.proofs.Worth.{known, below, fits, pass, times, size_of, via}
use Rattle.hatch_fill.proofs.numbers.spaced.Goals as goal

pub overflow_mul-result : goal.overflow_mul-result
overflow_mul-result c =
    let size : unsigned_abs (pos c.args.spacing) ≤ 2 ^ 32 = omega (arith, ints, c.ranges.spacing) in
    fits w128 (times (pass w128 (below c.args.den (2 ^ 70) c.requires.short) tt) (pass w128 (via c.from.ensures (known (pos c.args.spacing) (2 ^ 32) size)) tt)) tt

pub returns-clause-value : goal.returns-clause-value
returns-clause-value c =
    let size : unsigned_abs (pos c.args.spacing) ≤ 2 ^ 32 = omega (arith, ints, c.ranges.spacing) in
    (pass w128 (times (pass w128 (below c.args.den (2 ^ 70) c.requires.short) tt) (pass w128 (via c.from.ensures (known (pos c.args.spacing) (2 ^ 32) size)) tt)) tt).is

pub returns-clause-size : goal.returns-clause-size
returns-clause-size c =
    let size : unsigned_abs (pos c.args.spacing) ≤ 2 ^ 32 = omega (arith, ints, c.ranges.spacing) in
    size_of (2 ^ 102) (pass w128 (times (pass w128 (below c.args.den (2 ^ 70) c.requires.short) tt) (pass w128 (via c.from.ensures (known (pos c.args.spacing) (2 ^ 32) size)) tt)) tt) tt
