use Rattle.std.proofs.Common.{◌≤◌, ◌^◌, arith}
use Rattle.std.specs.Prelude.{unsigned_abs}
use Rattle.std.specs.Int.{w128}
use Rattle.std.proofs.lemmas.Int.{ints, to_z-of_z}
use Rattle.integers.proofs.Worth.{known, below, pass, plus, times, size_of, via}
use Rattle.hatch_fill.proofs.meetings.level.Goals as goal

pub returns-clause-value : goal.returns-clause-value
returns-clause-value c =
    let l = c.args.line.now in
    let fits = c.ranges.diagonal in
    let size : unsigned_abs c.args.diagonal ≤ 2 ^ 63 = omega (arith, ints, c.ranges.diagonal.sfits) in
    let product = times (pass w128 (known l.b (2 ^ 44) l.b_in_range) tt) (pass w128 (via (simp to_z-of_z at c.from.ensures) (known c.args.diagonal (2 ^ 63) size)) tt) in
    (pass w128 (plus (pass w128 (below l.c (2 ^ 67) l.c_in_range) tt) (pass w128 product tt)) tt).is

pub returns-clause-size : goal.returns-clause-size
returns-clause-size c =
    let l = c.args.line.now in
    let fits = c.ranges.diagonal in
    let size : unsigned_abs c.args.diagonal ≤ 2 ^ 63 = omega (arith, ints, c.ranges.diagonal.sfits) in
    let product = times (pass w128 (known l.b (2 ^ 44) l.b_in_range) tt) (pass w128 (via (simp to_z-of_z at c.from.ensures) (known c.args.diagonal (2 ^ 63) size)) tt) in
    size_of (2 ^ 108) (pass w128 (plus (pass w128 (below l.c (2 ^ 67) l.c_in_range) tt) (pass w128 product tt)) tt) tt
