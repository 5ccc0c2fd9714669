use Rattle.std.proofs.Common.{◌*◌, ◌≤◌, ◌^◌, arith}
use Rattle.std.specs.Prelude.{ℤ, unsigned_abs}
use Rattle.std.specs.Int.{w32, w64, w128}
use Rattle.integers.proofs.Worth.{known, via, fits, pass, minus, times, size_of}
use Rattle.cut_count.proofs.sights.short_of.Goals as goal

coordinate : (x w : ℤ) → unsigned_abs x ≤ 2 ^ 21 * unsigned_abs w → unsigned_abs w ≤ 2 ^ 24 → unsigned_abs x ≤ 2 ^ 45
coordinate x w h k = omega arith

pub overflow_sub-result : goal.overflow_sub-result
overflow_sub-result c =
    let x = pass w128 (known c.args.x (2 ^ 45) (coordinate c.args.x c.args.w c.requires.near c.requires.divisor)) tt in
    let k = pass w128 (via c.from.ensures (pass w32 (known c.args.k (2 ^ 20) c.requires.small) tt)) tt in
    fits w128 (minus x (pass w128 (times (pass w128 (known c.args.w (2 ^ 24) c.requires.divisor) tt) k) tt)) tt

pub overflow_cast-result : goal.overflow_cast-result
overflow_cast-result c =
    let x = pass w128 (known c.args.x (2 ^ 45) (coordinate c.args.x c.args.w c.requires.near c.requires.divisor)) tt in
    let k = pass w128 (via c.from.ensures (pass w32 (known c.args.k (2 ^ 20) c.requires.small) tt)) tt in
    fits w64 (pass w128 (minus x (pass w128 (times (pass w128 (known c.args.w (2 ^ 24) c.requires.divisor) tt) k) tt)) tt) tt

pub returns-clause-value : goal.returns-clause-value
returns-clause-value c =
    let x = pass w128 (known c.args.x (2 ^ 45) (coordinate c.args.x c.args.w c.requires.near c.requires.divisor)) tt in
    let k = pass w128 (via c.from.ensures (pass w32 (known c.args.k (2 ^ 20) c.requires.small) tt)) tt in
    (pass w64 (pass w128 (minus x (pass w128 (times (pass w128 (known c.args.w (2 ^ 24) c.requires.divisor) tt) k) tt)) tt) tt).is

pub returns-clause-size : goal.returns-clause-size
returns-clause-size c =
    let x = pass w128 (known c.args.x (2 ^ 45) (coordinate c.args.x c.args.w c.requires.near c.requires.divisor)) tt in
    let k = pass w128 (via c.from.ensures (pass w32 (known c.args.k (2 ^ 20) c.requires.small) tt)) tt in
    size_of (2 ^ 46) (pass w64 (pass w128 (minus x (pass w128 (times (pass w128 (known c.args.w (2 ^ 24) c.requires.divisor) tt) k) tt)) tt) tt) tt
