use Rattle.std.proofs.Common.{◌^◌}
use Rattle.std.specs.Int.{w128}
use Rattle.integers.proofs.Worth.{known, wide, fits, pass, plus, times, size_of}
use Rattle.cut_plane.proofs.places.change.Goals as goal

pub overflow_add-result : goal.overflow_add-result
overflow_add-result c =
    let line = c.args.line.now in
    let first = times (pass w128 (known line.a (2 ^ 44) line.a_in_range) tt) (wide c.args.u (2 ^ 21) c.from.ensures c.requires.first tt) in
    let second = times (pass w128 (known line.b (2 ^ 44) line.b_in_range) tt) (wide c.args.v (2 ^ 21) c.from-2.ensures c.requires.second tt) in
    fits w128 (plus (pass w128 first tt) (pass w128 second tt)) tt

pub returns-clause-value : goal.returns-clause-value
returns-clause-value c =
    let line = c.args.line.now in
    let first = times (pass w128 (known line.a (2 ^ 44) line.a_in_range) tt) (wide c.args.u (2 ^ 21) c.from.ensures c.requires.first tt) in
    let second = times (pass w128 (known line.b (2 ^ 44) line.b_in_range) tt) (wide c.args.v (2 ^ 21) c.from-2.ensures c.requires.second tt) in
    (pass w128 (plus (pass w128 first tt) (pass w128 second tt)) tt).is

pub returns-clause-size : goal.returns-clause-size
returns-clause-size c =
    let line = c.args.line.now in
    let first = times (pass w128 (known line.a (2 ^ 44) line.a_in_range) tt) (wide c.args.u (2 ^ 21) c.from.ensures c.requires.first tt) in
    let second = times (pass w128 (known line.b (2 ^ 44) line.b_in_range) tt) (wide c.args.v (2 ^ 21) c.from-2.ensures c.requires.second tt) in
    size_of (2 ^ 66) (pass w128 (plus (pass w128 first tt) (pass w128 second tt)) tt) tt
