use Rattle.std.proofs.Common.{◌^◌}
use Rattle.std.specs.Int.{w128}
use Rattle.integers.proofs.Worth.{known, below, fits, pass, plus, times, below_of}
use Rattle.cut_plane.proofs.parity.summed.Goals as goal

pub overflow_add-result : goal.overflow_add-result
overflow_add-result c =
    let first = times (pass w128 (known c.args.a (2 ^ 44) c.requires.first) tt) (pass w128 (below c.args.u (2 ^ 70) c.requires.second) tt) in
    let second = times (pass w128 (known c.args.b (2 ^ 44) c.requires.third) tt) (pass w128 (below c.args.v (2 ^ 70) c.requires.fourth) tt) in
    fits w128 (plus (pass w128 first tt) (pass w128 second tt)) tt

pub returns-clause-value : goal.returns-clause-value
returns-clause-value c =
    let first = times (pass w128 (known c.args.a (2 ^ 44) c.requires.first) tt) (pass w128 (below c.args.u (2 ^ 70) c.requires.second) tt) in
    let second = times (pass w128 (known c.args.b (2 ^ 44) c.requires.third) tt) (pass w128 (below c.args.v (2 ^ 70) c.requires.fourth) tt) in
    (pass w128 (plus (pass w128 first tt) (pass w128 second tt)) tt).is

pub returns-clause-size : goal.returns-clause-size
returns-clause-size c =
    let first = times (pass w128 (known c.args.a (2 ^ 44) c.requires.first) tt) (pass w128 (below c.args.u (2 ^ 70) c.requires.second) tt) in
    let second = times (pass w128 (known c.args.b (2 ^ 44) c.requires.third) tt) (pass w128 (below c.args.v (2 ^ 70) c.requires.fourth) tt) in
    below_of (2 ^ 116) (pass w128 (plus (pass w128 first tt) (pass w128 second tt)) tt) tt
