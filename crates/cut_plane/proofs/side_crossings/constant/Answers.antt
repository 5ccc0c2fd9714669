use Rattle.std.proofs.Common.{◌≤◌, ◌^◌, arith}
use Rattle.std.specs.Prelude.{unsigned_abs}
use Rattle.std.specs.Int.{w128}
use Rattle.integers.proofs.Worth.{known, wide, fits, pass, plus, times, below_of}
use Rattle.cut_plane.proofs.side_crossings.constant.Goals as goal

pub overflow_add-result : goal.overflow_add-result
overflow_add-result c =
    let first = times (pass w128 (known c.args.a (2 ^ 44) c.requires.first) tt) (wide c.args.u (2 ^ 20) c.from.ensures c.requires.second tt) in
    let second = times (pass w128 (known c.args.b (2 ^ 44) c.requires.third) tt) (wide c.args.v (2 ^ 20) c.from-2.ensures c.requires.fourth tt) in
    fits w128 (plus (pass w128 first tt) (pass w128 second tt)) tt

pub overflow_add-result-2 : goal.overflow_add-result-2
overflow_add-result-2 c =
    let over : unsigned_abs c.args.over ≤ 2 ^ 23 = omega (arith, c.requires.sixth) in
    let first = times (pass w128 (known c.args.a (2 ^ 44) c.requires.first) tt) (wide c.args.u (2 ^ 20) c.from.ensures c.requires.second tt) in
    let second = times (pass w128 (known c.args.b (2 ^ 44) c.requires.third) tt) (wide c.args.v (2 ^ 20) c.from-2.ensures c.requires.fourth tt) in
    let third = times (wide c.args.h (2 ^ 43) c.from-3.ensures c.requires.fifth tt) (wide c.args.over (2 ^ 23) c.from-4.ensures over tt) in
    fits w128 (plus (pass w128 (plus (pass w128 first tt) (pass w128 second tt)) tt) (pass w128 third tt)) tt

pub returns-clause-value : goal.returns-clause-value
returns-clause-value c =
    let over : unsigned_abs c.args.over ≤ 2 ^ 23 = omega (arith, c.requires.sixth) in
    let first = times (pass w128 (known c.args.a (2 ^ 44) c.requires.first) tt) (wide c.args.u (2 ^ 20) c.from.ensures c.requires.second tt) in
    let second = times (pass w128 (known c.args.b (2 ^ 44) c.requires.third) tt) (wide c.args.v (2 ^ 20) c.from-2.ensures c.requires.fourth tt) in
    let third = times (wide c.args.h (2 ^ 43) c.from-3.ensures c.requires.fifth tt) (wide c.args.over (2 ^ 23) c.from-4.ensures over tt) in
    (pass w128 (plus (pass w128 (plus (pass w128 first tt) (pass w128 second tt)) tt) (pass w128 third tt)) tt).is

pub returns-clause-size : goal.returns-clause-size
returns-clause-size c =
    let over : unsigned_abs c.args.over ≤ 2 ^ 23 = omega (arith, c.requires.sixth) in
    let first = times (pass w128 (known c.args.a (2 ^ 44) c.requires.first) tt) (wide c.args.u (2 ^ 20) c.from.ensures c.requires.second tt) in
    let second = times (pass w128 (known c.args.b (2 ^ 44) c.requires.third) tt) (wide c.args.v (2 ^ 20) c.from-2.ensures c.requires.fourth tt) in
    let third = times (wide c.args.h (2 ^ 43) c.from-3.ensures c.requires.fifth tt) (wide c.args.over (2 ^ 23) c.from-4.ensures over tt) in
    below_of (2 ^ 67) (pass w128 (plus (pass w128 (plus (pass w128 first tt) (pass w128 second tt)) tt) (pass w128 third tt)) tt) tt
