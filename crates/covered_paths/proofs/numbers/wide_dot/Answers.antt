use Rattle.std.proofs.Common.{◌^◌}
use Rattle.std.specs.Int.{w128}
use Rattle.integers.proofs.Worth.{wide, fits, pass, plus, times}
use Rattle.covered_paths.proofs.numbers.wide_dot.Goals as goal

pub overflow_add-result : goal.overflow_add-result
overflow_add-result c =
    fits w128 (plus (pass w128 (times (wide c.args.a (2 ^ 56) c.from.ensures c.requires.first tt) (wide c.args.c (2 ^ 56) c.from-2.ensures c.requires.third tt)) tt) (pass w128 (times (wide c.args.b (2 ^ 56) c.from-3.ensures c.requires.second tt) (wide c.args.d (2 ^ 56) c.from-4.ensures c.requires.fourth tt)) tt)) tt

pub returns : goal.returns
returns c =
    (pass w128 (plus (pass w128 (times (wide c.args.a (2 ^ 56) c.from.ensures c.requires.first tt) (wide c.args.c (2 ^ 56) c.from-2.ensures c.requires.third tt)) tt) (pass w128 (times (wide c.args.b (2 ^ 56) c.from-3.ensures c.requires.second tt) (wide c.args.d (2 ^ 56) c.from-4.ensures c.requires.fourth tt)) tt)) tt).is
