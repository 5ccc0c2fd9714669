use Rattle.std.proofs.Common.{◌^◌}
use Rattle.std.specs.Int.{w128}
use Rattle.integers.proofs.Worth.{below, fits, pass, times, plus, below_of}
use Rattle.lattice.proofs.lines.constant.Goals as goal

pub overflow_add-result : goal.overflow_add-result
overflow_add-result c =
    fits w128 (plus (pass w128 (times (pass w128 (below c.args.a (2 ^ 30) c.requires.first) tt) (pass w128 (below c.args.u (2 ^ 30) c.requires.third) tt)) tt)
    (pass w128 (times (pass w128 (below c.args.b (2 ^ 30) c.requires.second) tt) (pass w128 (below c.args.v (2 ^ 30) c.requires.fourth) tt)) tt)) tt

pub returns-clause-value : goal.returns-clause-value
returns-clause-value c =
    (pass w128 (plus (pass w128 (times (pass w128 (below c.args.a (2 ^ 30) c.requires.first) tt) (pass w128 (below c.args.u (2 ^ 30) c.requires.third) tt)) tt)
    (pass w128 (times (pass w128 (below c.args.b (2 ^ 30) c.requires.second) tt) (pass w128 (below c.args.v (2 ^ 30) c.requires.fourth) tt)) tt)) tt).is

pub returns-clause-size : goal.returns-clause-size
returns-clause-size c =
    below_of (2 ^ 62) (pass w128 (plus (pass w128 (times (pass w128 (below c.args.a (2 ^ 30) c.requires.first) tt) (pass w128 (below c.args.u (2 ^ 30) c.requires.third) tt)) tt)
    (pass w128 (times (pass w128 (below c.args.b (2 ^ 30) c.requires.second) tt) (pass w128 (below c.args.v (2 ^ 30) c.requires.fourth) tt)) tt)) tt) tt
