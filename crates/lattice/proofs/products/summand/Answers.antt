use Rattle.std.proofs.Common.{◌^◌}
use Rattle.std.specs.Int.{w128}
use Rattle.integers.proofs.Worth.{below, wide, fits, pass, times, size_of}
use Rattle.lattice.proofs.products.summand.Goals as goal

pub overflow_mul-result : goal.overflow_mul-result
overflow_mul-result c = fits w128 (times (wide c.args.a (2 ^ 21) c.from.ensures c.requires.first tt) (pass w128 (below c.args.b (2 ^ 92) c.requires.second) tt)) tt

pub returns-clause-value : goal.returns-clause-value
returns-clause-value c = (pass w128 (times (wide c.args.a (2 ^ 21) c.from.ensures c.requires.first tt) (pass w128 (below c.args.b (2 ^ 92) c.requires.second) tt)) tt).is

pub returns-clause-size : goal.returns-clause-size
returns-clause-size c = size_of (2 ^ 113) (pass w128 (times (wide c.args.a (2 ^ 21) c.from.ensures c.requires.first tt) (pass w128 (below c.args.b (2 ^ 92) c.requires.second) tt)) tt) tt
