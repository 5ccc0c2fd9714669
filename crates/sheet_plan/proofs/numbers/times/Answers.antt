use Rattle.std.proofs.Common.{◌^◌}
use Rattle.std.specs.Int.{w128}
use Rattle.integers.proofs.Worth.{fits, times, pass, known, below, size_of}
use Rattle.sheet_plan.proofs.numbers.times.Goals as goal

pub overflow_mul-result : goal.overflow_mul-result
overflow_mul-result c = fits w128 (times (pass w128 (known c.args.a (2 ^ 44) c.requires.first) tt) (pass w128 (below c.args.b (2 ^ 70) c.requires.second) tt)) tt

pub returns-clause-value : goal.returns-clause-value
returns-clause-value c = (pass w128 (times (pass w128 (known c.args.a (2 ^ 44) c.requires.first) tt) (pass w128 (below c.args.b (2 ^ 70) c.requires.second) tt)) tt).is

pub returns-clause-size : goal.returns-clause-size
returns-clause-size c = size_of (2 ^ 114) (pass w128 (times (pass w128 (known c.args.a (2 ^ 44) c.requires.first) tt) (pass w128 (below c.args.b (2 ^ 70) c.requires.second) tt)) tt) tt
