use Rattle.std.proofs.Common.{◌^◌}
use Rattle.std.specs.Int.{w128}
use Rattle.integers.proofs.Worth.{known, wide, pass, size_of, times}
use Rattle.covered_paths.proofs.numbers.widest.Goals as goal

pub returns-clause-value : goal.returns-clause-value
returns-clause-value c = (pass w128 (times (pass w128 (known c.args.most (2 ^ 86) c.requires.first) tt) (wide c.args.long (2 ^ 37) c.from.ensures c.requires.second tt)) tt).is

pub returns-clause-size : goal.returns-clause-size
returns-clause-size c = size_of (2 ^ 123) (pass w128 (times (pass w128 (known c.args.most (2 ^ 86) c.requires.first) tt) (wide c.args.long (2 ^ 37) c.from.ensures c.requires.second tt)) tt) tt
