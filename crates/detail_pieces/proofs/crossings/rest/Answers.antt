use Rattle.std.proofs.Common.{◌^◌}
use Rattle.std.specs.Int.{w128}
use Rattle.integers.proofs.Worth.{known, below, wide, pass, minus, times, size_of}
use Rattle.detail_pieces.proofs.crossings.rest.Goals as goal

pub returns-clause-value : goal.returns-clause-value
returns-clause-value c = (pass w128 (minus (pass w128 (below c.args.c (2 ^ 67) c.requires.first) tt) (pass w128 (times (wide c.args.at (2 ^ 40) c.from.ensures c.requires.third tt) (pass w128 (known c.args.p (2 ^ 44) c.requires.second) tt)) tt)) tt).is

pub returns-clause-size : goal.returns-clause-size
returns-clause-size c = size_of (2 ^ 86) (pass w128 (minus (pass w128 (below c.args.c (2 ^ 67) c.requires.first) tt) (pass w128 (times (wide c.args.at (2 ^ 40) c.from.ensures c.requires.third tt) (pass w128 (known c.args.p (2 ^ 44) c.requires.second) tt)) tt)) tt) tt
