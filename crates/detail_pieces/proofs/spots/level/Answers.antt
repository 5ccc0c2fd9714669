use Rattle.std.proofs.Common.{◌^◌}
use Rattle.std.specs.Int.{w128}
use Rattle.integers.proofs.Worth.{known, pass, times, size_of}
use Rattle.detail_pieces.proofs.spots.level.Goals as goal

pub returns-clause-value : goal.returns-clause-value
returns-clause-value c = (pass w128 (times (pass w128 (known c.args.across (2 ^ 86) c.requires.first) tt) (pass w128 (known c.args.square 243 c.requires.second) tt)) tt).is

pub returns-clause-size : goal.returns-clause-size
returns-clause-size c = size_of (2 ^ 94) (pass w128 (times (pass w128 (known c.args.across (2 ^ 86) c.requires.first) tt) (pass w128 (known c.args.square 243 c.requires.second) tt)) tt) tt
