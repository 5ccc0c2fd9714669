use Rattle.std.proofs.Common.{◌^◌, ◌*◌}
use Rattle.std.specs.Int.{w128}
use Rattle.integers.proofs.Worth.{known, pass, times, size_of}
use Rattle.detail_pieces.proofs.spots.divisor.Goals as goal

pub returns-clause-value : goal.returns-clause-value
returns-clause-value c = (pass w128 (times (pass w128 (known c.args.den (2 ^ 44) c.requires.first) tt) (pass w128 (known c.args.square 78732 c.requires.second) tt)) tt).is

pub returns-clause-size : goal.returns-clause-size
returns-clause-size c = size_of (78732 * 2 ^ 44) (pass w128 (times (pass w128 (known c.args.den (2 ^ 44) c.requires.first) tt) (pass w128 (known c.args.square 78732 c.requires.second) tt)) tt) tt
