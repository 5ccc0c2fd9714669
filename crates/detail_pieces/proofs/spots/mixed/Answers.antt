use Rattle.std.proofs.Common.{◌^◌}
use Rattle.std.specs.Int.{w128}
use Rattle.integers.proofs.Worth.{known, wide, fits, pass, plus, times, size_of}
use Rattle.detail_pieces.proofs.spots.mixed.Goals as goal

pub overflow_add-result : goal.overflow_add-result
overflow_add-result c = fits w128 (plus (pass w128 (times (pass w128 (known c.args.u (2 ^ 94) c.requires.first) tt) (wide c.args.r 9 c.from.ensures c.requires.second tt)) tt) (pass w128 (times (pass w128 (known c.args.v (2 ^ 86) c.requires.third) tt) (wide c.args.t 162 c.from-2.ensures c.requires.fourth tt)) tt)) tt

pub returns-clause-value : goal.returns-clause-value
returns-clause-value c = (pass w128 (plus (pass w128 (times (pass w128 (known c.args.u (2 ^ 94) c.requires.first) tt) (wide c.args.r 9 c.from.ensures c.requires.second tt)) tt) (pass w128 (times (pass w128 (known c.args.v (2 ^ 86) c.requires.third) tt) (wide c.args.t 162 c.from-2.ensures c.requires.fourth tt)) tt)) tt).is

pub returns-clause-size : goal.returns-clause-size
returns-clause-size c = size_of (2 ^ 98) (pass w128 (plus (pass w128 (times (pass w128 (known c.args.u (2 ^ 94) c.requires.first) tt) (wide c.args.r 9 c.from.ensures c.requires.second tt)) tt) (pass w128 (times (pass w128 (known c.args.v (2 ^ 86) c.requires.third) tt) (wide c.args.t 162 c.from-2.ensures c.requires.fourth tt)) tt)) tt) tt
