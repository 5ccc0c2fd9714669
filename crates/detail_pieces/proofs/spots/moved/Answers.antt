use Rattle.std.proofs.Common.{◌^◌}
use Rattle.std.specs.Int.{w128}
use Rattle.integers.proofs.Worth.{known, wide, fits, pass, minus, times}
use Rattle.detail_pieces.proofs.Sizes.{moved_size}
use Rattle.detail_pieces.proofs.spots.moved.Goals as goal

pub overflow_sub-result : goal.overflow_sub-result
overflow_sub-result c = fits w128 (minus (pass w128 (times (wide c.args.push.now.scale 9 c.from.ensures c.requires.scale tt) (pass w128 (known c.args.x (2 ^ 112) c.requires.x) tt)) tt) (pass w128 (times (pass w128 (known c.args.push.now.by (2 ^ 112) c.requires.by) tt) (wide c.args.component 9 c.from-2.ensures c.requires.component tt)) tt)) tt

pub returns-clause-value : goal.returns-clause-value
returns-clause-value c = (pass w128 (minus (pass w128 (times (wide c.args.push.now.scale 9 c.from.ensures c.requires.scale tt) (pass w128 (known c.args.x (2 ^ 112) c.requires.x) tt)) tt) (pass w128 (times (pass w128 (known c.args.push.now.by (2 ^ 112) c.requires.by) tt) (wide c.args.component 9 c.from-2.ensures c.requires.component tt)) tt)) tt).is

pub returns-clause-size : goal.returns-clause-size
returns-clause-size c m near short =
    rw (returns-clause-value c) (moved_size c.args.push.now.scale c.args.x c.args.push.now.by c.args.component m c.requires.scale near short c.requires.component)
