use Rattle.std.proofs.Common.{◌^◌, unsigned_abs, le_refl}
use Rattle.std.specs.Int.{w128}
use Rattle.integers.proofs.Sizes.{abs_times}
use Rattle.integers.proofs.Worth.{known, wide, pass, times}
use Rattle.detail_pieces.proofs.spots.times.Goals as goal

pub returns-clause-size : goal.returns-clause-size
returns-clause-size c =
    rw (pass w128 (times (wide c.args.scale 9 c.from.ensures c.requires.first tt) (pass w128 (known c.args.w (2 ^ 70) c.requires.second) tt)) tt).is
    (abs_times c.args.scale c.args.w 9 (unsigned_abs c.args.w) c.requires.first (le_refl (unsigned_abs c.args.w)))
