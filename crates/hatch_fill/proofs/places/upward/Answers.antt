use Rattle.std.proofs.Common.{◌^◌}
use Rattle.std.specs.Int.{w128}
use Rattle.integers.proofs.Worth.{known, below, wide, pass, minus, times}
use Rattle.hatch_fill.proofs.places.upward.Goals as goal

pub returns : goal.returns
returns c =
    let x = c.args.across.now in
    let product = times (wide c.args.diagonal (2 ^ 22) c.from.ensures c.requires.first tt) (pass w128 (below x.den (2 ^ 69) c.requires.third) tt) in
    (pass w128 (minus (pass w128 (known x.num (2 ^ 90) c.requires.second) tt) (pass w128 product tt)) tt).is
