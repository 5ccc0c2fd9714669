use Rattle.std.proofs.Common.{◌^◌}
use Rattle.std.specs.Int.{w64}
use Rattle.integers.proofs.Worth.{fits, pass, minus, size_of}
use Rattle.stroke_paths.proofs.WaySizes.{product}
use Rattle.stroke_paths.proofs.turns.cross.Goals as goal

pub overflow_sub-result : goal.overflow_sub-result
overflow_sub-result c =
    let x = c.args.first in
    let y = c.args.second in
    fits w64 (minus (product x.across y.down x.across_small y.down_small) (product x.down y.across x.down_small y.across_small)) tt

pub returns-clause-value : goal.returns-clause-value
returns-clause-value c =
    let x = c.args.first in
    let y = c.args.second in
    (pass w64 (minus (product x.across y.down x.across_small y.down_small) (product x.down y.across x.down_small y.across_small)) tt).is

pub returns-clause-size : goal.returns-clause-size
returns-clause-size c =
    let x = c.args.first in
    let y = c.args.second in
    size_of (2 ^ 35) (pass w64 (minus (product x.across y.down x.across_small y.down_small) (product x.down y.across x.down_small y.across_small)) tt) tt
