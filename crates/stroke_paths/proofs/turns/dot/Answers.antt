use Rattle.std.specs.Int.{w64}
use Rattle.integers.proofs.Worth.{fits, pass, plus}
use Rattle.stroke_paths.proofs.WaySizes.{product, product_fits}
use Rattle.stroke_paths.proofs.turns.dot.Goals as goal

pub overflow_mul-result : goal.overflow_mul-result
overflow_mul-result c =
    let x = c.args.first in
    let y = c.args.second in
    product_fits x.across y.across x.across_small y.across_small

pub overflow_mul-result-2 : goal.overflow_mul-result-2
overflow_mul-result-2 c =
    let x = c.args.first in
    let y = c.args.second in
    product_fits x.down y.down x.down_small y.down_small

pub overflow_add-result : goal.overflow_add-result
overflow_add-result c =
    let x = c.args.first in
    let y = c.args.second in
    fits w64 (plus (product x.across y.across x.across_small y.across_small) (product x.down y.down x.down_small y.down_small)) tt

pub returns : goal.returns
returns c =
    let x = c.args.first in
    let y = c.args.second in
    (pass w64 (plus (product x.across y.across x.across_small y.across_small) (product x.down y.down x.down_small y.down_small)) tt).is
