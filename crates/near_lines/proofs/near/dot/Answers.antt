use Rattle.std.proofs.Common.{ap, ◌∙◌, unsigned_abs}
use Rattle.std.specs.Int.{w64}
use Rattle.integers.proofs.Worth.{fits, pass, plus}
use Rattle.stroke_paths.proofs.WaySizes.{product}
use Rattle.near_lines.proofs.near.dot.Goals as goal

pub overflow_add-v : goal.overflow_add-v
overflow_add-v c =
    let x = c.args.v in
    let y = c.args.w in
    fits w64 (plus (product x.across y.across x.across_small y.across_small) (product x.down y.down x.down_small y.down_small)) tt

pub returns : goal.returns
returns c =
    let x = c.args.v in
    let y = c.args.w in
    c.unsigned_abs.ensures.value ∙ ap unsigned_abs (pass w64 (plus (product x.across y.across x.across_small y.across_small) (product x.down y.down x.down_small y.down_small)) tt).is
