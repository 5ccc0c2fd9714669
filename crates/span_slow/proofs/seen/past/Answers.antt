use Rattle.std.proofs.Common.{◌∙◌}
use Rattle.lattice.specs.Points.{of_vector}
use Rattle.span_slow.proofs.Corners.{product_along, small_product, past_at}
use Rattle.span_slow.proofs.seen.past.Goals as goal

pub invariant_of-result : goal.invariant_of-result
invariant_of-result c =
    let small = c.args.seen.now.small in
    record { start_small = small_product c.dot.result (c.dot.ensures.small small); end_small = small_product c.dot-2.result (c.dot-2.ensures.small small) }

pub returns : goal.returns
returns c =
    let seen = c.args.seen.now in
    let axis = of_vector seen.axis in
    let k = c.args.k.now in
    let start = product_along axis (of_vector c.between.result) k seen.a c.dot.result (c.dot.ensures.small seen.small) c.dot.ensures.value c.between.ensures in
    let end = product_along axis (of_vector c.between-2.result) k seen.b c.dot-2.result (c.dot-2.ensures.small seen.small) c.dot-2.ensures.value c.between-2.ensures in
    record { start = start ∙ past_at axis k seen.a; end = end ∙ past_at axis k seen.b }
