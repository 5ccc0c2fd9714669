use Rattle.std.proofs.Common.{◌∙◌}
use Rattle.lattice.specs.Points.{of_vector}
use Rattle.span_slow.proofs.Corners.{product_along, small_product, short_at}
use Rattle.span_slow.proofs.seen.short.Goals as goal

pub invariant_of-result : goal.invariant_of-result
invariant_of-result c =
    let small = c.args.seen.now.small in
    record { start_small = small_product c.dot.result (c.dot.ensures.small small); end_small = small_product c.dot-2.result (c.dot-2.ensures.small small) }

pub returns : goal.returns
returns c =
    let seen = c.args.seen.now in
    let axis = of_vector seen.axis in
    let l = c.args.l.now in
    let start = product_along axis (of_vector c.between.result) seen.a l c.dot.result (c.dot.ensures.small seen.small) c.dot.ensures.value c.between.ensures in
    let end = product_along axis (of_vector c.between-2.result) seen.b l c.dot-2.result (c.dot-2.ensures.small seen.small) c.dot-2.ensures.value c.between-2.ensures in
    record { start = start ∙ short_at axis l seen.a; end = end ∙ short_at axis l seen.b }
