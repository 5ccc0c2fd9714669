-- The ends of strips are in one total order.
use Rattle.std.specs.Cmp.{IsTotalOrder, nat_cmp_total, on_total, then_total}
use Rattle.exact_frac.specs.Laws.{order_of_total}
use Rattle.line_merge.specs.declared.ends.SeenEnd.{SeenEnd}
use Rattle.line_merge.specs.inner.Ends.{seen_order, end_order}

seen_order_total : IsTotalOrder seen_order
seen_order_total = then_total (on_total (λ (t : SeenEnd). t.across) order_of_total) (on_total (λ (t : SeenEnd). t.upward) order_of_total)

pub end_order_total : IsTotalOrder end_order
end_order_total = then_total (on_total (λ (t : SeenEnd). t.line) nat_cmp_total) seen_order_total
