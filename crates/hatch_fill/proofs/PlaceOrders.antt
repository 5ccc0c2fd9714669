-- Places are in one total order.
use Rattle.std.specs.Cmp.{IsTotalOrder, int_cmp_total, on_total, then_total}
use Rattle.exact_frac.specs.Laws.{order_of_total}
use Rattle.hatch_fill.specs.declared.places.HatchPlace.{HatchPlace}
use Rattle.hatch_fill.specs.inner.Places.{place_order}

pub place_order_total : IsTotalOrder place_order
place_order_total = then_total (on_total (λ (t : HatchPlace). t.diagonal) int_cmp_total) (on_total (λ (t : HatchPlace). t.across) order_of_total)
