use Rattle.std.proofs.Common.{◌∙◌}
use Rattle.std.specs.Prelude.{◌*ℤ◌}
use Rattle.std.specs.Ordering.{int_cmp, is_le}
use Rattle.integers.proofs.Orders.{at_most_of_le}
use Rattle.cut_plane.proofs.parity.is_not_above.Goals as goal

pub returns : goal.returns
returns c =
    let p = c.upward.ensures.ratio in
    let q = c.upward-2.ensures.ratio in
    at_most_of_le _ _ c.le.result (c.le.ensures ∙ (λ i. is_le (int_cmp (p.num i *ℤ q.den i) (q.num i *ℤ p.den i))))
