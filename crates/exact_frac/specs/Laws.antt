-- Fractions are in one total order.
use Rattle.std.specs.Prelude.{◌*ℤ◌}
use Rattle.std.specs.Cmp.{IsTotalOrder, int_cmp_total}
use Rattle.integers.proofs.Chains.{Chains, chained_ratios}
use Rattle.exact_frac.specs.declared.Frac.{Frac}
use Rattle.exact_frac.specs.Frac.{order_of}

chained : (x y z : Frac) → Chains (order_of x y) (order_of y z) (order_of x z)
chained x y z = chained_ratios x.num x.den y.num y.den z.num z.den x.positive y.positive z.positive

pub order_of_total : IsTotalOrder order_of
order_of_total = record {
  antisymm = λ x y. int_cmp_total.antisymm (x.num *ℤ y.den) (y.num *ℤ x.den);
  trans = λ x y z. (chained x y z).less;
  congr = λ x y z. (chained x y z).first;
}
