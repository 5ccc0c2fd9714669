use Rattle.std.proofs.Common.{◌^◌, ◌∙◌}
use Rattle.std.specs.Prelude.{◌+ℤ◌, ◌-ℤ◌, ◌*ℤ◌}
use Rattle.std.specs.Int.{w128}
use Rattle.integers.proofs.Worth.{fits, pass, below, times, plus, minus, below_of}
use Rattle.cross_find.proofs.CornerSigns.{weighed_reads}
use Rattle.cross_find.proofs.corner.lead.Goals as goal

pub overflow_mul-result : goal.overflow_mul-result
overflow_mul-result c =
    fits w128 (times (pass w128 (minus (pass w128 (below c.product_of.result (2 ^ 62) c.product_of.ensures.size) tt) (pass w128 (below c.product_of-product.result (2 ^ 62) c.product_of-product.ensures.size) tt)) tt) (pass w128 (below c.args.f (2 ^ 30) c.requires.f) tt)) tt

pub overflow_mul-result-2 : goal.overflow_mul-result-2
overflow_mul-result-2 c =
    fits w128 (times (pass w128 (minus (pass w128 (below c.product_of-2.result (2 ^ 62) c.product_of-2.ensures.size) tt) (pass w128 (below c.product_of-product.result (2 ^ 62) c.product_of-product.ensures.size) tt)) tt) (pass w128 (below c.args.g (2 ^ 30) c.requires.g) tt)) tt

pub overflow_add-result : goal.overflow_add-result
overflow_add-result c =
    fits w128 (plus (weighed_reads c.product_of.result c.product_of-product.result c.args.f c.product_of.ensures.size c.product_of-product.ensures.size c.requires.f)
    (weighed_reads c.product_of-2.result c.product_of-product.result c.args.g c.product_of-2.ensures.size c.product_of-product.ensures.size c.requires.g)) tt

pub returns-clause-value : goal.returns-clause-value
returns-clause-value c =
    (pass w128 (plus (weighed_reads c.product_of.result c.product_of-product.result c.args.f c.product_of.ensures.size c.product_of-product.ensures.size c.requires.f)
    (weighed_reads c.product_of-2.result c.product_of-product.result c.args.g c.product_of-2.ensures.size c.product_of-product.ensures.size c.requires.g)) tt).is
    ∙ (λ i. ((c.product_of.ensures.value i -ℤ c.product_of-product.ensures.value i) *ℤ c.args.f) +ℤ ((c.product_of-2.ensures.value i -ℤ c.product_of-product.ensures.value i) *ℤ c.args.g))

pub returns-clause-size : goal.returns-clause-size
returns-clause-size c =
    below_of (2 ^ 96) (pass w128 (plus (weighed_reads c.product_of.result c.product_of-product.result c.args.f c.product_of.ensures.size c.product_of-product.ensures.size c.requires.f)
    (weighed_reads c.product_of-2.result c.product_of-product.result c.args.g c.product_of-2.ensures.size c.product_of-product.ensures.size c.requires.g)) tt) tt
