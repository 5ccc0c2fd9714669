use Rattle.std.proofs.Common.{◌≡◌, ◌∙◌, arith, to_z, of_z}
use Rattle.std.specs.Int.{w128}
use Rattle.std.proofs.lemmas.Int.{ints}
use Rattle.lattice.specs.Triple.{det}
use Rattle.hiding_laws.proofs.CornerValues.{depth_at}
use Rattle.span_slow.proofs.seen.depth.Goals as goal

pub returns-clause-start : goal.returns-clause-start
returns-clause-start c =
    let passed : to_z w128 (of_z w128 c.det3.result) ≡ c.det3.result = omega (arith, ints) in
    passed ∙ c.det3.ensures.value ∙ (λ i. det (c.between.ensures i) (c.between-s.ensures i) (c.between-t.ensures i)) ∙ depth_at c.args.a.now c.args.b.now c.args.c.now c.args.seen.now.a

pub returns-clause-end : goal.returns-clause-end
returns-clause-end c =
    let passed : to_z w128 (of_z w128 c.det3-2.result) ≡ c.det3-2.result = omega (arith, ints) in
    passed ∙ c.det3-2.ensures.value ∙ (λ i. det (c.between-2.ensures i) (c.between-s.ensures i) (c.between-t.ensures i)) ∙ depth_at c.args.a.now c.args.b.now c.args.c.now c.args.seen.now.b
