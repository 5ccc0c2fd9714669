use Rattle.std.proofs.Common.{◌≡◌, ◌∙◌, arith, to_z, of_z}
use Rattle.std.specs.Int.{w128}
use Rattle.std.proofs.lemmas.Int.{ints}
use Rattle.lattice.specs.Triple.{det}
use Rattle.lattice.specs.Points.{of_dir}
use Rattle.hiding_laws.proofs.CornerValues.{side_at}
use Rattle.span_slow.proofs.seen.side.Goals as goal

pub returns-clause-start : goal.returns-clause-start
returns-clause-start c =
    let seen = c.args.seen.now in
    let passed : to_z w128 (of_z w128 c.view_cross.result) ≡ c.view_cross.result = omega (arith, ints) in
    passed ∙ c.view_cross.ensures.value ∙ (λ i. det (of_dir seen.d) (c.between-way.ensures i) (c.between.ensures i)) ∙ side_at (of_dir seen.d) c.args.k.now c.args.l.now seen.a

pub returns-clause-end : goal.returns-clause-end
returns-clause-end c =
    let seen = c.args.seen.now in
    let passed : to_z w128 (of_z w128 c.view_cross-2.result) ≡ c.view_cross-2.result = omega (arith, ints) in
    passed ∙ c.view_cross-2.ensures.value ∙ (λ i. det (of_dir seen.d) (c.between-way.ensures i) (c.between-2.ensures i)) ∙ side_at (of_dir seen.d) c.args.k.now c.args.l.now seen.b
