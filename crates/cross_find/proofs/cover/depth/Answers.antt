use Rattle.std.proofs.Common.{◌∙◌}
use Rattle.lattice.specs.Triple.{det}
use Rattle.hiding_laws.proofs.CornerValues.{depth_at}
use Rattle.cross_find.proofs.Passed.{passed_height}
use Rattle.cross_find.proofs.cover.depth.Goals as goal

pub returns-clause-value : goal.returns-clause-value
returns-clause-value c =
    let t = c.args.t.now in
    passed_height c.det3.result c.det3.ensures.size ∙ c.det3.ensures.value ∙ (λ i. det (c.between.ensures i) (c.between-k.ensures i) (c.between-l.ensures i)) ∙ depth_at t.a t.b t.c c.args.p.now
