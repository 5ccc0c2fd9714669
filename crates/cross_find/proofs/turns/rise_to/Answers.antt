use Rattle.std.proofs.Common.{sym, ◌∙◌}
use Rattle.lattice.specs.Triple.{dot}
use Rattle.lattice.specs.Points.{of_dir}
use Rattle.lattice.proofs.VectorSizes.{wider}
use Rattle.hiding_laws.proofs.CornerTest.{rise-direction}
use Rattle.cross_find.proofs.CornerSigns.{wide_part}
use Rattle.cross_find.proofs.turns.rise_to.Goals as goal

pub returns-clause-value : goal.returns-clause-value
returns-clause-value c =
    wide_part c.dot.result (c.dot.ensures.small (wider _ c.vector.ensures.size)) ∙ c.dot.ensures.value ∙ (λ i. dot (c.vector.ensures.components i) (c.between.ensures i))
    ∙ sym (rise-direction (of_dir c.args.d.now) c.args.p.now c.args.q.now)
