use Rattle.std.proofs.Common.{◌∙◌, sym}
use Rattle.lattice.specs.Triple.{dot}
use Rattle.lattice.specs.Points.{of_dir}
use Rattle.lattice.proofs.VectorSizes.{wider}
use Rattle.hiding_laws.proofs.CornerTest.{way-axes}
use Rattle.cross_find.proofs.CornerSigns.{wide_part, still_small}
use Rattle.cross_find.proofs.corner.way_to.Goals as goal

pub invariant_of-result : goal.invariant_of-result
invariant_of-result c = record {
  u_small = still_small c.dot.result (c.dot.ensures.small (wider _ c.right.ensures.size));
  v_small = still_small c.dot-2.result (c.dot-2.ensures.small c.up.ensures.size);
}

pub returns : goal.returns
returns c =
    (λ i. record {
      u = (wide_part c.dot.result (c.dot.ensures.small (wider _ c.right.ensures.size)) ∙ c.dot.ensures.value ∙ (λ j. dot (c.right.ensures.axis j) (c.between-way.ensures j))) i;
      v = (wide_part c.dot-2.result (c.dot-2.ensures.small c.up.ensures.size) ∙ c.dot-2.ensures.value ∙ (λ j. dot (c.up.ensures.axis j) (c.between-way.ensures j))) i;
    })
    ∙ sym (way-axes (of_dir c.args.d.now) c.args.p.now c.args.q.now)
