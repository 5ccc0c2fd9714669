use Rattle.std.proofs.Common.{subst, ◌∙◌}
use Rattle.std.specs.Prelude.{pos, ◌↔◌, IsTrue}
use Rattle.lattice.specs.Triple.{dot}
use Rattle.lattice.specs.Points.{of_vector}
use Rattle.cross_find.specs.Ends.{AreBeside}
use Rattle.cross_find.proofs.CornerSigns.{wide_part}
use Rattle.cross_find.proofs.cover.is_apart_along.Goals as goal

pub returns : goal.returns
returns c =
    let axis = of_vector c.args.axis.now in
    let a = wide_part c.dot.result (c.dot.ensures.small c.requires) ∙ c.dot.ensures.value ∙ (λ i. dot axis (c.between.ensures i)) in
    let b = wide_part c.dot-2.result (c.dot-2.ensures.small c.requires) ∙ c.dot-2.ensures.value ∙ (λ i. dot axis (c.between-2.ensures i)) in
    let e = wide_part c.dot-3.result (c.dot-3.ensures.small c.requires) ∙ c.dot-3.ensures.value ∙ (λ i. dot axis (c.between-3.ensures i)) in
    subst (λ (T : Type 0). IsTrue c.have_one_sign.result ↔ T) (λ i. AreBeside (pos 0) (a i) (b i) (e i)) c.have_one_sign.ensures
