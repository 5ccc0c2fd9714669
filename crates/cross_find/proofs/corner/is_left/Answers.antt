use Rattle.std.proofs.Common.{◌≡◌, ◌⊎◌, subst, ◌∙◌}
use Rattle.std.specs.Prelude.{pos, ◌*ℤ◌, ◌<ℤ◌, ◌↔◌, IsTrue}
use Rattle.cross_find.proofs.CornerSigns.{wide, wide_product, perturbation_passed}
use Rattle.cross_find.proofs.corner.is_left.Goals as goal

pub returns : goal.returns
returns c =
    let turn = wide_product c.turn_from.result c.turn_from.ensures.size ∙ c.turn_from.ensures.value in
    let product = wide_product c.product_of.result c.product_of.ensures.size ∙ c.product_of.ensures.value in
    let along = wide c.by_perturbation.result c.by_perturbation.ensures.size ∙ c.by_perturbation.ensures.value ∙ (λ i. perturbation_passed c.args.perturbation c.requires i *ℤ product i) in
    subst (λ (T : Type 0). IsTrue c.is_above.result ↔ T) (λ i. (pos 0 <ℤ turn i) ⊎ ((turn i ≡ pos 0) × (pos 0 <ℤ along i))) c.is_above.ensures
