use Rattle.std.proofs.Common.{◌∙◌}
use Rattle.std.specs.Prelude.{◌+ℤ◌, ◌-ℤ◌, ◌*ℤ◌}
use Rattle.cross_find.proofs.CornerSigns.{wide_product, wide_part, wide_lead, between_by}
use Rattle.geometry.specs.Turns.{product_of}
use Rattle.cross_find.specs.inner.Ways.{way_of}
use Rattle.cross_find.proofs.corner.passes_between.Goals as goal

pub returns : goal.returns
returns c =
    let v = way_of c.args.v.now in
    let w = way_of c.args.w.now in
    between_by v w c.args.f c.args.g
    (wide_product c.turn_from.result c.turn_from.ensures.size ∙ c.turn_from.ensures.value)
    (wide_product c.product_of.result c.product_of.ensures.size ∙ c.product_of.ensures.value)
    (wide_lead c.lead.result c.lead.ensures.size ∙ c.lead.ensures.value
    ∙ (λ i. ((product_of w w -ℤ product_of v w) *ℤ wide_part c.args.f c.requires.f i) +ℤ ((product_of v v -ℤ product_of v w) *ℤ wide_part c.args.g c.requires.g i)))
    c.is_nearer_between.ensures
