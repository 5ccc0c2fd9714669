use Rattle.std.proofs.Common.{◌∙◌}
use Rattle.lattice.specs.Triple.{cross}
use Rattle.off_reader.specs.Fans.{plus}
use Rattle.off_reader.specs.inner.Fans.{of_area}
use Rattle.off_reader.proofs.Areas.{component_sum}
use Rattle.off_reader.proofs.fan.with_side.Goals as goal

pub returns-clause-value : goal.returns-clause-value
returns-clause-value c =
    let area = c.args.area in
    let side = c.cross-side.result in
    let ex = component_sum c.sum.result area.x side.x c.requires.x side.x_in_range c.sum.ensures in
    let ey = component_sum c.sum-2.result area.y side.y c.requires.y side.y_in_range c.sum-2.ensures in
    let ez = component_sum c.sum-3.result area.z side.z c.requires.z side.z_in_range c.sum-3.ensures in
    (λ i. record { x = ex i; y = ey i; z = ez i })
    ∙ (λ i. plus (of_area area) ((c.cross-side.ensures ∙ (λ j. cross (c.position.ensures j) (c.position-2.ensures j))) i))
