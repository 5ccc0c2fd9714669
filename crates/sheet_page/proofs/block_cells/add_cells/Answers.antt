use Rattle.std.proofs.Common.{◌∙◌}
use Rattle.sheet_page.specs.BlockCells.{left_cells, upper_cells, lower_cells}
use Rattle.sheet_page.proofs.AddedCells.{same_cells, more_cells}
use Rattle.sheet_page.proofs.block_cells.add_cells.Goals as goal

pub returns : goal.returns
returns c =
    let corner = c.args.corner.now.at in
    let texts = c.args.texts.now in
    let file = c.as_str.ensures.value ∙ c.in_ok-name.ensures in
    let title = c.as_str-2.ensures.same in
    let scale = c.as_str-3.ensures.value ∙ c.in_ok-scale.ensures in
    let unit = c.unit_name.ensures in
    let size = c.name.ensures in
    let left = same_cells corner _ _ _ _ (λ i. left_cells texts (file i)) c.in_ok-add_left.ensures in
    let upper = same_cells corner _ _ _ _ (λ i. upper_cells texts (title i) (scale i)) c.in_ok-add_upper.ensures in
    let lower = same_cells corner _ _ _ _ (λ i. lower_cells texts (unit i) (size i)) c.in_ok-add_lower.ensures in
    more_cells corner _ _ _ _ _ left (more_cells corner _ _ _ _ _ upper lower)
