use Rattle.std.proofs.lemmas.Int.{to_z-of_z}
use Rattle.sheet_page.specs.Svg.{ground}
use Rattle.sheet_page.proofs.svg_text.ground.Goals as goal

pub returns : goal.returns
unfolding ground
returns c =
    let width_fits = c.ranges.width in
    let height_fits = c.ranges.height in
    simp to_z-of_z at c.format.ensures.ok
