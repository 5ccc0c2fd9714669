use Rattle.std.proofs.lemmas.Int.{to_z-of_z}
use Rattle.sheet_page.specs.Svg.{paper}
use Rattle.sheet_page.proofs.svg_text.paper.Goals as goal

pub returns : goal.returns
unfolding paper
returns c =
    let w_fits = c.ranges.w in
    let h_fits = c.ranges.h in
    simp to_z-of_z at c.format.ensures.ok
