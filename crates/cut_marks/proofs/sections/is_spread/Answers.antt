use Rattle.std.proofs.Common.{rules, FitsSigned}
use Rattle.std.specs.Int.{w64}
use Rattle.std.proofs.lemmas.Int.{to_z-of_z}
use Rattle.lattice.specs.Points.{of_vector}
use Rattle.solid_mesh.specs.Solids.{solid_part}
use Rattle.cut_marks.proofs.Sides.{told_spread}
use Rattle.cut_marks.proofs.sections.is_spread.Goals as goal

pub returns : goal.returns
returns c =
    let least : FitsSigned w64 c.reach_along-reach.result.least = search rules in
    let most : FitsSigned w64 c.reach_along-reach.result.greatest = search rules in
    told_spread (solid_part c.args.solid.now).corners (of_vector c.unit.result) c.reach_along-reach.result.least c.reach_along-reach.result.greatest c.is_less.result
    c.reach_along-reach.ensures.least c.reach_along-reach.ensures.greatest
    c.args.axis c.unit.ensures.value (simp to_z-of_z at c.is_less.ensures)
