use Rattle.std.proofs.Common.{rules, FitsSigned, ◌∙◌}
use Rattle.std.specs.Int.{w64}
use Rattle.std.proofs.lemmas.Int.{to_z-of_z}
use Rattle.lattice.specs.Cuts.{plane_of}
use Rattle.lattice.specs.Points.{of_vector}
use Rattle.solid_mesh.specs.Solids.{solid_part}
use Rattle.sheet_layout.proofs.PlaneSides.{told_through}
use Rattle.sheet_layout.proofs.through.goes_through.Goals as goal

pub returns : goal.returns
returns c =
    let lowest : FitsSigned w64 c.reach_along-height.result.least = search rules in
    let topmost : FitsSigned w64 c.reach_along-height.result.greatest = search rules in
    let level : FitsSigned w64 c.level.result = search rules in
    told_through (solid_part c.args.solid.now).corners (of_vector c.vector.result) c.reach_along-height.result.least c.reach_along-height.result.greatest c.is_amid.result
    c.reach_along-height.ensures.least c.reach_along-height.ensures.greatest
    (plane_of c.args.cut.now) c.level.result (c.vector.ensures.components ∙ c.dir.ensures) c.level.ensures.value (simp to_z-of_z at c.is_amid.ensures)
