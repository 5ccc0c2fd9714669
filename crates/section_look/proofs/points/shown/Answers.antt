use Rattle.std.proofs.Common.{rules, FitsSigned}
use Rattle.std.specs.Int.{w64}
use Rattle.std.proofs.lemmas.Int.{to_z-of_z}
use Rattle.section_look.proofs.points.shown.Goals as goal

pub returns : goal.returns
returns c place at =
    let x : FitsSigned w64 c.point-x.result.0 = search rules in
    let y : FitsSigned w64 c.point-x.result.1 = search rules in
    simp to_z-of_z (c.point-x.ensures place at)
