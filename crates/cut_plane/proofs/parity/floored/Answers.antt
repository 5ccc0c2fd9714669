use Rattle.std.proofs.Common.{rules, FitsSigned}
use Rattle.std.specs.Int.{w128}
use Rattle.std.proofs.lemmas.Int.{to_z-of_z}
use Rattle.integers.proofs.Floors.{floor_of_quotient}
use Rattle.cut_plane.proofs.parity.floored.Goals as goal

pub returns-clause-floor : goal.returns-clause-floor
returns-clause-floor c =
    let num_fits = c.ranges.n in
    let den_fits = c.ranges.d in
    let result_fits : FitsSigned w128 c.div_euclid.result = search rules in
    simp to_z-of_z (floor_of_quotient c.div_euclid.result _ _ c.requires.positive (simp to_z-of_z at c.div_euclid.ensures))
