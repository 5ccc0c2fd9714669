use Rattle.std.proofs.Common.{rules, ◌^◌, FitsSigned}
use Rattle.std.specs.Int.{w128}
use Rattle.std.proofs.lemmas.Int.{to_z-of_z}
use Rattle.integers.proofs.Floors.{floor_of_quotient}
use Rattle.integers.proofs.FloorSizes.{IsFloor-size}
use Rattle.cut_plane.proofs.parity.split.Goals as goal

pub returns-clause-size : goal.returns-clause-size
returns-clause-size c =
    let x = c.args.x.now in
    let num_fits : FitsSigned w128 x.num = search rules in
    let den_fits : FitsSigned w128 x.den = search rules in
    let result_fits : FitsSigned w128 c.div_euclid.result = search rules in
    simp to_z-of_z (IsFloor-size c.div_euclid.result x.num x.den (2 ^ 30) x.positive c.requires (floor_of_quotient c.div_euclid.result x.num x.den x.positive (simp to_z-of_z at c.div_euclid.ensures)))
