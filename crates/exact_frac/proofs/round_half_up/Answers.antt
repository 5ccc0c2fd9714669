use Rattle.std.proofs.Common.{rules, arith, pos, ◌+ℤ◌, ◌*ℤ◌, ◌<ℤ◌, FitsSigned}
use Rattle.std.specs.Int.{w128}
use Rattle.std.proofs.lemmas.Int.{ints, to_z-of_z}
use Rattle.integers.proofs.Floors.{floor_of_quotient}
use Rattle.exact_frac.proofs.round_half_up.Goals as goal

pub returns : goal.returns
returns c =
    let num_fits = c.ranges.num in
    let den_fits = c.ranges.den in
    let double_fits : FitsSigned w128 (pos 2 *ℤ c.args.num) = omega (arith, ints) in
    let sum_fits : FitsSigned w128 (pos 2 *ℤ c.args.num +ℤ c.args.den) = omega (arith, ints) in
    let divisor_fits : FitsSigned w128 (pos 2 *ℤ c.args.den) = omega (arith, ints) in
    let result_fits : FitsSigned w128 c.div_euclid.result = search rules in
    let positive : pos 0 <ℤ (pos 2 *ℤ c.args.den) = omega (arith, ints) in
    simp to_z-of_z (floor_of_quotient c.div_euclid.result _ _ positive (simp to_z-of_z at c.div_euclid.ensures))
