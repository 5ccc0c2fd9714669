use Rattle.std.proofs.Common.{◌≤◌, ◌^◌, rules, arith, ◌-ℤ◌, ◌*ℤ◌, unsigned_abs, FitsSigned}
use Rattle.std.specs.Int.{w128}
use Rattle.std.proofs.lemmas.Int.{ints, to_z-of_z}
use Rattle.integers.proofs.FloorSizes.{IsFloor-size}
use Rattle.sheet_plan.proofs.Rounding.{IsRest, rest_is}
use Rattle.sheet_plan.proofs.numbers.rest.Goals as goal

pub times-requires-clause-first : goal.times-requires-clause-first
times-requires-clause-first c =
    let fits = c.ranges.whole in
    let small : unsigned_abs c.args.whole ≤ 2 ^ 30 = IsFloor-size c.args.whole _ _ (2 ^ 30) c.args.product.now.positive c.requires.near c.requires.floor in
    simp to_z-of_z (omega arith)

is : (c : goal.After-times) → IsRest c.args.product.now.num c.times.result (c.args.whole *ℤ c.args.product.now.den)
is c =
    let whole_fits = c.ranges.whole in
    let den_fits : FitsSigned w128 c.args.product.now.den = search rules in
    rest_is _ _ _ c.args.product.now.den (simp to_z-of_z at c.times.ensures.value) c.requires.floor.at_most c.requires.floor.rest_below c.requires.den_fits

pub returns-clause-value : goal.returns-clause-value
returns-clause-value c =
    let num_fits : FitsSigned w128 c.args.product.now.num = search rules in
    let times_fits : FitsSigned w128 c.times.result = search rules in
    let small = (is c).size in
    let rest_fits : FitsSigned w128 (c.args.product.now.num -ℤ c.times.result) = omega (arith, ints) in
    simp to_z-of_z (is c).value

pub returns-clause-least : goal.returns-clause-least
returns-clause-least c =
    let num_fits : FitsSigned w128 c.args.product.now.num = search rules in
    let times_fits : FitsSigned w128 c.times.result = search rules in
    let small = (is c).size in
    let rest_fits : FitsSigned w128 (c.args.product.now.num -ℤ c.times.result) = omega (arith, ints) in
    simp to_z-of_z (is c).least
