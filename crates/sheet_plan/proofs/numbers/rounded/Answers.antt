use Rattle.std.proofs.Common.{◌≤◌, ◌^◌, rules, arith, pos, ◌+ℤ◌, ◌*ℤ◌, unsigned_abs, FitsSigned}
use Rattle.std.specs.Int.{w64, w128}
use Rattle.std.proofs.lemmas.Int.{ints, to_z-of_z}
use Rattle.integers.specs.Floors.{IsFloor}
use Rattle.sheet_plan.proofs.Rounding.{rounded_is, rounded_size}
use Rattle.sheet_plan.proofs.numbers.rounded.Goals as goal

outer : (c : goal.After-floor) → IsFloor c.floor.result (c.floor_of_times-twice.result +ℤ c.args.divisor) (pos 2 *ℤ c.args.divisor)
outer c =
    let divisor_fits = c.ranges.divisor in
    let twice_fits : FitsSigned w128 c.floor_of_times-twice.result = search rules in
    let small = c.floor_of_times-twice.ensures.size in
    let sum_fits : FitsSigned w128 (c.floor_of_times-twice.result +ℤ c.args.divisor) = omega (arith, ints) in
    let double_fits : FitsSigned w128 (pos 2 *ℤ c.args.divisor) = omega (arith, ints) in
    simp to_z-of_z at c.floor.ensures

size : (c : goal.After-floor) → unsigned_abs c.floor.result ≤ 2 ^ 45
size c = rounded_size c.floor.result c.floor_of_times-twice.result c.args.divisor c.requires.positive c.requires.least c.floor_of_times-twice.ensures.size (outer c)

pub overflow_cast-result : goal.overflow_cast-result
overflow_cast-result c = let small = size c in omega (arith, ints)

pub returns-clause-value : goal.returns-clause-value
returns-clause-value c =
    let small = size c in
    let narrow : FitsSigned w64 c.floor.result = omega (arith, ints) in
    let wide : FitsSigned w128 c.floor.result = omega (arith, ints) in
    let factor_fits = c.ranges.factor in
    let double_fits : FitsSigned w128 (pos 2 *ℤ c.args.factor) = omega (arith, ints) in
    let inner = simp to_z-of_z at c.floor_of_times-twice.ensures.floor in
    simp to_z-of_z (rounded_is c.floor.result c.floor_of_times-twice.result c.args.factor _ _ c.args.divisor c.args.product.now.positive c.requires.positive inner (outer c))

pub returns-clause-size : goal.returns-clause-size
returns-clause-size c =
    let small = size c in
    let narrow : FitsSigned w64 c.floor.result = omega (arith, ints) in
    let wide : FitsSigned w128 c.floor.result = omega (arith, ints) in
    simp to_z-of_z small
