use Rattle.std.proofs.Common.{◌≡◌, ◌≤◌, ◌^◌, rules, arith, ◌+ℤ◌, ◌*ℤ◌, unsigned_abs, FitsSigned}
use Rattle.std.specs.Int.{w128}
use Rattle.std.proofs.lemmas.Int.{ints, to_z-of_z}
use Rattle.integers.specs.Floors.{IsFloor}
use Rattle.integers.proofs.FloorSizes.{IsFloor-size}
use Rattle.sheet_plan.proofs.Rounding.{from_parts, parts_size}
use Rattle.sheet_plan.proofs.numbers.floor_of_times.Goals as goal

pub times-requires-clause-second : goal.times-requires-clause-second
times-requires-clause-second c =
    let fits : FitsSigned w128 c.floor-whole.result = search rules in
    let num_fits : FitsSigned w128 c.args.product.now.num = search rules in
    let den_fits : FitsSigned w128 c.args.product.now.den = search rules in
    let small : unsigned_abs c.floor-whole.result ≤ 2 ^ 30 = IsFloor-size c.floor-whole.result _ _ (2 ^ 30) c.args.product.now.positive c.requires.near (simp to_z-of_z at c.floor-whole.ensures) in
    simp to_z-of_z (omega arith)

whole : (c : goal.After-floor) → unsigned_abs c.floor-whole.result ≤ 2 ^ 30
whole c =
    let num_fits : FitsSigned w128 c.args.product.now.num = search rules in
    let den_fits : FitsSigned w128 c.args.product.now.den = search rules in
    IsFloor-size c.floor-whole.result _ _ (2 ^ 30) c.args.product.now.positive c.requires.near (simp to_z-of_z at c.floor-whole.ensures)

first : (c : goal.After-floor) → c.times.result ≡ c.args.factor *ℤ c.floor-whole.result
first c =
    let factor_fits = c.ranges.factor in
    let whole_fits : FitsSigned w128 c.floor-whole.result = search rules in
    simp to_z-of_z at c.times.ensures.value

second : (c : goal.After-floor) → c.times-2.result ≡ c.args.factor *ℤ c.rest-rest.result
second c =
    let factor_fits = c.ranges.factor in
    let rest_fits : FitsSigned w128 c.rest-rest.result = search rules in
    simp to_z-of_z at c.times-2.ensures.value

inner : (c : goal.After-floor) → IsFloor c.floor.result c.times-2.result c.args.product.now.den
inner c =
    let times_fits : FitsSigned w128 c.times-2.result = search rules in
    let den_fits : FitsSigned w128 c.args.product.now.den = search rules in
    simp to_z-of_z at c.floor.ensures

parts : (c : goal.After-floor) → c.args.product.now.num ≡ c.floor-whole.result *ℤ c.args.product.now.den +ℤ c.rest-rest.result
parts c =
    let whole_fits : FitsSigned w128 c.floor-whole.result = search rules in
    simp to_z-of_z at c.rest-rest.ensures.value

size : (c : goal.After-floor) → unsigned_abs (c.times.result +ℤ c.floor.result) ≤ 2 ^ 75
size c = parts_size c.args.factor c.floor-whole.result c.rest-rest.result c.args.product.now.den _ c.times-2.result _ c.requires.factor_fits (whole c) c.rest-rest.ensures.least c.rest-rest.ensures.below (first c) (second c) (inner c)

pub overflow_add-result : goal.overflow_add-result
overflow_add-result c =
    let times_fits : FitsSigned w128 c.times.result = search rules in
    let floor_fits : FitsSigned w128 c.floor.result = search rules in
    let small = size c in
    simp to_z-of_z (omega (arith, ints))

pub returns-clause-floor : goal.returns-clause-floor
returns-clause-floor c =
    let times_fits : FitsSigned w128 c.times.result = search rules in
    let floor_fits : FitsSigned w128 c.floor.result = search rules in
    let small = size c in
    let sum_fits : FitsSigned w128 (c.times.result +ℤ c.floor.result) = omega (arith, ints) in
    simp to_z-of_z (from_parts c.args.factor c.floor-whole.result c.rest-rest.result c.args.product.now.den _ _ c.times-2.result _ (parts c) (first c) (second c) (inner c))

pub returns-clause-size : goal.returns-clause-size
returns-clause-size c =
    let times_fits : FitsSigned w128 c.times.result = search rules in
    let floor_fits : FitsSigned w128 c.floor.result = search rules in
    let small = size c in
    let sum_fits : FitsSigned w128 (c.times.result +ℤ c.floor.result) = omega (arith, ints) in
    simp to_z-of_z small
