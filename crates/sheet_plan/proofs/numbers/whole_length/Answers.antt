use Rattle.std.proofs.Common.{◌≡◌, ◌≤◌, ◌^◌, rules, arith, pos, ◌+ℤ◌, ◌*ℤ◌, unsigned_abs, FitsSigned, subst, ap, ◌∙◌}
use Rattle.std.specs.Prelude.{ℤ}
use Rattle.std.specs.Int.{w64, w128}
use Rattle.std.proofs.lemmas.Int.{ints, to_z-of_z}
use Rattle.integers.specs.Floors.{IsFloor}
use Rattle.sheet_plan.proofs.Rounding.{whole_is, whole_size}
use Rattle.sheet_plan.proofs.numbers.whole_length.Goals as goal

product : (c : goal.After-round_half_up) → c.times.result ≡ c.args.factor *ℤ c.args.number
product c =
    let factor_fits = c.ranges.factor in
    let number_fits = c.ranges.number in
    let same : c.into.result ≡ c.args.number = simp to_z-of_z at c.into.ensures in
    let into_fits : FitsSigned w128 c.into.result = search rules in
    let value : c.times.result ≡ c.args.factor *ℤ c.into.result = simp to_z-of_z at c.times.ensures.value in
    value ∙ ap (λ (z : ℤ). c.args.factor *ℤ z) same

floor : (c : goal.After-round_half_up) → IsFloor c.round_half_up.result (pos 2 *ℤ (c.args.factor *ℤ c.args.number) +ℤ c.args.divisor) (pos 2 *ℤ c.args.divisor)
floor c =
    let divisor_fits = c.ranges.divisor in
    let times_fits : FitsSigned w128 c.times.result = search rules in
    let P : ℤ → Type 0 = λ z. IsFloor c.round_half_up.result (pos 2 *ℤ z +ℤ c.args.divisor) (pos 2 *ℤ c.args.divisor) in
    subst P (product c) (simp to_z-of_z at c.round_half_up.ensures)

size : (c : goal.After-round_half_up) → unsigned_abs c.round_half_up.result ≤ 2 ^ 54
size c = whole_size c.round_half_up.result c.args.factor c.args.number c.args.divisor c.requires.positive c.requires.least c.requires.factor_fits c.requires.near (floor c)

pub overflow_cast-result : goal.overflow_cast-result
overflow_cast-result c =
    let small = size c in
    let wide : FitsSigned w128 c.round_half_up.result = omega (arith, ints) in
    simp to_z-of_z (omega (arith, ints))

pub returns-clause-value : goal.returns-clause-value
returns-clause-value c =
    let small = size c in
    let narrow : FitsSigned w64 c.round_half_up.result = omega (arith, ints) in
    let wide : FitsSigned w128 c.round_half_up.result = omega (arith, ints) in
    simp to_z-of_z (whole_is c.round_half_up.result (c.args.factor *ℤ c.args.number) c.args.divisor c.requires.positive (floor c))

pub returns-clause-size : goal.returns-clause-size
returns-clause-size c =
    let small = size c in
    let narrow : FitsSigned w64 c.round_half_up.result = omega (arith, ints) in
    let wide : FitsSigned w128 c.round_half_up.result = omega (arith, ints) in
    simp to_z-of_z small
