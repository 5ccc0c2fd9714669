use Rattle.std.proofs.Common.{◌≡◌, ◌≤◌, ◌^◌, rules, arith, FitsSigned, to_z, of_z, subst, sym}
use Rattle.std.specs.Prelude.{ℤ, pos, ◌-ℤ◌, ◌<ℤ◌, unsigned_abs}
use Rattle.std.specs.Int.{w64, w128}
use Rattle.std.proofs.lemmas.Int.{ints, to_z-of_z}
use Rattle.hatch_fill.specs.inner.Numbers.{IsFirstNumber}
use Rattle.hatch_fill.proofs.FirstNumbers.{first_of_floor, wider, spaced_positive}
use Rattle.hatch_fill.proofs.numbers.first_number.Goals as goal

pub floored-requires-clause-positive : goal.floored-requires-clause-positive
floored-requires-clause-positive c =
    let x = c.args.at.now in
    let d_fits : FitsSigned w128 c.spaced.result = search rules in
    let x_fits : FitsSigned w128 x.den = search rules in
    let value = simp to_z-of_z at c.spaced.ensures.value in
    simp to_z-of_z (subst (λ (z : ℤ). pos 0 <ℤ z) (sym value) (spaced_positive x.den c.args.spacing c.requires.some x.positive))

pub floored-requires-clause-near : goal.floored-requires-clause-near
floored-requires-clause-near c =
    let x = c.args.at.now in
    let d_fits : FitsSigned w128 c.spaced.result = search rules in
    let x_fits : FitsSigned w128 x.den = search rules in
    let n_fits : FitsSigned w128 x.num = search rules in
    let o_fits : FitsSigned w128 (pos 0 -ℤ x.num) = search rules in
    let value = simp to_z-of_z at c.spaced.ensures.value in
    simp to_z-of_z (wider x.num x.den c.spaced.result c.args.spacing c.requires.some x.positive value c.requires.near)

pub returns-clause-first : goal.returns-clause-first
returns-clause-first c =
    let x = c.args.at.now in
    let d_fits : FitsSigned w128 c.spaced.result = search rules in
    let x_fits : FitsSigned w128 x.den = search rules in
    let n_fits : FitsSigned w128 x.num = search rules in
    let o_fits : FitsSigned w128 (pos 0 -ℤ x.num) = search rules in
    let value = simp to_z-of_z at c.spaced.ensures.value in
    let floor = simp to_z-of_z at c.floored.ensures.floor in
    let positive = subst (λ (z : ℤ). pos 0 <ℤ z) (sym value) (spaced_positive x.den c.args.spacing c.requires.some x.positive) in
    subst (λ (z : ℤ). IsFirstNumber x.num x.den c.args.spacing z) (sym (small c.floored.result c.floored.ensures.size)) (first_of_floor c.floored.result x.num x.den c.spaced.result c.args.spacing value positive floor)
  where
    small : (q : ℤ) → unsigned_abs q ≤ 2 ^ 31 → to_z w64 (of_z w64 (pos 0 -ℤ to_z w64 (of_z w64 q))) ≡ pos 0 -ℤ q
    small q h = omega (arith, ints)
