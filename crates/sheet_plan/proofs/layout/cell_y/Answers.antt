use Rattle.std.proofs.Common.{rules, arith, ap, sym, ◌∙◌, pos, ◌+ℤ◌, ℤ, FitsSigned}
use Rattle.std.specs.Int.{w64}
use Rattle.std.proofs.lemmas.Int.{ints, to_z-of_z}
use Rattle.sheet_plan.specs.Layout.{cell_y}
use Rattle.sheet_plan.proofs.layout.cell_y.Goals as goal

pub returns-in-Lower-clause-value : goal.returns-in-Lower-clause-value
returns-in-Lower-clause-value c shapes are =
    let at_fits : FitsSigned w64 c.at-in-Lower.result = search rules in
    let size = c.at-in-Lower.ensures.size in
    let least = size.least in
    let greatest = size.greatest in
    let sum_fits : FitsSigned w64 (pos 2000 +ℤ c.at-in-Lower.result) = omega (arith, ints) in
    simp to_z-of_z (ap (λ (z : ℤ). pos 2000 +ℤ z) (c.at-in-Lower.ensures.value _ are) ∙ sym (ap (cell_y shapes) c.in-Lower.is))
