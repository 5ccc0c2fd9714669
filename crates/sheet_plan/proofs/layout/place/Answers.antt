use Rattle.std.proofs.Common.{rules, arith, ap, ◌+ℤ◌, ◌-ℤ◌, ℤ, FitsSigned}
use Rattle.std.specs.Int.{w64}
use Rattle.std.proofs.lemmas.Int.{ints, to_z-of_z}
use Rattle.sheet_plan.proofs.layout.place.Goals as goal

pub overflow_sub-result : goal.overflow_sub-result
overflow_sub-result c =
    let left = c.requires.shape.left in
    let x = c.cell_x.ensures.size in
    omega (arith, ints)

pub overflow_add-result : goal.overflow_add-result
overflow_add-result c =
    let top = c.requires.shape.top in
    let y = c.cell_y.ensures.size in
    omega (arith, ints)

pub invariant_of-result : goal.invariant_of-result
invariant_of-result c =
    let left = c.requires.shape.left in
    let top = c.requires.shape.top in
    let x = c.cell_x.ensures.size in
    let y = c.cell_y.ensures.size in
    record { x_in_range = omega (arith, ints); y_in_range = omega (arith, ints) }

pub returns-clause-stands : goal.returns-clause-stands
returns-clause-stands c shapes i rows columns taken =
    let left = c.requires.shape.left in
    let top = c.requires.shape.top in
    let x = c.cell_x.ensures.size in
    let y = c.cell_y.ensures.size in
    let taken_fits : FitsSigned w64 c.args.taken = search rules in
    let x_fits : FitsSigned w64 c.cell_x.result = search rules in
    let y_fits : FitsSigned w64 c.cell_y.result = search rules in
    let left_fits : FitsSigned w64 c.args.shape.now.left = search rules in
    let top_fits : FitsSigned w64 c.args.shape.now.top = search rules in
    let difference_fits : FitsSigned w64 (c.cell_x.result -ℤ c.args.shape.now.left) = omega (arith, ints) in
    let sum_fits : FitsSigned w64 (c.cell_y.result +ℤ c.args.shape.now.top) = omega (arith, ints) in
    record {
      x = simp to_z-of_z (ap (λ (z : ℤ). z -ℤ c.args.shape.now.left) (c.cell_x.ensures.value shapes i columns (simp to_z-of_z taken)));
      y = simp to_z-of_z (ap (λ (z : ℤ). z +ℤ c.args.shape.now.top) (c.cell_y.ensures.value shapes rows));
    }
