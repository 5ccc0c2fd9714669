use Rattle.std.proofs.Common.{rules, arith, ◌+ℤ◌, ◌-ℤ◌, ap, ◌∙◌, FitsSigned, ℤ}
use Rattle.std.specs.Int.{w64}
use Rattle.std.proofs.lemmas.Int.{ints, to_z-of_z}
use Rattle.lattice.specs.Points.{of_dir}
use Rattle.lattice.specs.Triple.{right_axis, up_axis}
use Rattle.sheet_plan.specs.Numbers.{measure_of, square_of, sheet_length}
use Rattle.sheet_plan.proofs.sheet.Sheet.shown.Goals as goal

pub overflow_sub-result : goal.overflow_sub-result
overflow_sub-result c =
    let origin_fits : FitsSigned w64 c.args.place.now.y0 = search rules in
    let length_fits : FitsSigned w64 c.upward-up.result = search rules in
    let origin = c.args.place.now.y_in_range in
    let length = c.upward-up.ensures.size in
    simp to_z-of_z (omega (arith, ints))

pub returns : goal.returns
returns c =
    let sheet = c.args.self.now in
    let d = of_dir c.args.place.now.d in
    let x_fits : FitsSigned w64 c.args.place.now.x0 = search rules in
    let y_fits : FitsSigned w64 c.args.place.now.y0 = search rules in
    let right_fits : FitsSigned w64 c.across-right.result = search rules in
    let up_fits : FitsSigned w64 c.upward-up.result = search rules in
    let x_small = c.args.place.now.x_in_range in
    let y_small = c.args.place.now.y_in_range in
    let right_small = c.across-right.ensures.size in
    let up_small = c.upward-up.ensures.size in
    let sum_fits : FitsSigned w64 (c.args.place.now.x0 +ℤ c.across-right.result) = omega (arith, ints) in
    let difference_fits : FitsSigned w64 (c.args.place.now.y0 -ℤ c.upward-up.result) = omega (arith, ints) in
    record {
      right = simp to_z-of_z (ap (λ (z : ℤ). c.args.place.now.x0 +ℤ z)
          (c.across-right.ensures.value ∙ (λ i. sheet_length (measure_of sheet.scale sheet.decimals) (square_of (right_axis d)) (c.across.ensures.ratio.num i) (c.across.ensures.ratio.den i))));
      down = simp to_z-of_z (ap (λ (z : ℤ). c.args.place.now.y0 -ℤ z)
          (c.upward-up.ensures.value ∙ (λ i. sheet_length (measure_of sheet.scale sheet.decimals) (square_of (up_axis d)) (c.upward.ensures.ratio.num i) (c.upward.ensures.ratio.den i))));
    }
