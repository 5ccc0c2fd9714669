use Rattle.std.proofs.Common.{rules, ◌∙◌, FitsSigned}
use Rattle.std.specs.Int.{w64}
use Rattle.std.proofs.lemmas.Int.{to_z-of_z}
use Rattle.lattice.specs.Points.{of_dir}
use Rattle.lattice.specs.Triple.{up_axis}
use Rattle.sheet_plan.specs.Numbers.{measure_of, square_of, sheet_length}
use Rattle.sheet_plan.proofs.shapes.upward_at.Goals as goal

pub returns-clause-value : goal.returns-clause-value
returns-clause-value c =
    let ruler = c.args.ruler.now in
    let fits = c.ranges.v in
    let length_fits : FitsSigned w64 c.upward.result = search rules in
    let num = simp to_z-of_z at c.whole.ensures.num in
    simp to_z-of_z (c.upward.ensures.value ∙ (λ i. sheet_length (measure_of ruler.scale ruler.decimals) (square_of (up_axis (of_dir c.args.d.now))) (num i) (c.whole.ensures.den i)))
