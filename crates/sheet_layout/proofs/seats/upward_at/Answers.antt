use Rattle.std.proofs.Common.{rules, ◌≤◌, ◌^◌, arith, subst, sym, FitsSigned}
use Rattle.std.specs.Prelude.{ℤ, unsigned_abs}
use Rattle.std.specs.Int.{w64}
use Rattle.std.proofs.lemmas.Int.{to_z-of_z}
use Rattle.lattice.specs.Points.{of_dir}
use Rattle.lattice.specs.Triple.{up_axis}
use Rattle.sheet_plan.specs.Numbers.{measure_of, square_of}
use Rattle.sheet_plan.proofs.Lengths.{length_small}
use Rattle.sheet_plan.proofs.Scales.{scale_bounds}
use Rattle.sheet_layout.proofs.seats.upward_at.Goals as goal

pub returns-clause-size : goal.returns-clause-size
returns-clause-size c =
    let ruler = c.args.ruler.now in
    let scale = scale_bounds ruler.scale.num ruler.scale.den ruler.scale.listed in
    let own_fits : FitsSigned w64 c.whole_upward.result = search rules in
    let v_fits : FitsSigned w64 c.args.v = c.ranges.v in
    let is = simp to_z-of_z at c.whole_upward.ensures.value in
    let small = length_small (measure_of ruler.scale ruler.decimals) (square_of (up_axis (of_dir c.args.d.now))) c.args.v scale.num_greatest scale.den_least scale.den_greatest ruler.few_decimals (omega (arith, c.requires)) in
    simp to_z-of_z (subst (λ (z : ℤ). unsigned_abs z ≤ 2 ^ 45) (sym is) small)
