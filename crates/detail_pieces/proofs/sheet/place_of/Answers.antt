use Rattle.std.proofs.Common.{◌≡◌, arith, pos, ◌+ℤ◌, ◌-ℤ◌, FitsSigned, ap}
use Rattle.std.specs.Prelude.{ℤ}
use Rattle.std.specs.Int.{w64}
use Rattle.std.proofs.lemmas.Int.{ints, to_z-of_z}
use Rattle.sheet_plan.specs.Numbers.{Measure, measure_of}
use Rattle.detail_pieces.specs.declared.windows.Window.{Window}
use Rattle.detail_pieces.specs.Pages.{across_on, upward_on}
use Rattle.detail_pieces.proofs.sheet.place_of.Goals as goal

pub returns-clause-x0 : goal.returns-clause-x0
returns-clause-x0 c =
    let o : Window = c.args.window.now in
    let ruler = c.args.ruler.now in
    let m : Measure = measure_of ruler.scale ruler.decimals in
    let low = o.u1_in_range in
    let low_fits : FitsSigned w64 o.u1 = omega (arith, ints) in
    let size = c.whole_across.ensures.size in
    let fits : FitsSigned w64 c.whole_across.result = omega (arith, ints) in
    let gap_fits : FitsSigned w64 (pos 2000 -ℤ c.whole_across.result) = omega (arith, ints) in
    let value : c.whole_across.result ≡ across_on m c.args.d.now o.u1 = simp to_z-of_z at c.whole_across.ensures.value in
    simp to_z-of_z (ap (λ (z : ℤ). pos 2000 -ℤ z) value)

pub returns-clause-y0 : goal.returns-clause-y0
returns-clause-y0 c =
    let o : Window = c.args.window.now in
    let ruler = c.args.ruler.now in
    let m : Measure = measure_of ruler.scale ruler.decimals in
    let high = o.v2_in_range in
    let high_fits : FitsSigned w64 o.v2 = omega (arith, ints) in
    let size = c.whole_upward.ensures.size in
    let fits : FitsSigned w64 c.whole_upward.result = omega (arith, ints) in
    let sum_fits : FitsSigned w64 (pos 2000 +ℤ c.whole_upward.result) = omega (arith, ints) in
    let value : c.whole_upward.result ≡ upward_on m c.args.d.now o.v2 = simp to_z-of_z at c.whole_upward.ensures.value in
    simp to_z-of_z (ap (λ (z : ℤ). pos 2000 +ℤ z) value)
