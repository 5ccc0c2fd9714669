use Rattle.std.proofs.Common.{◌≡◌, arith, FitsSigned}
use Rattle.std.specs.Int.{w64}
use Rattle.std.proofs.lemmas.Int.{ints, to_z-of_z}
use Rattle.integers.proofs.Comparisons.{at_most_of_less}
use Rattle.lattice.specs.Points.{of_dir}
use Rattle.lattice.specs.Triple.{up_axis}
use Rattle.sheet_plan.specs.Numbers.{Measure, measure_of, square_of}
use Rattle.detail_pieces.specs.declared.windows.Window.{Window}
use Rattle.detail_pieces.specs.Pages.{upward_on}
use Rattle.detail_pieces.proofs.Orders.{length_ordered, divisor_positive, at_most_through}
use Rattle.detail_pieces.proofs.sheet.height_of.Goals as goal

pub room-requires-clause-ordered : goal.room-requires-clause-ordered
room-requires-clause-ordered c =
    let o : Window = c.args.window.now in
    let ruler = c.args.ruler.now in
    let m : Measure = measure_of ruler.scale ruler.decimals in
    let low = o.v1_in_range in
    let high = o.v2_in_range in
    let low_fits : FitsSigned w64 o.v1 = omega (arith, ints) in
    let high_fits : FitsSigned w64 o.v2 = omega (arith, ints) in
    let first_size = c.whole_upward.ensures.size in
    let second_size = c.whole_upward-2.ensures.size in
    let first_fits : FitsSigned w64 c.whole_upward.result = omega (arith, ints) in
    let second_fits : FitsSigned w64 c.whole_upward-2.result = omega (arith, ints) in
    let first : c.whole_upward.result ≡ upward_on m c.args.d.now o.v1 = simp to_z-of_z at c.whole_upward.ensures.value in
    let second : c.whole_upward-2.result ≡ upward_on m c.args.d.now o.v2 = simp to_z-of_z at c.whole_upward-2.ensures.value in
    simp to_z-of_z (at_most_through c.whole_upward.result c.whole_upward-2.result (upward_on m c.args.d.now o.v1) (upward_on m c.args.d.now o.v2) first second
    (length_ordered m (square_of (up_axis (of_dir c.args.d.now))) o.v1 o.v2 (divisor_positive ruler.scale ruler.decimals ruler.few_decimals) (at_most_of_less o.v1 o.v2 o.tall)))
