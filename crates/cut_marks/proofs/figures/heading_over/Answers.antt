use Rattle.std.proofs.Common.{◌≡◌, rules, FitsSigned, arith}
use Rattle.std.specs.Int.{w64}
use Rattle.std.specs.Prelude.{pos, ◌+ℤ◌, ◌-ℤ◌}
use Rattle.std.proofs.lemmas.Int.{ints, to_z-of_z}
use Rattle.integers.specs.Floors.{floor_of}
use Rattle.lattice.specs.Cuts.{plane_of}
use Rattle.cut_marks.proofs.figures.heading_over.Goals as goal

pub returns : goal.returns
returns c =
    let b = c.args.b.now in
    let left : FitsSigned w64 b.left = omega (arith, ints, b.left_in_range) in
    let right : FitsSigned w64 b.right = omega (arith, ints, b.right_in_range) in
    let top : FitsSigned w64 b.top = omega (arith, ints, b.top_in_range) in
    let sum : FitsSigned w64 (b.left +ℤ b.right) = omega (arith, ints, b.left_in_range, b.right_in_range) in
    let above : FitsSigned w64 (b.top -ℤ pos 200) = omega (arith, ints, b.top_in_range) in
    let middle_fits : FitsSigned w64 c.div_euclid.result = search rules in
    let middle : c.div_euclid.result ≡ floor_of (b.left +ℤ b.right) (pos 2) = simp to_z-of_z at c.div_euclid.ensures in
    let at_fits : FitsSigned w64 c.at.result = search rules in
    let place : c.at.result ≡ (plane_of c.args.cut.now).at = c.at.ensures.place in
    simp to_z-of_z (λ i. record { letter = c.args.letter; axis = c.axis.ensures i; at = place i; x = middle i; y = b.top -ℤ pos 200; room = c.args.room; has_section = c.args.has_section })
