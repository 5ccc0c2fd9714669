use Rattle.std.proofs.Common.{arith, pos, ◌-ℤ◌, FitsSigned}
use Rattle.std.specs.Int.{w64}
use Rattle.std.proofs.lemmas.Int.{ints, to_z-of_z}
use Rattle.svg_page.proofs.page.frame.Goals as goal

pub returns : goal.returns
returns c =
    let width_fits = c.ranges.width in
    let height_fits = c.ranges.height in
    let w : FitsSigned w64 (c.args.width -ℤ pos 2000) = omega (arith, ints) in
    let h : FitsSigned w64 (c.args.height -ℤ pos 2000) = omega (arith, ints) in
    simp to_z-of_z at c.format.ensures.ok
