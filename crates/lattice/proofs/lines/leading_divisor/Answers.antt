use Rattle.std.proofs.Common.{rules, ◌≡◌, arith, true, false, FitsSigned}
use Rattle.std.specs.Prelude.{ℤ, pos, ◌-ℤ◌, ◌≤ℤ◌, ◌<ℤ◌, int_lt}
use Rattle.std.specs.Int.{w128}
use Rattle.std.proofs.lemmas.Int.{ints, to_z-of_z}
use Rattle.lattice.proofs.LowestTerms.{upright, turned}
use Rattle.lattice.proofs.lines.leading_divisor.Goals as goal

negative : (r z : ℤ) → r ≡ z → int_lt r (pos 0) ≡ true → z <ℤ pos 0
negative r z e h = grind (arith, ints)

not_negative : (r z : ℤ) → r ≡ z → int_lt r (pos 0) ≡ false → pos 0 ≤ℤ z
not_negative r z e h = grind (arith, ints)

back_fits : (g : ℤ) → FitsSigned w128 g → pos 0 ≤ℤ g → FitsSigned w128 (pos 0 -ℤ g)
back_fits g f h = omega (arith, ints)

pub returns-then-leading-lt0 : goal.returns-then-leading-lt0
returns-then-leading-lt0 c =
    let a_fits = c.ranges.a in
    let b_fits = c.ranges.b in
    let c_fits = c.ranges.c in
    let h_fits : FitsSigned w128 c.gcd.result = search rules in
    let g_fits : FitsSigned w128 c.gcd-divisor.result = search rules in
    let l_fits : FitsSigned w128 c.leading.result = search rules in
    let one = simp to_z-of_z at c.gcd.ensures in
    let two = simp to_z-of_z at c.gcd-divisor.ensures in
    let less = negative c.leading.result _ (simp to_z-of_z at c.leading.ensures) (simp to_z-of_z at c.if-leading-lt0.true) in
    let back = back_fits c.gcd-divisor.result g_fits two.not_negative in
    simp to_z-of_z (turned c.args.a c.args.b c.args.c c.gcd.result c.gcd-divisor.result c.requires.somewhere one two less)

pub returns-else-leading-lt0 : goal.returns-else-leading-lt0
returns-else-leading-lt0 c =
    let a_fits = c.ranges.a in
    let b_fits = c.ranges.b in
    let c_fits = c.ranges.c in
    let h_fits : FitsSigned w128 c.gcd.result = search rules in
    let g_fits : FitsSigned w128 c.gcd-divisor.result = search rules in
    let l_fits : FitsSigned w128 c.leading.result = search rules in
    let one = simp to_z-of_z at c.gcd.ensures in
    let two = simp to_z-of_z at c.gcd-divisor.ensures in
    let least = not_negative c.leading.result _ (simp to_z-of_z at c.leading.ensures) (simp to_z-of_z at c.if-leading-lt0.false) in
    simp to_z-of_z (upright c.args.a c.args.b c.args.c c.gcd.result c.gcd-divisor.result c.requires.somewhere one two least)
