use Rattle.std.proofs.Common.{◌<◌, ◌^◌, ◌∙◌, sym, subst, arith, rules, FitsSigned, to_z, of_z}
use Rattle.std.specs.Prelude.{ℤ, pos, ◌+ℤ◌, ◌*ℤ◌, ◌<ℤ◌, ◌≤ℤ◌, unsigned_abs}
use Rattle.std.specs.Int.{w128}
use Rattle.std.proofs.lemmas.Int.{ints, to_z-of_z}
use Rattle.cut_plane.proofs.Floors.{less_by_floor, sum_of_parts}
use Rattle.cut_plane.proofs.parity.is_before.Goals as goal

small : (r d : ℤ) → pos 0 ≤ℤ r → r <ℤ d → unsigned_abs d < 2 ^ 70 → unsigned_abs (to_z w128 (of_z w128 r)) < 2 ^ 70
small r d h k l = omega (arith, ints)

pub summed-rest-requires-clause-second : goal.summed-rest-requires-clause-second
summed-rest-requires-clause-second c = small c.split-first.result.rest c.args.u.now.den c.split-first.ensures.least c.split-first.ensures.less c.requires.small

pub summed-rest-requires-clause-fourth : goal.summed-rest-requires-clause-fourth
summed-rest-requires-clause-fourth c =
    let Small : ℤ → Type 0 = λ d. unsigned_abs d < 2 ^ 70 in
    small c.split-second.result.rest c.args.v.now.den c.split-second.ensures.least c.split-second.ensures.less (subst Small c.requires.same c.requires.small)

pub returns : goal.returns
returns c =
    let l = c.args.line.now in
    let u = c.args.u.now in
    let v = c.args.v.now in
    let first = c.split-first.result in
    let second = c.split-second.result in
    let a_fits : FitsSigned w128 l.a = search rules in
    let b_fits : FitsSigned w128 l.b = search rules in
    let c_fits : FitsSigned w128 l.c = search rules in
    let d_fits : FitsSigned w128 u.den = search rules in
    let first_fits : FitsSigned w128 first.whole = search rules in
    let second_fits : FitsSigned w128 second.whole = search rules in
    let first_rest_fits : FitsSigned w128 first.rest = search rules in
    let second_rest_fits : FitsSigned w128 second.rest = search rules in
    let whole_fits : FitsSigned w128 c.summed-whole.result = search rules in
    let rest_fits : FitsSigned w128 c.summed-rest.result = search rules in
    let floor_fits : FitsSigned w128 c.floored.result = search rules in
    let whole = simp to_z-of_z at c.summed-whole.ensures.value in
    let rest = simp to_z-of_z at c.summed-rest.ensures.value in
    let floor = simp to_z-of_z at c.floored.ensures.floor in
    let less = simp to_z-of_z at c.is_less.ensures in
    let parts = c.split-second.ensures.parts ∙ (λ i. (second.whole *ℤ sym c.requires.same i) +ℤ second.rest) in
    let sum = sum_of_parts l.a l.b u.num v.num u.den first.whole second.whole first.rest second.rest c.split-first.ensures.parts parts ∙ (λ i. (sym whole i *ℤ u.den) +ℤ sym rest i) in
    let By : ℤ → Type 0 = λ z. z <ℤ (l.c *ℤ u.den) in
    let both = less_by_floor c.summed-whole.result c.summed-rest.result l.c u.den c.floored.result u.positive floor in (
      (λ t. subst By (sym sum) (both.0 (less.0 t))),
      (λ h. less.1 (both.1 (subst By sum h))),
    )
