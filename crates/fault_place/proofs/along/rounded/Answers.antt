use Rattle.std.proofs.Common.{◌≡◌, ◌+◌, ◌≤◌, ◌<◌, ◌^◌, arith, pos, ◌+ℤ◌, ◌∙◌, unsigned_abs, FitsSigned, sym, subst}
use Rattle.std.specs.Int.{w32, w128}
use Rattle.std.specs.Prelude.{ℤ}
use Rattle.std.proofs.lemmas.Int.{ints, to_z-of_z, to_z_pos}
use Rattle.integers.proofs.Absolutes.{natural_positive}
use Rattle.integers.proofs.Worth.{known, pass, plus}
use Rattle.fault_place.specs.Places.{nearest}
use Rattle.fault_place.proofs.Rounding.{between, between_size, nearest_is}
use Rattle.fault_place.proofs.along.rounded.Goals as goal

-- what is rounded, and by what it is divided
value : (c : goal.After-round_half_up) → c.round_half_up.result ≡ nearest (between c.args.w.now.first c.args.w.now.second c.args.p c.args.q) (pos (c.args.w.now.first + c.args.w.now.second))
value c =
    let w = c.args.w.now in
    let p_fits = c.ranges.p in
    let q_fits = c.ranges.q in
    let first = (pass w128 (known c.weighed.result (2 ^ 108) c.weighed.ensures.size) tt) in
    let second = (pass w128 (known c.weighed-2.result (2 ^ 108) c.weighed-2.ensures.size) tt) in
    let sum = (pass w128 (plus first second) tt).is in
    let at_p = simp to_z-of_z at c.weighed.ensures.value in
    let at_q = simp to_z-of_z at c.weighed-2.ensures.value in
    let below : w.first + w.second < 2 ^ 127 = omega (arith, w.first_small, w.second_small) in
    nearest_is c.round_half_up.result _ (pos (w.first + w.second)) _ _ (natural_positive (w.first + w.second) w.some)
    (sum ∙ (λ i. at_p i +ℤ at_q i)) (to_z_pos w128 (w.first + w.second) below) c.round_half_up.ensures

size : (c : goal.After-round_half_up) → unsigned_abs c.round_half_up.result ≤ 2 ^ 20
size c =
    let w = c.args.w.now in
    subst (λ (z : ℤ). unsigned_abs z ≤ 2 ^ 20) (sym (value c)) (between_size w.first w.second (2 ^ 20) c.args.p c.args.q w.some c.requires.first c.requires.second)

pub overflow_cast-result : goal.overflow_cast-result
overflow_cast-result c =
    let small = size c in
    let wide : FitsSigned w128 c.round_half_up.result = omega (arith, ints) in
    simp to_z-of_z (omega (arith, ints))

pub returns-clause-value : goal.returns-clause-value
returns-clause-value c =
    let small = size c in
    let narrow : FitsSigned w32 c.round_half_up.result = omega (arith, ints) in
    let wide : FitsSigned w128 c.round_half_up.result = omega (arith, ints) in
    simp to_z-of_z (value c)

pub returns-clause-size : goal.returns-clause-size
returns-clause-size c =
    let small = size c in
    let narrow : FitsSigned w32 c.round_half_up.result = omega (arith, ints) in
    let wide : FitsSigned w128 c.round_half_up.result = omega (arith, ints) in
    simp to_z-of_z small
