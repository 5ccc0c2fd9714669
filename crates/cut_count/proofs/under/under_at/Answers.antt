use Rattle.std.proofs.Common.{◌≡◌, ◌<◌, ◌^◌, ◌∙◌, arith, to_z, of_z}
use Rattle.std.specs.Prelude.{ℤ, ◌+ℤ◌, ◌-ℤ◌, ◌*ℤ◌, unsigned_abs}
use Rattle.std.specs.Int.{w64, w128}
use Rattle.std.proofs.lemmas.Int.{ints}
use Rattle.integers.proofs.Worth.{known, fits, pass, plus, below_of}
use Rattle.lattice.specs.Cuts.{plane_of}
use Rattle.geometry.specs.Faces.{difference}
use Rattle.cut_count.proofs.SeenTurns.{turn_is}
use Rattle.cut_count.proofs.UnderHeights.{by_heights}
use Rattle.cut_count.proofs.under.under_at.Goals as goal

height : (r z : ℤ) → unsigned_abs r < 2 ^ 23 → r ≡ z → to_z w64 (of_z w64 r) ≡ z
height r z h e = omega (arith, ints)

pub overflow_add-result-2 : goal.overflow_add-result-2
overflow_add-result-2 c =
    let x = pass w128 (known c.counted.result (2 ^ 116) c.counted.ensures.size) tt in
    let y = pass w128 (known c.counted-2.result (2 ^ 116) c.counted-2.ensures.size) tt in
    let z = pass w128 (known c.counted-3.result (2 ^ 116) c.counted-3.ensures.size) tt in
    fits w128 (plus (pass w128 (plus x y) tt) z) tt

pub returns-clause-small : goal.returns-clause-small
returns-clause-small c =
    let x = pass w128 (known c.counted.result (2 ^ 116) c.counted.ensures.size) tt in
    let y = pass w128 (known c.counted-2.result (2 ^ 116) c.counted-2.ensures.size) tt in
    let z = pass w128 (known c.counted-3.result (2 ^ 116) c.counted-3.ensures.size) tt in
    below_of (2 ^ 118) (pass w128 (plus (pass w128 (plus x y) tt) z) tt) tt

pub returns-clause-value : goal.returns-clause-value
returns-clause-value c =
    let plane = plane_of c.args.cut.now in
    let a = c.args.a.now in
    let b = c.args.b.now in
    let e = c.args.c.now in
    let p = c.args.p.now in
    let x = pass w128 (known c.counted.result (2 ^ 116) c.counted.ensures.size) tt in
    let y = pass w128 (known c.counted-2.result (2 ^ 116) c.counted-2.ensures.size) tt in
    let z = pass w128 (known c.counted-3.result (2 ^ 116) c.counted-3.ensures.size) tt in
    let to_a = c.step-x.ensures in
    let to_b = c.step-y.ensures in
    let to_c = c.step-z.ensures in
    let high = height c.over.result _ c.over.ensures.size c.over.ensures.value in
    let high_b = height c.over-2.result _ c.over-2.ensures.size c.over-2.ensures.value in
    let high_c = height c.over-3.result _ c.over-3.ensures.size c.over-3.ensures.value in
    let turn_a = (pass w128 (known c.turn.result (2 ^ 93) c.turn.ensures.size) tt).is ∙ c.turn.ensures.value
    ∙ (λ i. (to_c.across i *ℤ to_b.upward i) -ℤ (to_c.upward i *ℤ to_b.across i)) ∙ turn_is plane (difference p e) (difference p b) in
    let turn_b = (pass w128 (known c.turn-2.result (2 ^ 93) c.turn-2.ensures.size) tt).is ∙ c.turn-2.ensures.value
    ∙ (λ i. (to_a.across i *ℤ to_c.upward i) -ℤ (to_a.upward i *ℤ to_c.across i)) ∙ turn_is plane (difference p a) (difference p e) in
    let turn_c = (pass w128 (known c.turn-3.result (2 ^ 93) c.turn-3.ensures.size) tt).is ∙ c.turn-3.ensures.value
    ∙ (λ i. (to_b.across i *ℤ to_a.upward i) -ℤ (to_b.upward i *ℤ to_a.across i)) ∙ turn_is plane (difference p b) (difference p a) in
    (pass w128 (plus (pass w128 (plus x y) tt) z) tt).is
    ∙ (λ i. (c.counted.ensures.value i +ℤ c.counted-2.ensures.value i) +ℤ c.counted-3.ensures.value i)
    ∙ (λ i. ((high i *ℤ turn_a i) +ℤ (high_b i *ℤ turn_b i)) +ℤ (high_c i *ℤ turn_c i))
    ∙ by_heights plane a b e p
