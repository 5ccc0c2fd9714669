use Rattle.std.proofs.Common.{rules, ◌≡◌, [], ◌∷◌, true, refl, ◌≤◌, ◌<◌, ◌^◌, FitsSigned, arith, unsigned_abs}
use Rattle.std.specs.Prelude.{ℤ, pos, ◌+ℤ◌, ◌-ℤ◌, ◌*ℤ◌, ◌<ℤ◌}
use Rattle.std.specs.Int.{w128}
use Rattle.std.specs.Int.Signed.{lt_z}
use Rattle.std.proofs.lemmas.Int.{ints, to_z-of_z}
use Rattle.integers.proofs.Ring.{var, con, ◌⊕◌, ◌⊖◌, ◌⊗◌, ring, by_one}
use Rattle.detail_pieces.proofs.crossings.other.Goals as goal

on_line : (p q c at num : ℤ) → num ≡ c -ℤ (at *ℤ p) → (p *ℤ (at *ℤ q)) +ℤ (q *ℤ num) ≡ c *ℤ q
on_line p q c at num e =
    by_one _ _ num (c -ℤ (at *ℤ p)) q
    (ring (p ∷ q ∷ c ∷ at ∷ num ∷ []) (((var 0 ⊗ (var 3 ⊗ var 1)) ⊕ (var 1 ⊗ var 4)) ⊖ (var 2 ⊗ var 1)) ((var 4 ⊖ (var 2 ⊖ (var 3 ⊗ var 0))) ⊗ var 1) refl) e

on_line_back : (p q c at num : ℤ) → num ≡ c -ℤ (at *ℤ p) → (p *ℤ (at *ℤ (pos 0 -ℤ q))) +ℤ (q *ℤ (pos 0 -ℤ num)) ≡ c *ℤ (pos 0 -ℤ q)
on_line_back p q c at num e =
    by_one _ _ num (c -ℤ (at *ℤ p)) (pos 0 -ℤ q)
    (ring (p ∷ q ∷ c ∷ at ∷ num ∷ []) (((var 0 ⊗ (var 3 ⊗ (con (pos 0) ⊖ var 1))) ⊕ (var 1 ⊗ (con (pos 0) ⊖ var 4))) ⊖ (var 2 ⊗ (con (pos 0) ⊖ var 1))) ((var 4 ⊖ (var 2 ⊖ (var 3 ⊗ var 0))) ⊗ (con (pos 0) ⊖ var 1)) refl) e

back_fits : (z : ℤ) → unsigned_abs z ≤ 2 ^ 86 → FitsSigned w128 (pos 0 -ℤ z)
back_fits z h = omega (arith, ints)

wider : (z : ℤ) → unsigned_abs z ≤ 2 ^ 44 → unsigned_abs z ≤ 2 ^ 86
wider z h = omega arith

back_positive : (q : ℤ) → lt_z q (pos 0) ≡ true → pos 0 <ℤ (pos 0 -ℤ q)
back_positive q h = grind (arith, ints)

back_below : (z : ℤ) → unsigned_abs z ≤ 2 ^ 86 → unsigned_abs (pos 0 -ℤ z) < 2 ^ 127
back_below z h = omega (arith, ints)

back_size : (z : ℤ) → unsigned_abs z ≤ 2 ^ 86 → unsigned_abs (pos 0 -ℤ z) ≤ 2 ^ 86
back_size z h = omega (arith, ints)

pub invariant_of-result : goal.invariant_of-result
invariant_of-result c =
    let q_fits = c.ranges.q in
    let num_fits : FitsSigned w128 c.rest-num.result = search rules in
    let back_q = back_fits c.args.q (wider c.args.q c.requires.second) in
    let back_num = back_fits c.rest-num.result c.rest-num.ensures.size in
    record {
      positive = simp to_z-of_z (back_positive c.args.q (simp to_z-of_z at c.if-q-lt0.true));
      not_least = simp to_z-of_z (back_below c.rest-num.result c.rest-num.ensures.size);
    }

pub returns-then-q-lt0-clause-on_line : goal.returns-then-q-lt0-clause-on_line
returns-then-q-lt0-clause-on_line c =
    let q_fits = c.ranges.q in
    let p_fits = c.ranges.p in
    let c_fits = c.ranges.c in
    let at_fits = c.ranges.at in
    let num_fits : FitsSigned w128 c.rest-num.result = search rules in
    let back_q = back_fits c.args.q (wider c.args.q c.requires.second) in
    let back_num = back_fits c.rest-num.result c.rest-num.ensures.size in
    simp to_z-of_z (on_line_back c.args.p c.args.q c.args.c c.args.at c.rest-num.result (simp to_z-of_z at c.rest-num.ensures.value))

pub returns-then-q-lt0-clause-num : goal.returns-then-q-lt0-clause-num
returns-then-q-lt0-clause-num c =
    let num_fits : FitsSigned w128 c.rest-num.result = search rules in
    let back_num = back_fits c.rest-num.result c.rest-num.ensures.size in
    simp to_z-of_z (back_size c.rest-num.result c.rest-num.ensures.size)

pub returns-clause-on_line : goal.returns-clause-on_line
returns-clause-on_line c =
    let q_fits = c.ranges.q in
    let p_fits = c.ranges.p in
    let c_fits = c.ranges.c in
    let at_fits = c.ranges.at in
    let num_fits : FitsSigned w128 c.rest-num.result = search rules in
    simp to_z-of_z (on_line c.args.p c.args.q c.args.c c.args.at c.rest-num.result (simp to_z-of_z at c.rest-num.ensures.value))
