use Rattle.std.proofs.Common.{◌≡◌, ◌<◌, ◌^◌, ◌∙◌, sym, subst, arith, to_z, of_z, true}
use Rattle.std.specs.Prelude.{ℤ, pos, ◌<ℤ◌, unsigned_abs}
use Rattle.std.specs.Int.{w64, w128}
use Rattle.std.specs.Int.Signed.{lt_z}
use Rattle.std.proofs.lemmas.Int.{ints}
use Rattle.integers.proofs.Orders.{lt_z_of_less}
use Rattle.lattice.specs.Cuts.{plane_of}
use Rattle.geometry.specs.Cuts.{over_of}
use Rattle.hiding_laws.specs.Values.{value_at}
use Rattle.cut_count.proofs.EdgeHeights.{beyond_at}
use Rattle.cut_count.proofs.rests.is_beyond_at.Goals as goal

height : (r z : ℤ) → unsigned_abs r < 2 ^ 23 → r ≡ z → to_z w64 (of_z w64 r) ≡ z
height r z h e = omega (arith, ints)

to : (r z : ℤ) → unsigned_abs r < 2 ^ 94 → r ≡ z → lt_z (to_z w128 (of_z w128 r)) (pos 0) ≡ true → z <ℤ pos 0
to r z h e t = omega (arith, ints)

from : (r z : ℤ) → unsigned_abs r < 2 ^ 94 → r ≡ z → z <ℤ pos 0 → lt_z (to_z w128 (of_z w128 r)) (pos 0) ≡ true
from r z h e t =
    let out : to_z w128 (of_z w128 r) ≡ z = omega (arith, ints) in
    lt_z_of_less _ (pos 0) (subst (λ (x : ℤ). x <ℤ pos 0) (sym out) t)

pub returns : goal.returns
returns c =
    let plane = plane_of c.args.cut.now in
    let r = c.args.at.now in
    let f = height c.over.result (over_of plane c.args.a.now) c.over.ensures.size c.over.ensures.value in
    let g = height c.over-2.result (over_of plane c.args.b.now) c.over-2.ensures.size c.over-2.ensures.value in
    let value = c.between.ensures.value ∙ (λ i. value_at (f i) (g i) r.num r.den) in
    let beyond = beyond_at plane c.args.a.now c.args.b.now r.num r.den in
    (λ t. beyond.1 (to c.between.result _ c.between.ensures.size value t), λ h. from c.between.result _ c.between.ensures.size value (beyond.0 h))
