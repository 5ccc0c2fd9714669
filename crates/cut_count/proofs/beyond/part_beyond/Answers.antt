use Rattle.std.proofs.Common.{◌≡◌, ◌+◌, ◌<◌, ◌^◌, ap, sym, subst, ◌∙◌, arith, to_z, of_z, true, false}
use Rattle.std.specs.Prelude.{ℤ, pos, ◌<ℤ◌, ◌≤ℤ◌, unsigned_abs}
use Rattle.std.specs.Int.{w64}
use Rattle.std.specs.Int.Signed.{lt_z}
use Rattle.std.proofs.lemmas.Int.{ints}
use Rattle.lattice.specs.declared.points.Corner.{Corner}
use Rattle.lattice.specs.Cuts.{Plane, plane_of}
use Rattle.geometry.specs.Cuts.{over_of}
use Rattle.cut_count.proofs.BeyondParts.{part_whole, part_before, part_after, part_none}
use Rattle.cut_count.proofs.beyond.part_beyond.Goals as goal

-- the height of an end of the edge, as the code has it
height : (q : Plane) (k l : Corner) (r : ℤ) → unsigned_abs r < 2 ^ 23 → r ≡ over_of q k → l ≡ k → to_z w64 (of_z w64 r) ≡ over_of q l
height q k l r small value same = go r (over_of q k) small value ∙ ap (over_of q) (sym same)
  where
    go : (r z : ℤ) → unsigned_abs r < 2 ^ 23 → r ≡ z → to_z w64 (of_z w64 r) ≡ z
    go r z h e = omega (arith, ints)

below_zero : (z : ℤ) → lt_z z (pos 0) ≡ true → z <ℤ pos 0
below_zero z h = omega (arith, ints)

from_zero : (z : ℤ) → lt_z z (pos 0) ≡ false → pos 0 ≤ℤ z
from_zero z h = omega (arith, ints)

pub returns-then-to-lt0 : goal.returns-then-to-lt0
returns-then-to-lt0 c s e at_a at_b =
    let q = plane_of c.args.cut.now in
    let f = height q c.args.a.now e.a c.over-from.result c.over-from.ensures.size c.over-from.ensures.value at_a in
    let g = height q c.args.b.now e.b c.over-to.result c.over-to.ensures.size c.over-to.ensures.value at_b in
    let from = c.start in
    let to = c.finish in
    part_whole q e from.result to.result from.ensures.place to.ensures.place
    (subst (λ (z : ℤ). z <ℤ pos 0) f (below_zero _ c.if-from-lt0.true)) (subst (λ (z : ℤ). z <ℤ pos 0) g (below_zero _ c.if-to-lt0.true)) from.ensures.num from.ensures.den to.ensures.num to.ensures.den

pub returns-else-to-lt0 : goal.returns-else-to-lt0
returns-else-to-lt0 c s e at_a at_b =
    let q = plane_of c.args.cut.now in
    let f = height q c.args.a.now e.a c.over-from.result c.over-from.ensures.size c.over-from.ensures.value at_a in
    let g = height q c.args.b.now e.b c.over-to.result c.over-to.ensures.size c.over-to.ensures.value at_b in
    let from = c.start-else-to-lt0 in
    let to = c.meeting in
    part_before q e from.result to.result from.ensures.place to.ensures.place
    (subst (λ (z : ℤ). z <ℤ pos 0) f (below_zero _ c.if-from-lt0.true)) (subst (λ (z : ℤ). pos 0 ≤ℤ z) g (from_zero _ c.if-to-lt0.false)) from.ensures.num from.ensures.den
    (to.ensures.num ∙ (λ i. pos (unsigned_abs (f i)))) (to.ensures.den ∙ (λ i. pos (unsigned_abs (f i) + unsigned_abs (g i))))

pub returns-then-to-lt0-2 : goal.returns-then-to-lt0-2
returns-then-to-lt0-2 c s e at_a at_b =
    let q = plane_of c.args.cut.now in
    let f = height q c.args.a.now e.a c.over-from.result c.over-from.ensures.size c.over-from.ensures.value at_a in
    let g = height q c.args.b.now e.b c.over-to.result c.over-to.ensures.size c.over-to.ensures.value at_b in
    let from = c.meeting-then-to-lt0-2 in
    let to = c.finish-then-to-lt0-2 in
    part_after q e from.result to.result from.ensures.place to.ensures.place
    (subst (λ (z : ℤ). pos 0 ≤ℤ z) f (from_zero _ c.if-from-lt0.false)) (subst (λ (z : ℤ). z <ℤ pos 0) g (below_zero _ c.if-to-lt0-2.true))
    (from.ensures.num ∙ (λ i. pos (unsigned_abs (f i)))) (from.ensures.den ∙ (λ i. pos (unsigned_abs (f i) + unsigned_abs (g i)))) to.ensures.num to.ensures.den

pub returns-else-to-lt0-2 : goal.returns-else-to-lt0-2
returns-else-to-lt0-2 c s e at_a at_b =
    let q = plane_of c.args.cut.now in
    let f = height q c.args.a.now e.a c.over-from.result c.over-from.ensures.size c.over-from.ensures.value at_a in
    let g = height q c.args.b.now e.b c.over-to.result c.over-to.ensures.size c.over-to.ensures.value at_b in
    part_none q e (subst (λ (z : ℤ). pos 0 ≤ℤ z) f (from_zero _ c.if-from-lt0.false)) (subst (λ (z : ℤ). pos 0 ≤ℤ z) g (from_zero _ c.if-to-lt0-2.false))
