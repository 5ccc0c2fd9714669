use Rattle.std.proofs.Common.{◌≡◌, ◌<◌, ◌≤◌, ◌^◌, ◌∙◌, arith, to_z, of_z}
use Rattle.std.specs.Prelude.{ℤ, pos, ◌+ℤ◌, ◌*ℤ◌, unsigned_abs}
use Rattle.std.specs.Int.{w64, w128}
use Rattle.std.proofs.lemmas.Int.{ints}
use Rattle.lattice.specs.Triple.{dot, cross, right_axis, up_axis}
use Rattle.lattice.specs.Cuts.{plane_of, toward_of}
use Rattle.cut_plane.proofs.BorderLines.{border_is_on, border_somewhere}
use Rattle.cut_plane.proofs.side_crossings.border_line.Goals as goal

-- a doubled number that passed through the machine's numbers
twice : (r v z : ℤ) → unsigned_abs v ≤ 2 ^ 43 → r ≡ pos 2 *ℤ to_z w64 (of_z w64 v) → v ≡ z → to_z w128 (of_z w128 r) ≡ pos 2 *ℤ z
twice r v z size e f = omega (arith, ints)

wide : (r : ℤ) → unsigned_abs r < 2 ^ 67 → to_z w128 (of_z w128 r) ≡ r
wide r h = omega (arith, ints)

narrow : (r z : ℤ) → unsigned_abs r ≤ 2 ^ 43 → r ≡ z → to_z w64 (of_z w64 r) ≡ z
narrow r z h e = omega (arith, ints)

less : (r z : ℤ) → unsigned_abs r < 2 ^ 23 → r ≡ z → to_z w64 (of_z w64 r) ≡ z
less r z h e = omega (arith, ints)

small : (r z : ℤ) → unsigned_abs r ≤ 2 ^ 20 → r ≡ z → to_z w64 (of_z w64 r) ≡ z
small r z h e = omega (arith, ints)

pub lowest-requires-clause-somewhere : goal.lowest-requires-clause-somewhere
lowest-requires-clause-somewhere c =
    let plane = plane_of c.args.cut.now in
    let d = toward_of plane in
    let way = c.seen_normal-way in
    let normal_is = c.cross-normal.ensures ∙ (λ i. cross (c.between.ensures i) (c.between-2.ensures i)) in
    let x = twice c.doubled-across.result way.result.across _ way.ensures.size.x c.doubled-across.ensures.value (way.ensures.across ∙ (λ i. dot (right_axis d) (normal_is i))) in
    let y = twice c.doubled-upward.result way.result.upward _ way.ensures.size.y c.doubled-upward.ensures.value (way.ensures.upward ∙ (λ i. dot (up_axis d) (normal_is i))) in
    border_somewhere plane c.args.a.now c.args.b.now c.args.c.now _ _ x y c.requires.whole c.requires.crosses

pub returns : goal.returns
returns c =
    let plane = plane_of c.args.cut.now in
    let d = toward_of plane in
    let way = c.seen_normal-way in
    let corner = c.seen_corner-corner in
    let normal_is = c.cross-normal.ensures ∙ (λ i. cross (c.between.ensures i) (c.between-2.ensures i)) in
    let x = twice c.doubled-across.result way.result.across _ way.ensures.size.x c.doubled-across.ensures.value (way.ensures.across ∙ (λ i. dot (right_axis d) (normal_is i))) in
    let y = twice c.doubled-upward.result way.result.upward _ way.ensures.size.y c.doubled-upward.ensures.value (way.ensures.upward ∙ (λ i. dot (up_axis d) (normal_is i))) in
    let u = small corner.result.across _ corner.ensures.size.x corner.ensures.across in
    let v = small corner.result.upward _ corner.ensures.size.y corner.ensures.upward in
    let k = narrow way.result.height _ way.ensures.size.z (way.ensures.height ∙ (λ i. dot d (normal_is i))) in
    let h = less c.over.result _ c.over.ensures.size c.over.ensures.value in
    let z = wide c.constant-level.result c.constant-level.ensures.size ∙ c.constant-level.ensures.value ∙ (λ i. ((x i *ℤ u i) +ℤ (y i *ℤ v i)) +ℤ (k i *ℤ h i)) in
    border_is_on plane c.args.a.now c.args.b.now c.args.c.now c.lowest.result _ _ _ x y z c.lowest.ensures
