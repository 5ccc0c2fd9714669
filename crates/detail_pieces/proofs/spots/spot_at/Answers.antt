use Rattle.std.proofs.Common.{rules, ◌*◌, ◌^◌, ◌<◌, FitsSigned, arith, unsigned_abs, lit≤}
use Rattle.std.specs.Int.{w128}
use Rattle.std.proofs.lemmas.Int.{to_z-of_z}
use Rattle.lattice.specs.Points.{of_dir}
use Rattle.detail_pieces.specs.inner.Steps.{of_reach}
use Rattle.detail_pieces.proofs.Reached.{IsReached, reached, near_size, near_below}
use Rattle.detail_pieces.proofs.Sizes.{within_more}
use Rattle.detail_pieces.proofs.spots.spot_at.Goals as goal

pub step-requires-2-clause-size : goal.step-requires-2-clause-size
step-requires-2-clause-size c = within_more (18 * 2 ^ 98) (2 ^ 112) _ (lit≤ tt) (c.step.ensures.size (2 ^ 98) c.foot.ensures.size)

pub step-near-requires-clause-size : goal.step-near-requires-clause-size
step-near-requires-clause-size c = within_more (18 * (18 * 2 ^ 98)) (2 ^ 112) _ (lit≤ tt) (c.step-2.ensures.size (18 * 2 ^ 98) (c.step.ensures.size (2 ^ 98) c.foot.ensures.size))

pub invariant_of-result : goal.invariant_of-result
invariant_of-result c =
    let d = c.args.d.now in
    let q = c.step-near.result in
    let x_fits : FitsSigned w128 q.x = search rules in
    let y_fits : FitsSigned w128 q.y = search rules in
    let z_fits : FitsSigned w128 q.z = search rules in
    let w_fits : FitsSigned w128 q.w = search rules in
    let there : IsReached (of_dir d) c.args.place.now (of_reach q) =
    reached d c.args.place.now c.requires c.ahead-x.result c.turned-y.result c.turned-z.result c.foot.result c.step.result c.step-2.result q c.ahead-x.ensures c.turned-y.ensures c.turned-z.ensures
    c.foot.ensures.seen c.foot.ensures.positive c.step.ensures.step c.step-2.ensures.step c.step-near.ensures.step in
    let short : unsigned_abs q.w < 2 ^ 70 = omega (arith, c.foot.ensures.divisor, c.step.ensures.divisor, c.step-2.ensures.divisor, c.step-near.ensures.divisor) in
    record {
      positive = simp to_z-of_z there.positive;
      w_in_range = simp to_z-of_z short;
      x_in_range = simp to_z-of_z (near_below q.x q.w there.positive short there.in_box.x);
      y_in_range = simp to_z-of_z (near_below q.y q.w there.positive short there.in_box.y);
      z_in_range = simp to_z-of_z (near_below q.z q.w there.positive short there.in_box.z);
      x_near = simp to_z-of_z (near_size q.x q.w there.positive there.in_box.x);
      y_near = simp to_z-of_z (near_size q.y q.w there.positive there.in_box.y);
      z_near = simp to_z-of_z (near_size q.z q.w there.positive there.in_box.z);
    }

pub returns : goal.returns
returns c =
    let d = c.args.d.now in
    let q = c.step-near.result in
    let x_fits : FitsSigned w128 q.x = search rules in
    let y_fits : FitsSigned w128 q.y = search rules in
    let z_fits : FitsSigned w128 q.z = search rules in
    let w_fits : FitsSigned w128 q.w = search rules in
    let there : IsReached (of_dir d) c.args.place.now (of_reach q) =
    reached d c.args.place.now c.requires c.ahead-x.result c.turned-y.result c.turned-z.result c.foot.result c.step.result c.step-2.result q c.ahead-x.ensures c.turned-y.ensures c.turned-z.ensures
    c.foot.ensures.seen c.foot.ensures.positive c.step.ensures.step c.step-2.ensures.step c.step-near.ensures.step in
    simp to_z-of_z there.seen
