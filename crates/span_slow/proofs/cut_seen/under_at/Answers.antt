use Rattle.std.proofs.Common.{◌∙◌, ◌^◌}
use Rattle.std.specs.Prelude.{pos, ◌-ℤ◌, ◌*ℤ◌}
use Rattle.std.specs.Int.{w64, w128}
use Rattle.integers.proofs.Worth.{known, below, pass}
use Rattle.lattice.specs.Triple.{dot, cross, det}
use Rattle.lattice.specs.Cuts.{plane_of, toward_of}
use Rattle.hiding_laws.proofs.CornerValues.{depth_at}
use Rattle.span_slow.proofs.cut_seen.under_at.Goals as goal

pub returns-clause-value : goal.returns-clause-value
returns-clause-value c =
    let d = toward_of (plane_of c.args.cut.now) in
    let s = c.between-s.ensures in
    let t = c.between-t.ensures in
    let front = (pass w64 (known c.facing.result (2 ^ 43) c.facing.ensures.size) tt).is ∙ c.facing.ensures.value ∙ (λ i. dot d (c.cross.ensures i)) ∙ (λ i. dot d (cross (s i) (t i))) in
    let depth = (pass w128 (below c.det3-depth.result (2 ^ 66) c.det3-depth.ensures.size) tt).is ∙ c.det3-depth.ensures.value ∙ (λ i. det (c.between.ensures i) (s i) (t i)) ∙ depth_at c.args.a.now c.args.b.now c.args.c.now c.args.p.now in
    let low = (pass w128 (known c.below.result (2 ^ 23) c.below.ensures.size) tt).is ∙ c.below.ensures.value in
    (pass w128 (below c.lowered.result (2 ^ 68) c.lowered.ensures.small) tt).is ∙ c.lowered.ensures.value ∙ (λ i. (front i *ℤ low i) -ℤ (pos 2 *ℤ depth i))
