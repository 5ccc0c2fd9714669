use Rattle.std.proofs.Common.{sym, subst, ◌∙◌, ℤ, pos, ◌<ℤ◌, to_z, of_z, true≢false}
use Rattle.std.specs.Int.{w128}
use Rattle.integers.proofs.Logic.{↔-trans}
use Rattle.lattice.specs.Triple.{Triple, dot, cross, IsZero}
use Rattle.lattice.specs.Points.{of_dir}
use Rattle.meeting.specs.inner.Heights.{height_of, AreOnOneSide}
use Rattle.meeting.proofs.CommonPoints.{off-plane, place-of-touch, touch-of-place}
use Rattle.meeting.proofs.Products.{height_read}
use Rattle.meeting.proofs.touching.touches.Goals as goal

pub returns-then-are_on_one_side : goal.returns-then-are_on_one_side
returns-then-are_on_one_side c =
    let s = c.args in
    let start = height_read c.above.result c.above.ensures.size ∙ c.above.ensures.value in
    let end = height_read c.above-2.result c.above-2.ensures.size ∙ c.above-2.ensures.value in
    let side =
    subst (λ (z : ℤ). AreOnOneSide z (height_of s.a.now s.b.now s.c.now s.q.now)) start
    (subst (AreOnOneSide (to_z w128 (of_z w128 c.above.result))) end (c.are_on_one_side.ensures.0 c.if-are_on_one_side.true)) in
    (λ h. cc, λ t. absurd (off-plane s.a.now s.b.now s.c.now s.p.now s.q.now side t))

pub touches_flat-requires : goal.touches_flat-requires
touches_flat-requires c =
    subst IsZero (c.cross-normal.ensures ∙ (λ i. cross (c.between.ensures i) (c.between-2.ensures i))) (c.is_zero.ensures.0 c.if-is_zero.true)

pub front-requires : goal.front-requires
front-requires c = λ h. true≢false (sym (c.is_zero.ensures.1 h) ∙ c.if-is_zero.false)

pub returns : goal.returns
returns c =
    let s = c.args in
    let d = of_dir c.front.result in
    let normal = c.cross-normal.ensures ∙ (λ i. cross (c.between.ensures i) (c.between-2.ensures i)) in
    let front = subst (λ (n : Triple). pos 0 <ℤ dot d n) normal c.front.ensures in
    ↔-trans c.crosses.ensures (
      (λ r. touch-of-place d s.a.now s.b.now s.c.now s.p.now s.q.now c.new.result c.new.ensures front r),
      (λ t. place-of-touch d s.a.now s.b.now s.c.now s.p.now s.q.now c.new.result c.new.ensures front t),
    )
