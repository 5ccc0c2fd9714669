use Rattle.std.proofs.Common.{sym, subst, ap, ◌∙◌, ◌<ℤ◌, pos, to_z, of_z, true≢false}
use Rattle.std.specs.Int.{w128}
use Rattle.integers.proofs.Logic.{↔-trans}
use Rattle.lattice.specs.Triple.{Triple, dot, cross, IsZero}
use Rattle.lattice.specs.Points.{of_dir}
use Rattle.meeting.proofs.Products.{height_read, offset_read}
use Rattle.meeting.proofs.Machine.{signs_read}
use Rattle.meeting.proofs.Beyond.{beyond, beyond-level}
use Rattle.meeting.proofs.touching.touches_beyond.Goals as goal

pub returns-then-above-ne0 : goal.returns-then-above-ne0
returns-then-above-ne0 c =
    let s = c.args in
    (λ h. cc, λ t. absurd (c.if-above-ne0.true (ap (of_z w128) (c.above.ensures.value ∙ beyond-level s.a.now s.b.now s.c.now s.q.now t))))

pub touches_beyond_flat-requires : goal.touches_beyond_flat-requires
touches_beyond_flat-requires c =
    subst IsZero (c.cross-normal.ensures ∙ (λ i. cross (c.between.ensures i) (c.between-2.ensures i))) (c.is_zero.ensures.0 c.if-is_zero.true)

pub front-d-requires : goal.front-d-requires
front-d-requires c = λ h. true≢false (sym (c.is_zero.ensures.1 h) ∙ c.if-is_zero.false)

pub returns : goal.returns
returns c =
    let s = c.args in
    let above = c.above in
    let level = sym above.ensures.value ∙ sym (height_read above.result above.ensures.size) ∙ ap (to_z w128) c.if-above-ne0.false in
    let d = of_dir c.front-d.result in
    let normal = c.cross-normal.ensures ∙ (λ i. cross (c.between.ensures i) (c.between-2.ensures i)) in
    let front = subst (λ (n : Triple). pos 0 <ℤ dot d n) normal c.front-d.ensures in
    let first = offset_read c.left_of.result c.left_of.ensures.size ∙ c.left_of.ensures.value in
    let second = offset_read c.left_of-2.result c.left_of-2.ensures.size ∙ c.left_of-2.ensures.value in
    ↔-trans c.is_beyond.ensures (signs_read _ _ _ _ first second (beyond d s.a.now s.b.now s.c.now s.q.now front level))
