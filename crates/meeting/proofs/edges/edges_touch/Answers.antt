use Rattle.std.proofs.Common.{sym, subst, ◌∙◌, true≢false}
use Rattle.integers.proofs.Logic.{↔-trans}
use Rattle.lattice.specs.Triple.{cross, IsZero}
use Rattle.lattice.specs.Points.{of_vector}
use Rattle.meeting.proofs.Machine.{swapped}
use Rattle.meeting.proofs.Crossing.{crossing}
use Rattle.meeting.proofs.Parallel.{parallel-edges}
use Rattle.meeting.proofs.edges.edges_touch.Goals as goal

pub returns-then-is_zero : goal.returns-then-is_zero
returns-then-is_zero c =
    let s = c.args in
    let zero = subst IsZero (c.cross.ensures ∙ (λ i. cross (c.between-ab.ensures i) (c.between-pq.ensures i))) (c.is_zero.ensures.0 c.if-is_zero.true) in
    ↔-trans c.has_end_between.ensures (swapped (parallel-edges s.a.now s.b.now s.p.now s.q.now zero))

pub returns : goal.returns
returns c =
    let s = c.args in
    let product = c.cross.ensures ∙ (λ i. cross (c.between-ab.ensures i) (c.between-pq.ensures i)) in
    ↔-trans c.is_crossing.ensures
    (crossing s.a.now s.b.now s.p.now s.q.now (of_vector c.between-ab.result) (of_vector c.between-pq.result) (of_vector c.between.result)
    c.between-ab.ensures c.between-pq.ensures c.between.ensures
    (λ h. true≢false (sym (c.is_zero.ensures.1 (subst IsZero (sym product) h)) ∙ c.if-is_zero.false)))
