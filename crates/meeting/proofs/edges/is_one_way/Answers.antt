use Rattle.std.proofs.Common.{refl, subst, ◌∙◌, pos}
use Rattle.lattice.specs.Triple.{dot, cross, IsZero}
use Rattle.meeting.proofs.Machine.{less_test}
use Rattle.meeting.proofs.Products.{dot_read}
use Rattle.meeting.proofs.edges.is_one_way.Goals as goal

pub returns : goal.returns
returns c =
    let b = c.between-to_b in
    let q = c.between-to_q in
    let line = subst IsZero (c.cross.ensures ∙ (λ i. cross (b.ensures i) (q.ensures i))) (c.is_zero.ensures.0 c.if-not-is_zero.false) in
    let test = less_test (pos 0) _ (pos 0) _ refl (dot_read b.result q.result c.dot.result c.dot.ensures.value ∙ (λ i. dot (b.ensures i) (q.ensures i))) in
    (λ h. record { in_line = line; ahead = test.0 h }, λ h. test.1 h.ahead)
