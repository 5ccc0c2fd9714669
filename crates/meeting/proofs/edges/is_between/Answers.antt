use Rattle.std.proofs.Common.{refl, subst, ◌∙◌, pos}
use Rattle.lattice.specs.Triple.{dot, cross, IsZero}
use Rattle.meeting.proofs.Machine.{at_most_test}
use Rattle.meeting.proofs.Products.{dot_read}
use Rattle.meeting.proofs.edges.is_between.Goals as goal

pub returns : goal.returns
returns c =
    let p = c.between-to_p in
    let q = c.between-to_q in
    let line = subst IsZero (c.cross.ensures ∙ (λ i. cross (p.ensures i) (q.ensures i))) (c.is_zero.ensures.0 c.if-not-is_zero.false) in
    let test = at_most_test _ (pos 0) _ (pos 0) (dot_read p.result q.result c.dot.result c.dot.ensures.value ∙ (λ i. dot (p.ensures i) (q.ensures i))) refl in
    (λ h. record { in_line = line; opposed = test.0 h }, λ h. test.1 h.opposed)
