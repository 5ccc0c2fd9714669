use Rattle.std.proofs.Common.{◌≡◌, ◌<◌, ◌^◌, sym, ap, ◌∙◌, ℤ, to_z, of_z, unsigned_abs, true≢false}
use Rattle.std.specs.Int.{w128}
use Rattle.lattice.specs.Triple.{dot}
use Rattle.integers.proofs.Worth.{pass, below}
use Rattle.meeting.proofs.Crossing.{same-share}
use Rattle.meeting.proofs.edges.is_crossing.Goals as goal

-- numbers as the machine reads them
level_read : (k : ℤ) → unsigned_abs k < 2 ^ 66 → to_z w128 (of_z w128 k) ≡ k
level_read k h = (pass w128 (below k (2 ^ 66) h) tt).is

read : (k : ℤ) → unsigned_abs k < 2 ^ 88 → to_z w128 (of_z w128 k) ≡ k
read k h = (pass w128 (below k (2 ^ 88) h) tt).is

pub returns-then-not-is_share : goal.returns-then-not-is_share
returns-then-not-is_share c =
    let n = c.cross-normal in
    let whole = read c.dot-whole.result c.dot-whole.ensures.size ∙ c.dot-whole.ensures.value ∙ (λ i. dot (n.ensures i) (n.ensures i)) in
    let first = same-share (read c.dot.result c.dot.ensures.size ∙ c.dot.ensures.value ∙ (λ i. dot (n.ensures i) (c.cross.ensures i))) whole in
    (λ h. cc, λ x. absurd (true≢false (sym (c.is_share.ensures.1 (first.1 x.first)) ∙ c.if-not-is_share.true)))

pub returns : goal.returns
returns c =
    let n = c.cross-normal in
    let whole = read c.dot-whole.result c.dot-whole.ensures.size ∙ c.dot-whole.ensures.value ∙ (λ i. dot (n.ensures i) (n.ensures i)) in
    let first = same-share (read c.dot.result c.dot.ensures.size ∙ c.dot.ensures.value ∙ (λ i. dot (n.ensures i) (c.cross.ensures i))) whole in
    let second = same-share (read c.dot-2.result c.dot-2.ensures.size ∙ c.dot-2.ensures.value ∙ (λ i. dot (n.ensures i) (c.cross-2.ensures i))) whole in
    let level = sym c.det3.ensures.value ∙ sym (level_read c.det3.result c.det3.ensures.size) ∙ ap (to_z w128) c.if-det3-ne0.false in (
      λ h. record { level = level; first = first.0 (c.is_share.ensures.0 c.if-not-is_share.false); second = second.0 (c.is_share-2.ensures.0 h) },
      λ x. c.is_share-2.ensures.1 (second.1 x.second),
    )
