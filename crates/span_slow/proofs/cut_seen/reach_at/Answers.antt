use Rattle.std.proofs.Common.{◌+◌, ◌*◌, ◌^◌, ◌≤◌, ◌<◌, ◌∙◌, ap, ℤ, to_z, of_z}
use Rattle.std.specs.Prelude.{◌+ℤ◌, ◌*ℤ◌, unsigned_abs}
use Rattle.std.specs.Int.{w128}
use Rattle.integers.proofs.Worth.{Reads, known, below, fits, pass, times, plus, below_of}
use Rattle.lattice.specs.Triple.{Triple, dot}
use Rattle.lattice.specs.Points.{of_vector}
use Rattle.span_slow.proofs.Corners.{short_at, past_at}
use Rattle.span_slow.proofs.cut_seen.reach_at.Goals as goal

-- a machine's product of two small numbers
product : (a b : ℤ) → unsigned_abs a < 2 ^ 30 → unsigned_abs b ≤ 2 ^ 23 → Reads (to_z w128 (of_z w128 a) *ℤ to_z w128 (of_z w128 b)) (a *ℤ b) (2 ^ 30 * 2 ^ 23)
product a b h k = times (pass w128 (below a (2 ^ 30) h) tt) (pass w128 (known b (2 ^ 23) k) tt)

-- and the sum of two
reach_reads : (a b e f : ℤ) → unsigned_abs a < 2 ^ 30 → unsigned_abs b ≤ 2 ^ 23 → unsigned_abs e < 2 ^ 30 → unsigned_abs f ≤ 2 ^ 23
    → Reads (to_z w128 (of_z w128 (to_z w128 (of_z w128 a) *ℤ to_z w128 (of_z w128 b))) +ℤ to_z w128 (of_z w128 (to_z w128 (of_z w128 e) *ℤ to_z w128 (of_z w128 f))))
    ((a *ℤ b) +ℤ (e *ℤ f)) (2 ^ 30 * 2 ^ 23 + 2 ^ 30 * 2 ^ 23)
reach_reads a b e f ha hb he hf = plus (pass w128 (product a b ha hb) tt) (pass w128 (product e f he hf) tt)

pub overflow_mul-result : goal.overflow_mul-result
overflow_mul-result c = fits w128 (product c.dot-short.result c.below.result (c.dot-short.ensures.small c.args.edge.now.seen.small) c.below.ensures.size) tt

pub overflow_mul-result-2 : goal.overflow_mul-result-2
overflow_mul-result-2 c = fits w128 (product c.dot-past.result c.below-2.result (c.dot-past.ensures.small c.args.edge.now.seen.small) c.below-2.ensures.size) tt

pub overflow_add-result : goal.overflow_add-result
overflow_add-result c =
    let axis = c.args.edge.now.seen.small in
    fits w128 (reach_reads c.dot-short.result c.below.result c.dot-past.result c.below-2.result (c.dot-short.ensures.small axis) c.below.ensures.size (c.dot-past.ensures.small axis) c.below-2.ensures.size) tt

pub returns-clause-value : goal.returns-clause-value
returns-clause-value c =
    let small = c.args.edge.now.seen.small in
    let axis = of_vector c.args.edge.now.seen.axis in
    let short = c.dot-short.ensures.value ∙ ap (λ (t : Triple). dot axis t) c.between.ensures ∙ short_at axis c.args.l.now c.args.p.now in
    let past = c.dot-past.ensures.value ∙ ap (λ (t : Triple). dot axis t) c.between-2.ensures ∙ past_at axis c.args.k.now c.args.p.now in
    let first = c.below.ensures.value in
    let second = c.below-2.ensures.value in
    (pass w128 (reach_reads c.dot-short.result c.below.result c.dot-past.result c.below-2.result (c.dot-short.ensures.small small) c.below.ensures.size (c.dot-past.ensures.small small) c.below-2.ensures.size) tt).is
    ∙ (λ i. (short i *ℤ first i) +ℤ (past i *ℤ second i))

pub returns-clause-small : goal.returns-clause-small
returns-clause-small c =
    let small = c.args.edge.now.seen.small in
    below_of (2 ^ 68) (pass w128 (reach_reads c.dot-short.result c.below.result c.dot-past.result c.below-2.result (c.dot-short.ensures.small small) c.below.ensures.size (c.dot-past.ensures.small small) c.below-2.ensures.size) tt) tt
