use Rattle.std.proofs.Common.{◌+◌, ◌*◌, ◌^◌, ◌<◌, ◌∙◌, ℤ, to_z, of_z}
use Rattle.std.specs.Prelude.{◌-ℤ◌, ◌*ℤ◌, unsigned_abs}
use Rattle.std.specs.Int.{w128}
use Rattle.integers.proofs.Worth.{Reads, below, fits, pass, times, minus, below_of}
use Rattle.lattice.specs.Triple.{dot}
use Rattle.lattice.specs.Points.{of_dir, of_vector}
use Rattle.lattice.proofs.VectorSizes.{wider}
use Rattle.span_slow.proofs.Corners.{behind_at}
use Rattle.span_slow.proofs.seen.behind_at.Goals as goal

-- a machine's product of two small numbers
product : (a b : ℤ) → unsigned_abs a < 2 ^ 30 → unsigned_abs b < 2 ^ 30 → Reads (to_z w128 (of_z w128 a) *ℤ to_z w128 (of_z w128 b)) (a *ℤ b) (2 ^ 30 * 2 ^ 30)
product a b h k = times (pass w128 (below a (2 ^ 30) h) tt) (pass w128 (below b (2 ^ 30) k) tt)

pub overflow_mul-result : goal.overflow_mul-result
overflow_mul-result c =
    fits w128 (product c.dot.result c.dot-2.result (c.dot.ensures.small (wider _ c.vector-d.ensures.size)) (c.dot-2.ensures.small c.args.seen.now.small)) tt

pub overflow_mul-result-2 : goal.overflow_mul-result-2
overflow_mul-result-2 c =
    fits w128 (product c.dot-3.result c.dot-4.result (c.dot-3.ensures.small c.args.seen.now.small) (c.dot-4.ensures.small (wider _ c.vector-d.ensures.size))) tt

-- and the difference of two
behind_reads : (a b e f : ℤ) → unsigned_abs a < 2 ^ 30 → unsigned_abs b < 2 ^ 30 → unsigned_abs e < 2 ^ 30 → unsigned_abs f < 2 ^ 30
    → Reads (to_z w128 (of_z w128 (to_z w128 (of_z w128 a) *ℤ to_z w128 (of_z w128 b))) -ℤ to_z w128 (of_z w128 (to_z w128 (of_z w128 e) *ℤ to_z w128 (of_z w128 f))))
    ((a *ℤ b) -ℤ (e *ℤ f)) (2 ^ 30 * 2 ^ 30 + 2 ^ 30 * 2 ^ 30)
behind_reads a b e f ha hb he hf = minus (pass w128 (product a b ha hb) tt) (pass w128 (product e f he hf) tt)

pub overflow_sub-result : goal.overflow_sub-result
overflow_sub-result c =
    let axis = c.args.seen.now.small in
    let d = wider _ c.vector-d.ensures.size in
    fits w128 (behind_reads c.dot.result c.dot-2.result c.dot-3.result c.dot-4.result (c.dot.ensures.small d) (c.dot-2.ensures.small axis) (c.dot-3.ensures.small axis) (c.dot-4.ensures.small d)) tt

pub returns-clause-value : goal.returns-clause-value
returns-clause-value c =
    let seen = c.args.seen.now in
    let axis = seen.small in
    let d = wider _ c.vector-d.ensures.size in
    let along = c.vector-d.ensures.components in
    let way = c.between-way.ensures in
    let to_p = c.between-to_p.ensures in
    let first = c.dot.ensures.value ∙ (λ i. dot (along i) (way i)) in
    let second = c.dot-2.ensures.value ∙ (λ i. dot (of_vector seen.axis) (to_p i)) in
    let third = c.dot-3.ensures.value ∙ (λ i. dot (of_vector seen.axis) (way i)) in
    let fourth = c.dot-4.ensures.value ∙ (λ i. dot (along i) (to_p i)) in
    (pass w128 (behind_reads c.dot.result c.dot-2.result c.dot-3.result c.dot-4.result (c.dot.ensures.small d) (c.dot-2.ensures.small axis) (c.dot-3.ensures.small axis) (c.dot-4.ensures.small d)) tt).is
    ∙ (λ i. (first i *ℤ second i) -ℤ (third i *ℤ fourth i))
    ∙ behind_at (of_dir seen.d) (of_vector seen.axis) c.args.k.now c.args.l.now c.args.p.now

pub returns-clause-small : goal.returns-clause-small
returns-clause-small c =
    let axis = c.args.seen.now.small in
    let d = wider _ c.vector-d.ensures.size in
    below_of (2 ^ 62) (pass w128 (behind_reads c.dot.result c.dot-2.result c.dot-3.result c.dot-4.result (c.dot.ensures.small d) (c.dot-2.ensures.small axis) (c.dot-3.ensures.small axis) (c.dot-4.ensures.small d)) tt) tt
