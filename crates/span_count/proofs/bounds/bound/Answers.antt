use Rattle.std.proofs.Common.{ℕ, ◌+◌, ◌*◌, ◌<◌, ◌≤◌, ◌^◌, length, ap, arith}
use Rattle.std.proofs.lemmas.Nat.{mul-le}
use Rattle.solid_mesh.proofs.Facts.{few_triangles}
use Rattle.edge_pick.proofs.PickedSizes.{few_drawn, few_outlines}
use Rattle.span_count.proofs.bounds.bound.Goals as goal

total_below : (runs triangles drawn outlines ends : ℕ) → runs ≤ 2 ^ 32 → triangles ≤ 20000 → drawn ≤ 60000 → outlines ≤ 60000 → ends ≤ 2400000000
    → runs * triangles + 3 * drawn * outlines + ends < 2 ^ 48
total_below runs triangles drawn outlines ends few_runs few few_edges few_borders small =
    omega (arith, mul-le runs triangles (2 ^ 32) 20000 few_runs few, mul-le (3 * drawn) outlines 180000 60000 (omega arith) few_borders)

pub count_at_all-ends-requires-clause-few : goal.count_at_all-ends-requires-clause-few
count_at_all-ends-requires-clause-few c = let long = ap (length {A = ℕ}) c.deref-2.ensures.value in omega (arith, long, few_drawn c.args.solid.now c.args.picked.now c.requires)

pub returns-clause-size : goal.returns-clause-size
returns-clause-size c =
    total_below c.count_runs-runs.result c.from.result c.len-drawn.result c.len-outlines.result c.count_at_all-ends.result c.count_runs-runs.ensures.size
    (omega (arith, c.from.ensures, c.triangles.ensures.count, few_triangles c.args.solid.now))
    (omega (arith, c.len-drawn.ensures, few_drawn c.args.solid.now c.args.picked.now c.requires)) (omega (arith, c.len-outlines.ensures, few_outlines c.args.solid.now c.args.picked.now c.requires)) c.count_at_all-ends.ensures.size

pub overflow_mul-result-3 : goal.overflow_mul-result-3
overflow_mul-result-3 c = omega (arith, returns-clause-size c)

pub overflow_add-result : goal.overflow_add-result
overflow_add-result c = omega (arith, returns-clause-size c)

pub overflow_add-result-2 : goal.overflow_add-result-2
overflow_add-result-2 c = omega (arith, returns-clause-size c)
