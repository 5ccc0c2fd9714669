use Rattle.std.proofs.Common.{◌≡◌, ◌⊎◌, ◌+◌, ◌≤◌, get_or, arith}
use Rattle.span_count.proofs.RunCounts.{count_more}
use Rattle.span_count.proofs.bounds.count_runs.Goals as goal

pub loop-run-preserved : goal.loop-run-preserved
loop-run-preserved c =
    let old = c.loop-run.count in
    let new = c.max-count.result in
    let one : (new ≡ old) ⊎ (new ≡ get_or c.args.runs.now c.loop-run.run-index 0 + 1) = grind (arith, c.max-count.ensures, c.from.ensures) in
    let before : old ≤ new = grind (arith, c.max-count.ensures) in
    let here : c.from.result + 1 ≤ new = grind (arith, c.max-count.ensures) in
    record {
      counted = count_more c.args.runs.now c.loop-run.run-index old new c.loop-run-test.true
          one before (omega (arith, here, c.from.ensures)) c.loop-run.invariant.counted;
      small = omega (arith, one, c.loop-run.invariant.small, c.from.ensures, c.type_inv.runs c.loop-run.run-index);
    }
