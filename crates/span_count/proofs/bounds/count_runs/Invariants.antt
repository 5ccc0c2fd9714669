use Rattle.std.proofs.Common.{◌≤◌, ◌^◌, take}
use Rattle.span_count.specs.Bounds.{IsRunCount}
use Rattle.span_count.proofs.bounds.count_runs.Given as goal

-- the runs so far are counted
abbrev pub invariant-loop-run : goal.invariant-loop-run
invariant-loop-run l = record { counted : IsRunCount (take l.run-index l.runs) l.count; small : l.count ≤ 2 ^ 32 }
