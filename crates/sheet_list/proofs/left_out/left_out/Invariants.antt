use Rattle.std.proofs.Common.{◌≡◌, ◌≤◌, drop, length}
use Rattle.std.specs.Prelude.{reverse}
use Rattle.sheet_list.specs.LeftOut.{left_out}
use Rattle.sheet_list.proofs.left_out.left_out.Given as goal

-- the runs among the strokes from this one on, the last first
abbrev pub invariant-loop-number : goal.invariant-loop-number
invariant-loop-number l = record {
  within : l.number ≤ length l.drawn;
  runs : reverse l.runs.items ≡ left_out l.number (drop l.number l.drawn);
}

abbrev pub decreases-loop-number : goal.decreases-loop-number
decreases-loop-number l = l.number
