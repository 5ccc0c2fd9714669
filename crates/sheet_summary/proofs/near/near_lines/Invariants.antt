use Rattle.std.proofs.Common.{◌≡◌, string_bytes}
use Rattle.sheet_summary.specs.NearLines.{near_lines}
use Rattle.sheet_summary.proofs.near.near_lines.Given as goal

-- the lines of the views so far
abbrev pub invariant-loop-view : goal.invariant-loop-view
invariant-loop-view l = string_bytes l.text ≡ near_lines l.scale l.items l.view
