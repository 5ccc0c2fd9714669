use Rattle.std.proofs.Common.{◌≡◌, ◌+◌, ◌*◌, ◌≤◌, ◌^◌, drop}
use Rattle.sheet_page.specs.Dashes.{through}
use Rattle.sheet_page.proofs.dashes.through.Given as goal

-- the length so far and that of what is left are the whole length
abbrev pub invariant-loop-to : goal.invariant-loop-to
invariant-loop-to l = record {
  all : l.sum + through l.from (drop l.to-index l.points) ≡ through l.fn.from l.points;
  below : l.sum ≤ 2 ^ 31 * l.to-index;
}
