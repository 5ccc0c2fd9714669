use Rattle.std.proofs.Common.{◌≡◌, ◌++◌, drop}
use Rattle.sheet_lines.specs.Ways.{through}
use Rattle.sheet_lines.proofs.ways.add_through.Given as goal

-- the ways so far and those to the points that are left are all of them
abbrev pub invariant-loop-to : goal.invariant-loop-to
invariant-loop-to l = l.ways.items ++ through l.view l.from (drop l.to-index l.points) ≡ l.fn.ways.items ++ through l.view l.fn.from l.points
