use Rattle.std.proofs.Common.{◌≡◌, ◌++◌, drop}
use Rattle.near_lines.specs.Sides.{through}
use Rattle.near_lines.proofs.sides.add_through.Given as goal

-- the sides so far and those to the points that are left are all of them
abbrev pub invariant-loop-to : goal.invariant-loop-to
invariant-loop-to l = l.sides.items ++ through l.path l.from (drop l.to-index l.points) ≡ l.fn.sides.items ++ through l.path l.fn.from l.points
