use Rattle.std.proofs.Common.{◌≡◌, ◌++◌, drop, map}
use Rattle.covered_paths.specs.Sheets.{sketch_of, sketches}
use Rattle.covered_paths.proofs.lines.all_lines.Given as goal

-- the lines so far and those of the paths that are left are all of them
abbrev pub invariant-loop-number : goal.invariant-loop-number
invariant-loop-number l = map sketch_of l.lines.items ++ sketches l.number (drop l.number l.paths) (drop l.number l.shown) ≡ sketches 0 l.paths l.shown
