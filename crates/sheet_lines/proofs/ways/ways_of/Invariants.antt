use Rattle.std.proofs.Common.{◌≡◌, ◌++◌, drop}
use Rattle.sheet_lines.specs.Kept.{kept}
use Rattle.sheet_lines.specs.Ways.{ways_of}
use Rattle.sheet_lines.proofs.ways.ways_of.Given as goal

-- the ways so far, and then those of the rest
abbrev pub invariant-loop-path : goal.invariant-loop-path
invariant-loop-path l = l.ways.items ++ ways_of (kept l.rest (drop l.path-index l.paths)) ≡ ways_of (kept l.flags l.paths)
