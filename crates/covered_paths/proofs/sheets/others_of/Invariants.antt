use Rattle.std.proofs.Common.{◌≡◌, ◌++◌, drop}
use Rattle.covered_paths.specs.inner.Marks.{others_of}
use Rattle.covered_paths.proofs.sheets.others_of.Given as goal

-- those so far, and those of what is left
abbrev pub invariant-loop-number : goal.invariant-loop-number
invariant-loop-number l = l.others.items ++ others_of (drop l.number l.paths) (drop l.number l.shown) ≡ others_of l.paths l.shown
