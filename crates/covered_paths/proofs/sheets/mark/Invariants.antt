use Rattle.std.proofs.Common.{◌≡◌, drop}
use Rattle.covered_paths.specs.inner.Marks.{marked}
use Rattle.covered_paths.proofs.sheets.mark.Given as goal

-- what is left is marked after those so far
abbrev pub invariant-loop-line : goal.invariant-loop-line
invariant-loop-line l = marked l.drawn.items (drop l.line-index l.lines) ≡ marked l.fn.drawn.items l.lines
