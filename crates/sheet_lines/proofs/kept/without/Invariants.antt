use Rattle.std.proofs.Common.{◌≡◌, ◌++◌, drop}
use Rattle.sheet_lines.specs.Kept.{without}
use Rattle.sheet_lines.proofs.kept.without.Given as goal

-- what is so thus far, and then what is so of the rest
abbrev pub invariant-loop-is_first : goal.invariant-loop-is_first
invariant-loop-is_first l = l.left.items ++ without (drop l.is_first-index l.first) l.rest ≡ without l.first l.second
