use Rattle.std.proofs.Common.{◌≡◌, take}
use Rattle.sheet_lines.specs.Kept.{as_many}
use Rattle.sheet_lines.proofs.kept.as_many.Given as goal

-- how often it was so
abbrev pub invariant-loop-flag : goal.invariant-loop-flag
invariant-loop-flag l = l.count ≡ as_many (take l.flag-index l.flags)
