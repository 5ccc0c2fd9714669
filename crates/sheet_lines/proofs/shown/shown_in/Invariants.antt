use Rattle.std.proofs.Common.{◌≡◌, take}
use Rattle.sheet_lines.specs.Shown.{shown_in}
use Rattle.sheet_lines.proofs.shown.shown_in.Given as goal

-- which of the paths so far are asked for
abbrev pub invariant-loop-path : goal.invariant-loop-path
invariant-loop-path l = l.shown.items ≡ shown_in l.hidden (take l.path-index l.paths)
