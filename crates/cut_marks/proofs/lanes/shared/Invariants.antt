use Rattle.std.proofs.Common.{◌≡◌, ◌++◌, drop, map}
use Rattle.cut_marks.specs.Lanes.{lettered}
use Rattle.cut_marks.proofs.lanes.shared.Given as goal

-- the marks so far, and those that are left
abbrev pub invariant-loop-entry : goal.invariant-loop-entry
invariant-loop-entry l = l.laned.items ++ map (lettered l.trace) (drop l.entry-index l.before) ≡ map (lettered l.trace) l.before
