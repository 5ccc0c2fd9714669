use Rattle.std.proofs.Common.{◌≡◌, ◌++◌, drop, map}
use Rattle.cut_marks.specs.Lanes.{pushed}
use Rattle.cut_marks.proofs.lanes.all_pushed.Given as goal

-- the marks so far, and those that are left
abbrev pub invariant-loop-entry : goal.invariant-loop-entry
invariant-loop-entry l = l.laned.items ++ map pushed (drop l.entry-index l.before) ≡ map pushed l.before
