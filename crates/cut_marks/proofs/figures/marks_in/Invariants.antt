use Rattle.std.proofs.Common.{◌≡◌, ◌++◌, drop, map}
use Rattle.cut_marks.specs.Figures.{mark_of}
use Rattle.cut_marks.proofs.figures.marks_in.Given as goal

-- the marks so far, and those that are left
abbrev pub invariant-loop-entry : goal.invariant-loop-entry
invariant-loop-entry l = l.marks.items ++ map (mark_of l.b) (drop l.entry-index l.laned) ≡ map (mark_of l.b) l.laned
