use Rattle.std.proofs.Common.{◌≡◌, drop}
use Rattle.std.specs.List.{list_any}
use Rattle.cut_marks.specs.Lanes.{is_open}
use Rattle.cut_marks.proofs.lanes.is_one_open.Given as goal

-- those that are left decide
abbrev pub invariant-loop-entry : goal.invariant-loop-entry
invariant-loop-entry l = list_any (is_open l.trace) (drop l.entry-index l.before) ≡ list_any (is_open l.trace) l.before
