use Rattle.std.proofs.Common.{take}
use Rattle.cut_marks.specs.Lanes.{AreLaned}
use Rattle.cut_marks.proofs.lanes.laned.Given as goal

-- the traces so far are told
abbrev pub invariant-loop-trace : goal.invariant-loop-trace
invariant-loop-trace l = AreLaned l.b l.room (take l.trace-index l.traces) l.told.laned.items l.told.left_out.items
