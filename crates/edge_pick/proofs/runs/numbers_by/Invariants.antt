use Rattle.std.proofs.Common.{take}
use Rattle.edge_pick.proofs.Numberings.{IsNumbering}
use Rattle.edge_pick.proofs.runs.numbers_by.Given as goal

abbrev pub invariant-loop-step : goal.invariant-loop-step
invariant-loop-step l = IsNumbering l.edges (take l.step-index l.steps) l.next l.runs.items
