use Rattle.std.proofs.Common.{take}
use Rattle.solid_mesh.specs.Solids.{solid_part}
use Rattle.cut_marks.specs.Traces.{AreTraces}
use Rattle.cut_marks.proofs.traces.traces_in.Given as goal

-- the traces of the cuts so far
abbrev pub invariant-loop-number : goal.invariant-loop-number
invariant-loop-number l = AreTraces l.sheet (solid_part l.solid) l.view (take l.number l.cuts) l.traces.items
