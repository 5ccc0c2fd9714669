use Rattle.std.proofs.Common.{take}
use Rattle.std.specs.List.{AllZip}
use Rattle.lattice.specs.Cuts.{plane_of}
use Rattle.hatch_fill.specs.inner.Lines.{IsLineOver}
use Rattle.hatch_fill.proofs.lines.hatch_lines.Given as goal

-- the lines of the intervals so far
abbrev pub invariant-loop-x : goal.invariant-loop-x
invariant-loop-x l = AllZip (IsLineOver (plane_of l.cut)) (take l.x-index l.intervals) l.lines.items
