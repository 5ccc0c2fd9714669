use Rattle.std.proofs.Common.{take}
use Rattle.drawing.specs.Strokes.{AreStrokes}
use Rattle.drawing.proofs.strokes.strokes_of.Given as goal

-- the strokes of the views so far
abbrev pub invariant-loop-number : goal.invariant-loop-number
invariant-loop-number l = AreStrokes l.sheet (take l.number l.views) l.strokes.items
