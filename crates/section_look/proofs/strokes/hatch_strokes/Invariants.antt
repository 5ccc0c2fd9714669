use Rattle.std.proofs.Common.{take}
use Rattle.section_look.specs.HatchStrokes.{AreHatchStrokes}
use Rattle.section_look.proofs.strokes.hatch_strokes.Given as goal

-- the strokes of the looks so far
abbrev pub invariant-loop-look : goal.invariant-loop-look
invariant-loop-look l = AreHatchStrokes l.sheet (take l.look-index l.looks) l.strokes.items
