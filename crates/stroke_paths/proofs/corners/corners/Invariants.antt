use Rattle.stroke_paths.specs.inner.Corners.{AreCorners}
use Rattle.stroke_paths.proofs.corners.corners.Given as goal

-- the strokes so far are noted
abbrev pub invariant-loop-i : goal.invariant-loop-i
invariant-loop-i l = AreCorners l.strokes l.i l.corners
