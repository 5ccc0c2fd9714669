use Rattle.stroke_paths.specs.inner.Drawn.{ArePathsBelow}
use Rattle.stroke_paths.proofs.joining.paths.Given as goal

-- the paths through the strokes so far
abbrev pub invariant-loop-i : goal.invariant-loop-i
invariant-loop-i l = ArePathsBelow l.strokes l.joints.items l.i l.visited.items l.paths.items
