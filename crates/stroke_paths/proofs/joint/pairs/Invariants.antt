use Rattle.stroke_paths.specs.inner.Pairs.{ArePairsBelow}
use Rattle.stroke_paths.proofs.joint.pairs.Given as goal

-- the pairs of the corners so far
abbrev pub invariant-loop-i : goal.invariant-loop-i
invariant-loop-i l = ArePairsBelow l.strokes l.corners l.i l.pairs.items
