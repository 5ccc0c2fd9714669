use Rattle.stroke_paths.specs.inner.Tables.{AreJointsBelow}
use Rattle.stroke_paths.proofs.joint.joints.Given as goal

-- the joints of the strokes so far
abbrev pub invariant-loop-i : goal.invariant-loop-i
invariant-loop-i l = AreJointsBelow l.strokes l.i l.joints.items
