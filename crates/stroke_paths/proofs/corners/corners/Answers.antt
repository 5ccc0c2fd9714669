use Rattle.std.proofs.Common.{arith}
use Rattle.stroke_paths.proofs.CornerLemmas.{no_corners, all_corners}
use Rattle.stroke_paths.proofs.corners.corners.Goals as goal

pub loop-i-init : goal.loop-i-init
loop-i-init c = no_corners c.args.strokes.now c.new-corners.result c.new-corners.ensures.empty

pub returns : goal.returns
returns c = all_corners c.args.strokes.now c.loop-i.i c.loop-i.corners (omega arith) c.loop-i.invariant
