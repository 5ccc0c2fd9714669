use Rattle.stroke_paths.proofs.PairLemmas.{one_more_corner}
use Rattle.stroke_paths.proofs.joint.pairs.Goals as goal

pub loop-i-preserved : goal.loop-i-preserved
loop-i-preserved c =
    one_more_corner c.args.strokes.now c.args.corners.now c.loop-i.i c.loop-i.pairs.items c.push.new.self.items c.index.result.now c.deref.result.now c.least_pair.result c.loop-i.invariant c.index.ensures c.deref.ensures.value
    c.least_pair.ensures c.in_ok-push.ensures.items
