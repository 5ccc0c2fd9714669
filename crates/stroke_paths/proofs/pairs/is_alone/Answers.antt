use Rattle.stroke_paths.proofs.PairLemmas.{more_before}
use Rattle.stroke_paths.proofs.pairs.is_alone.Goals as goal

pub loop-i-preserved : goal.loop-i-preserved
loop-i-preserved c = more_before c.args.strokes.now c.args.ends.now c.args.best.now c.loop-i.i c.loop-i.invariant (c.is_alone_at.ensures.0 c.if-not-is_alone_at.false)
