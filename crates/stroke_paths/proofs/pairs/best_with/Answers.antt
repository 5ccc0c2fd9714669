use Rattle.std.proofs.Common.{arith}
use Rattle.std.proofs.lemmas.Option.{slice_get-get_or}
use Rattle.stroke_paths.proofs.PairLemmas.{one_more_seen, all_seen}
use Rattle.stroke_paths.proofs.pairs.best_with.Goals as goal

pub loop-j-preserved : goal.loop-j-preserved
loop-j-preserved c =
    one_more_seen c.args.strokes.now c.args.ends.now c.args.i c.loop-j.j _ _ (slice_get-get_or c.args.ends.now c.args.i _ c.requires.listed) (slice_get-get_or c.args.ends.now c.loop-j.j _ c.loop-j-test.true) c.loop-j.best c.pair_of.result c.less_of-best.result c.loop-j.invariant c.pair_of.ensures c.less_of-best.ensures

pub returns : goal.returns
returns c = all_seen c.args.strokes.now c.args.ends.now c.args.i c.loop-j.j c.loop-j.best (omega (arith, c.loop-j-test.false)) c.loop-j.invariant
