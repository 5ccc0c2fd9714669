use Rattle.std.proofs.Common.{arith}
use Rattle.std.proofs.lemmas.Bool.{false≢true, iff_false}
use Rattle.std.proofs.lemmas.Option.{slice_get-get_or}
use Rattle.stroke_paths.proofs.PairLemmas.{more_after, not_after}
use Rattle.stroke_paths.proofs.pairs.is_alone_at.Goals as goal

pub returns-then-not-is_less_than : goal.returns-then-not-is_less_than
returns-then-not-is_less_than c = (
  λ t. absurd (false≢true t),
  λ all. absurd (not_after c.args.strokes.now c.args.ends.now c.args.best.now c.args.i c.loop-j.j _ _ (slice_get-get_or c.args.ends.now c.args.i _ c.requires) (slice_get-get_or c.args.ends.now c.loop-j.j _ c.loop-j-test.true) (omega (arith, c.loop-j.auto.j)) (iff_false c.is_less_than.ensures c.if-not-is_less_than.true) all),
)

pub loop-j-preserved : goal.loop-j-preserved
loop-j-preserved c =
    more_after c.args.strokes.now c.args.ends.now c.args.best.now c.args.i c.loop-j.j _ _ (slice_get-get_or c.args.ends.now c.args.i _ c.requires) (slice_get-get_or c.args.ends.now c.loop-j.j _ c.loop-j-test.true) c.loop-j.invariant (c.is_less_than.ensures.0 c.if-not-is_less_than.false)
