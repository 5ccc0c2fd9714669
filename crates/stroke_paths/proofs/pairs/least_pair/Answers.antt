use Rattle.std.proofs.Common.{refl, sym, subst}
use Rattle.std.proofs.lemmas.Bool.{iff_false}
use Rattle.stroke_paths.specs.inner.Pairs.{IsLeastPair}
use Rattle.stroke_paths.proofs.PairLemmas.{no_least, least_alone, all_less}
use Rattle.stroke_paths.proofs.pairs.least_pair.Goals as goal

pub returns-in_err-best : goal.returns-in_err-best
returns-in_err-best c = subst (IsLeastPair c.args.strokes.now c.args.ends.now) (sym c.from_residual.ensures) (no_least c.args.strokes.now c.args.ends.now c.in_err-best.ensures)

pub returns-then-is_alone : goal.returns-then-is_alone
returns-then-is_alone c =
    least_alone c.args.strokes.now c.args.ends.now c.in_ok-best.best (c.in_ok-best.ensures.pair c.in_ok-best.best refl) (c.is_alone.ensures.0 c.if-is_alone.true)

pub returns-else-is_alone : goal.returns-else-is_alone
returns-else-is_alone c =
    λ e f t. iff_false c.is_alone.ensures c.if-is_alone.false (all_less c.args.strokes.now c.args.ends.now c.in_ok-best.best c.in_ok-best.ensures e f t)
