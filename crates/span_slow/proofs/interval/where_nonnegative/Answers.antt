use Rattle.std.proofs.Common.{sym, subst, take}
use Rattle.integers.proofs.Lists.{front_more}
use Rattle.span_slow.specs.inner.Hidden.{IsWhereNonnegative}
use Rattle.span_slow.proofs.Clips.{clipped_more}
use Rattle.span_slow.proofs.interval.where_nonnegative.Goals as goal

pub loop-linear-preserved : goal.loop-linear-preserved
loop-linear-preserved c =
    let linears = c.args.linears.now in
    let k = c.loop-linear.linear-index in
    let v = c.linear-item.result in
    subst (λ vs. IsWhereNonnegative vs c.clip-x.result) (front_more linears k v c.loop-linear-test.true (sym c.linear-item.is))
    (clipped_more (take k linears) v c.loop-linear.x c.clip-x.result c.loop-linear.invariant c.clip-x.ensures)
