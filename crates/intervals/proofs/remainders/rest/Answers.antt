use Rattle.std.proofs.Common.{◌≡◌, List, ◌<◌, get_or, take, sym, subst, ◌∙◌, arith}
use Rattle.std.proofs.lemmas.List.{get_or_default}
use Rattle.std.specs.declared.cmp.Ordering.TheVariants.{Less}
use Rattle.intervals.specs.declared.interval.Interval.{Interval}
use Rattle.intervals.specs.Cuts.{AreRest}
use Rattle.intervals.proofs.Lists.{pairs_front}
use Rattle.intervals.proofs.Remaining.{rest_next}
use Rattle.intervals.proofs.remainders.rest.Goals as goal
use Rattle.integers.proofs.Lists.{front_more}

pub loop-x-preserved : goal.loop-x-preserved
loop-x-preserved g c =
    let X : Type 0 = Interval g.row.T.Denot in
    let cmp = g.T.Ord.cmp in
    let o = g.met.T.Ord.total in
    let whole = c.args.whole.now in
    let parts = c.args.parts.now in
    let k = c.loop-x.x-index in
    let x = c.x-item.result in
    let long = c.loop-x-test.true in
    let at = sym c.x-item.is in
    let new = c.add_rest_of.new.rest.items in
    let old = c.loop-x.invariant in (
      subst (λ (done : List X). AreRest cmp done parts new) (front_more whole k x long at)
          (rest_next o (take k whole) parts c.loop-x.rest.items x new old.0 (pairs_front (λ v w. cmp v.to w.from ≡ Less) whole k x c.requires.whole.apart long at) c.in_ok-passed.ensures.rest),
      λ m d le l j e h short.
          let between : k < m = omega (arith, le) in
          o.trans (get_or parts j e).to x.to (get_or whole m d).from (c.in_ok-passed.ensures.passed j e h short)
          (subst (λ (y : X). cmp y.to (get_or whole m d).from ≡ Less) (sym (get_or_default whole k x d long) ∙ at) (c.requires.whole.apart k m d between l)),
    )
