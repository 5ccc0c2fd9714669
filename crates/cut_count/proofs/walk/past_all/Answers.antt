use Rattle.std.proofs.Common.{refl, sym}
use Rattle.cut_count.specs.inner.Walks.{turn_left, turn_right}
use Rattle.cut_count.proofs.SectionTurns.{there_more, there_all}
use Rattle.cut_count.proofs.walk.past_all.Goals as goal

pub loop-border-init : goal.loop-border-init
loop-border-init c = record { left = refl; right = refl }

pub loop-border-preserved : goal.loop-border-preserved
loop-border-preserved c = record {
  left = there_more turn_left c.args.before.left c.args.found.now c.loop-border.border-index c.loop-border.there.left _ c.border-item.result c.loop-border-test.true (sym c.border-item.is) c.past-there.ensures.left c.loop-border.invariant.left;
  right = there_more turn_right c.args.before.right c.args.found.now c.loop-border.border-index c.loop-border.there.right _ c.border-item.result c.loop-border-test.true (sym c.border-item.is) c.past-there.ensures.right c.loop-border.invariant.right;
}

pub returns-clause-left : goal.returns-clause-left
returns-clause-left c = there_all turn_left c.args.before.left c.args.found.now c.loop-border.border-index c.loop-border.there.left c.loop-border-test.false c.loop-border.invariant.left

pub returns-clause-right : goal.returns-clause-right
returns-clause-right c = there_all turn_right c.args.before.right c.args.found.now c.loop-border.border-index c.loop-border.there.right c.loop-border-test.false c.loop-border.invariant.right
