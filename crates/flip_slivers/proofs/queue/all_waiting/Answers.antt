use Rattle.std.proofs.Common.{arith}
use Rattle.flip_slivers.proofs.QueueLemmas.{none_first, more_first, all_first}
use Rattle.flip_slivers.proofs.queue.all_waiting.Goals as goal

pub loop-i-init : goal.loop-i-init
loop-i-init c = none_first c.args.count c.new-waits.result.items c.new-places.result.items c.new-waits.ensures.items c.new-places.ensures.items

pub loop-i-preserved : goal.loop-i-preserved
loop-i-preserved c =
    more_first c.args.count c.loop-i.i c.loop-i.waits.items c.push.new.self.items c.loop-i.places.items c.push-in-loop-i.new.self.items c.loop-i-test.true c.loop-i.invariant c.in_ok-push.ensures.items c.in_ok-push-2.ensures.items

pub returns-clause-queue : goal.returns-clause-queue
returns-clause-queue c = all_first c.args.count c.loop-i.i c.loop-i.waits.items c.loop-i.places.items (omega arith) c.loop-i.invariant

pub returns-clause-all : goal.returns-clause-all
returns-clause-all c i below = c.loop-i.invariant.all i (omega arith)
