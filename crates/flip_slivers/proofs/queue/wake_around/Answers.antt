use Rattle.std.proofs.Common.{below_more, arith, ◌∙◌}
use Rattle.flip_slivers.specs.inner.Lists.{lists_of, list_number}
use Rattle.flip_slivers.proofs.ListLemmas.{read_within}
use Rattle.flip_slivers.proofs.QueueLemmas.{as_full, fuller_then, all_around}
use Rattle.flip_slivers.proofs.queue.wake_around.Goals as goal

pub loop-place-init : goal.loop-place-init
loop-place-init c = record { fuller = as_full c.args.queue.now.waits.items c.args.queue.now.places.items; woken = λ q below. absurd (omega arith) }

pub wake_facing-requires : goal.wake_facing-requires
wake_facing-requires c = record {
  count = c.requires.count;
  listed = c.requires.listed;
  marks = c.loop-place.invariant.fuller.count ∙ c.requires.marks;
  place = read_within c.args.surface.now (lists_of c.args.lists.now) (list_number c.args.corner c.args.corner) c.listed-places.result.now c.requires.listed c.listed-places.ensures c.loop-place.place-index 0 c.loop-place-test.true;
}

pub loop-place-preserved : goal.loop-place-preserved
loop-place-preserved c = record {
  fuller = fuller_then c.args.queue.now.waits.items c.loop-place.queue.waits.items c.wake_facing.new.queue.waits.items c.args.queue.now.places.items c.loop-place.queue.places.items c.wake_facing.new.queue.places.items
      c.loop-place.invariant.fuller c.in_ok-wake_facing.ensures.fuller;
  woken = below_more _ _ (λ q below j m n here there. c.in_ok-wake_facing.ensures.fuller.kept _ (c.loop-place.invariant.woken q below j m n here there)) c.in_ok-wake_facing.ensures.woken;
}

pub returns-clause-woken : goal.returns-clause-woken
returns-clause-woken c =
    all_around c.args.surface.now (lists_of c.args.lists.now) c.listed-places.result.now c.args.corner c.args.other c.loop-place.queue.waits.items c.requires.listed c.listed-places.ensures
    (λ q below. c.loop-place.invariant.woken q (omega arith))
