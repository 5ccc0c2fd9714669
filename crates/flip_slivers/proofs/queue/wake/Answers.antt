use Rattle.std.proofs.Common.{refl, inl, inr}
use Rattle.flip_slivers.proofs.QueueLemmas.{as_full}
use Rattle.flip_slivers.proofs.queue.wake.Goals as goal

pub returns-then-is_side : goal.returns-then-is_side
returns-then-is_side c = record {
  fuller = as_full c.args.queue.now.waits.items c.args.queue.now.places.items;
  woken = λ i j m n not_side. absurd (not_side (c.if-is_side.ensures.0 refl));
}

pub returns-then-is_side-2 : goal.returns-then-is_side-2
returns-then-is_side-2 c = record {
  fuller = as_full c.args.queue.now.waits.items c.args.queue.now.places.items;
  woken = λ i j m n _ not_side. absurd (not_side (c.if-is_side-2.ensures.0 refl));
}

pub returns-then-listed-clause-woken : goal.returns-then-listed-clause-woken
returns-then-listed-clause-woken c i j m n _ _ here there = inl (c.in_ok-wake_around.ensures.woken i j m n here there)

pub returns-clause-woken : goal.returns-clause-woken
returns-clause-woken c i j m n _ _ here there = inr (c.in_ok-wake_around-2.ensures.woken j i n m there here)
