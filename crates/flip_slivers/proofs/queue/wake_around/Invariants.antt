use Rattle.std.proofs.Common.{ℕ, ◌<◌, get_or}
use Rattle.flip_slivers.specs.inner.Lists.{HasTriAt}
use Rattle.flip_slivers.specs.inner.Choices.{IsFuller, Waits}
use Rattle.flip_slivers.proofs.queue.wake_around.Given as goal

abbrev pub invariant-loop-place : goal.invariant-loop-place
invariant-loop-place l = record {
  fuller : IsFuller l.initial.queue.waits.items l.queue.waits.items l.initial.queue.places.items l.queue.places.items;
  woken : (q : ℕ) → q < l.place-index → (j m n : ℕ) → HasTriAt l.surface (get_or l.places q 0) m n l.corner → HasTriAt l.surface j n m l.other → Waits l.queue.waits.items (get_or l.places q 0);
}
