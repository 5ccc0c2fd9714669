use Rattle.std.proofs.Common.{length}
use Rattle.flip_slivers.specs.inner.Choices.{AreIdle, IsQueue}
use Rattle.flip_slivers.proofs.queue.next_flip.Given as goal

abbrev pub invariant-loop-place : goal.invariant-loop-place
invariant-loop-place l = record {
  queue : IsQueue (length l.scene.surface.now) l.queue.waits.items l.queue.places.items;
  idle : AreIdle l.scene.corners.now l.scene.most l.scene.surface.now l.queue.waits.items;
}

abbrev pub decreases-loop-place : goal.decreases-loop-place
decreases-loop-place l = length l.queue.places.items
