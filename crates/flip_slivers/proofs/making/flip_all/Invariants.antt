use Rattle.flip_slivers.specs.Flips.{AreFlips}
use Rattle.flip_slivers.specs.inner.Choices.{IsReady}
use Rattle.flip_slivers.proofs.Potential.{potential}
use Rattle.flip_slivers.proofs.making.flip_all.Given as goal

abbrev pub invariant-loop-flips : goal.invariant-loop-flips
invariant-loop-flips l = record {
  flips : AreFlips l.corners l.most l.flips l.initial.mesh.surface.items l.mesh.surface.items;
  ready : IsReady l.corners l.most l.mesh.surface.items l.mesh.measures.items l.mesh.lists.items l.queue.waits.items l.queue.places.items;
}

abbrev pub decreases-loop-flips : goal.decreases-loop-flips
decreases-loop-flips l = potential l.corners l.most l.mesh.surface.items
