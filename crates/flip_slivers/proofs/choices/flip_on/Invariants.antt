use Rattle.std.proofs.Common.{ℕ, ◌<◌, ◌⊎◌, get_or}
use Rattle.flip_slivers.specs.inner.Choices.{IsIdleBeside, Waits}
use Rattle.flip_slivers.proofs.choices.flip_on.Given as goal

abbrev pub invariant-loop-other : goal.invariant-loop-other
invariant-loop-other l = (q : ℕ) → q < l.other-index → Waits l.waits (get_or l.places q 0) ⊎ IsIdleBeside l.scene.corners.now l.scene.most l.scene.surface.now l.place l.t (get_or l.places q 0)
