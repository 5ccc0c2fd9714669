use Rattle.std.proofs.Common.{ℕ, ◌<◌, get_or}
use Rattle.flip_slivers.specs.inner.Partners.{IsFreePartner}
use Rattle.flip_slivers.proofs.pairs.partner_of.Given as goal

abbrev pub invariant-loop-other : goal.invariant-loop-other
invariant-loop-other l = (k : ℕ) → k < l.other-index → IsFreePartner l.triangles l.partners l.place (get_or l.places k 0) → ⊥
