use Rattle.std.proofs.Common.{ℕ, ◌<◌, get_or}
use Rattle.flip_slivers.specs.inner.Lists.{HasSideAt}
use Rattle.flip_slivers.proofs.lists.is_side.Given as goal

abbrev pub invariant-loop-place : goal.invariant-loop-place
invariant-loop-place l = (k : ℕ) → k < l.place-index → HasSideAt l.surface (get_or l.places k 0) l.m l.n → ⊥
