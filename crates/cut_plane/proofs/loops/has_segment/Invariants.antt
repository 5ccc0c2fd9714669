use Rattle.std.proofs.Common.{◌<◌, ℕ}
use Rattle.lattice.specs.Cuts.{plane_of}
use Rattle.solid_mesh.specs.Solids.{solid_part}
use Rattle.cut_plane.specs.inner.Walks.{IsCrossedAt}
use Rattle.cut_plane.proofs.loops.has_segment.Given as goal

-- no triangle so far is crossed
abbrev pub invariant-loop-tri : goal.invariant-loop-tri
invariant-loop-tri l = (k : ℕ) → k < l.tri → ¬ IsCrossedAt (plane_of l.cut) (solid_part l.solid) k
