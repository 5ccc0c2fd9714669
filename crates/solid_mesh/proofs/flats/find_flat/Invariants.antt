use Rattle.std.proofs.Common.{ℕ, ◌<◌}
use Rattle.geometry.specs.Parts.{part_of}
use Rattle.solid_mesh.specs.Faults.{IsFlatAt}
use Rattle.solid_mesh.proofs.flats.find_flat.Given as goal

abbrev pub invariant-loop-tri : goal.invariant-loop-tri
invariant-loop-tri l = (k : ℕ) → k < l.tri → IsFlatAt (part_of l.soup) k → ⊥
