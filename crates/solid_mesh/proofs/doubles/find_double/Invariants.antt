use Rattle.std.proofs.Common.{ℕ, ◌<◌}
use Rattle.geometry.specs.Parts.{part_of}
use Rattle.solid_mesh.specs.Faults.{DoublesEarlier}
use Rattle.solid_mesh.proofs.doubles.find_double.Given as goal

abbrev pub invariant-loop-second : goal.invariant-loop-second
invariant-loop-second l = (k : ℕ) → k < l.second → ((i : ℕ) × DoublesEarlier (part_of l.soup) k i) → ⊥
