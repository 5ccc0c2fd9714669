-- What an outline has changed of a count along an edge.
use Rattle.std.specs.Prelude.{ℤ, pos, ◌*ℤ◌, ◌<ℤ◌}
use Rattle.lattice.specs.Triple.{Triple}
use Rattle.geometry.specs.Parts.{Part, Edge}
use Rattle.geometry.specs.Counts.{Side}
use Rattle.geometry.specs.Shares.{denominator_of, numerator_of, change_of, PassesNearer}

-- they cross before the place n / m
abbrev pub IsCrossedBefore : Triple → {s : Part} → Edge s → Edge s → ℤ → ℤ → Type 0
IsCrossedBefore d e o n m = ((numerator_of d e o *ℤ denominator_of d e o) *ℤ m) <ℤ (n *ℤ (denominator_of d e o *ℤ denominator_of d e o))

-- what the outline has changed of a count by the place n / m
pub data HasChanged (k : Side) (d : Triple) {s : Part} (e o : Edge s) (n m : ℤ) : ℤ → Type 0 where
  passed : PassesNearer d e o → IsCrossedBefore d e o n m → HasChanged k d e o n m (change_of k d e o)
  not_passed : ¬ (PassesNearer d e o × IsCrossedBefore d e o n m) → HasChanged k d e o n m (pos 0)

-- what the outline changes of a count along the whole edge, from next to its first end to next to its second
pub data HasChangedAlong (k : Side) (d : Triple) {s : Part} (e o : Edge s) : ℤ → Type 0 where
  along : PassesNearer d e o → HasChangedAlong k d e o (change_of k d e o)
  not_along : ¬ PassesNearer d e o → HasChangedAlong k d e o (pos 0)
