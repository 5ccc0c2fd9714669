-- What an answer on an edge and an outline says.
use Rattle.std.specs.Prelude.{◌≡◌, Option, Some, None}
use Rattle.lattice.specs.Triple.{Triple}
use Rattle.geometry.specs.Parts.{Part, Edge}
use Rattle.geometry.specs.Counts.{to_left, to_right}
use Rattle.geometry.specs.Shares.{Changes, IsCrossedAt, change_of}
use Rattle.cross_find.specs.declared.meter.Crossing.{Crossing}

-- where the two cross, and what the outline changes of the two counts there
pub record IsCrossing (d : Triple) {s : Part} (e o : Edge s) (x : Crossing) : Type 0 where
  pub changes : Changes d e o
  pub at : IsCrossedAt d e o x.at
  pub left : x.left ≡ change_of to_left d e o
  pub right : x.right ≡ change_of to_right d e o

-- the outline changes one of the two counts there; or it changes none
abbrev pub IsAcross : Triple → {s : Part} → Edge s → Edge s → Option Crossing → Type 0
IsAcross d e o None = ¬ Changes d e o
IsAcross d e o (Some x) = IsCrossing d e o x
