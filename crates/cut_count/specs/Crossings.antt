-- What an answer says on an edge of a cut view and an outline, or the border of a face.
use Rattle.std.specs.Prelude.{◌≡◌, ◌≢◌, ◌⊎◌, ℤ, pos, Option, Some, None}
use Rattle.lattice.specs.Points.{Point}
use Rattle.lattice.specs.Cuts.{Plane, toward_of}
use Rattle.geometry.specs.Parts.{Part, Face, Edge}
use Rattle.geometry.specs.Counts.{to_left, to_right}
use Rattle.geometry.specs.Shares.{IsCrossedAt}
use Rattle.cross_find.specs.declared.meter.Crossing.{Crossing}
use Rattle.cut_count_laws.specs.CutShares.{cut_change_of, CutChanges}
use Rattle.cut_count_laws.specs.BorderShares.{IsTurnedBy, IsBorderTaken, border_change_of, IsBorderCrossedAt}

-- ---- an outline
-- where the two cross, and what is left of the outline changes of the two counts there
pub record IsCutCrossing (c : Plane) {s : Part} (e o : Edge s) (x : Crossing) : Type 0 where
  pub changes : CutChanges c e o
  pub at : IsCrossedAt (toward_of c) e o x.at
  pub left : x.left ≡ cut_change_of to_left c e o
  pub right : x.right ≡ cut_change_of to_right c e o

-- the outline changes one of the two counts there; or it changes none
abbrev pub IsCutAcross : Plane → {s : Part} → Edge s → Edge s → Option Crossing → Type 0
IsCutAcross c e o None = ¬ CutChanges c e o
IsCutAcross c e o (Some x) = IsCutCrossing c e o x

-- ---- a border
-- The border of the face crosses the edge at the place n / m, and changes the two counts there by so much, of which one isn't 0.
pub record BorderChanges (c : Plane) {s : Part} (e : Edge s) (f : Face s) (n m left right : ℤ) : Type 0 where
  pub crossed : IsBorderCrossedAt c e f n m
  pub p : Point
  pub q : Point
  pub taken : IsBorderTaken c f p q
  pub turned : ℤ
  pub turned_by : IsTurnedBy c f p q turned
  pub left_is : left ≡ border_change_of to_left c e p q turned
  pub right_is : right ≡ border_change_of to_right c e p q turned
  pub some : (left ≢ pos 0) ⊎ (right ≢ pos 0)

-- it does so at no place; or it does so at the answer's place, by the answer's numbers
abbrev pub IsBorderAcross : Plane → {s : Part} → Edge s → Face s → Option Crossing → Type 0
IsBorderAcross c e f None = (n m left right : ℤ) → ¬ BorderChanges c e f n m left right
IsBorderAcross c e f (Some x) = BorderChanges c e f x.at.num x.at.den x.left x.right
