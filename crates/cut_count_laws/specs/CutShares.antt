-- What an outline that passes nearer over an edge changes of the two counts along it in a cut view: the share of what the plane leaves of it.
use Rattle.std.specs.Prelude.{◌≢◌, ◌⊎◌, ℤ, pos, ◌-ℤ◌, ◌*ℤ◌}
use Rattle.lattice.specs.Points.{point_of}
use Rattle.lattice.specs.Cuts.{Plane, toward_of, IsBeyond}
use Rattle.geometry.specs.Parts.{Part, Edge}
use Rattle.geometry.specs.Views.{face_sign}
use Rattle.geometry.specs.Counts.{Side, to_left, to_right}
use Rattle.geometry.specs.Shares.{PassesNearer}
use Rattle.cut_count_laws.specs.CutEnds.{part_change, IsCrossedBeyond}

-- what the outline o changes of a count along the edge e, from before it to behind it
abbrev pub cut_change_of : Side → Plane → {s : Part} → Edge s → Edge s → ℤ
cut_change_of k c e o = (face_sign (toward_of c) o.left -ℤ face_sign (toward_of c) o.right) *ℤ part_change k c e.a e.b o.a o.b

-- An end of the outline is beyond the plane, and its line passes nearer over a point of e that is beyond the plane. What is left
-- of the outline has the same line, so place and height are those of the whole; its own ends alone decide whether it reaches there.
pub record PassesInCut (c : Plane) {s : Part} (e o : Edge s) : Type 0 where
  pub passes : PassesNearer (toward_of c) e o
  pub beyond : IsCrossedBeyond c e o
  pub left : IsBeyond c (point_of o.a) ⊎ IsBeyond c (point_of o.b)

-- the outline changes one of the two counts along the edge
pub record CutChanges (c : Plane) {s : Part} (e o : Edge s) : Type 0 where
  pub passes : PassesInCut c e o
  pub some : (cut_change_of to_left c e o ≢ pos 0) ⊎ (cut_change_of to_right c e o ≢ pos 0)
