-- What an outline that passes nearer over an edge changes of the two counts along it.
use Rattle.std.specs.Prelude.{◌≡◌, ◌≢◌, ◌⊎◌, ℤ, pos, negsuc, ◌-ℤ◌, ◌*ℤ◌, ◌<ℤ◌}
use Rattle.std.proofs.Common.{zero, suc}
use Rattle.exact_frac.specs.declared.Frac.{Frac}
use Rattle.lattice.specs.Triple.{Triple, det}
use Rattle.geometry.specs.Faces.{difference}
use Rattle.geometry.specs.Parts.{Part, Edge}
use Rattle.geometry.specs.Views.{face_sign}
use Rattle.geometry.specs.Counts.{Side, to_left, to_right, orientation_of}

-- 1 where a corner counts as standing to the left of the edge's line, else 0: on the line it does so for the right count alone
abbrev pub mark : Side → ℤ → ℤ
mark to_left (pos zero) = pos 0
mark to_left (pos (suc n)) = pos 1
mark to_left (negsuc n) = pos 0
mark to_right (pos n) = pos 1
mark to_right (negsuc n) = pos 0

-- what the outline o changes of a count along the edge e, from before it to behind it
abbrev pub change_of : Side → Triple → {s : Part} → Edge s → Edge s → ℤ
change_of k d e o = (face_sign d o.left -ℤ face_sign d o.right) *ℤ (mark k (orientation_of d e.a e.b o.a) -ℤ mark k (orientation_of d e.a e.b o.b))

-- the lines of the two are seen to cross at the place numerator / denominator of the edge, where that of the outline is higher by height_numerator / denominator
abbrev pub denominator_of : Triple → {s : Part} → Edge s → Edge s → ℤ
denominator_of d e o = det d (difference e.a e.b) (difference o.a o.b)

abbrev pub numerator_of : Triple → {s : Part} → Edge s → Edge s → ℤ
numerator_of d e o = det d (difference e.a o.a) (difference o.a o.b)

abbrev pub height_numerator_of : {s : Part} → Edge s → Edge s → ℤ
height_numerator_of e o = det (difference e.a e.b) (difference o.a o.b) (difference e.a o.a)

-- they cross at an inner place of the edge, and there the outline's line is strictly nearer
pub record PassesNearer (d : Triple) {s : Part} (e o : Edge s) : Type 0 where
  pub after : pos 0 <ℤ (numerator_of d e o *ℤ denominator_of d e o)
  pub before : (numerator_of d e o *ℤ denominator_of d e o) <ℤ (denominator_of d e o *ℤ denominator_of d e o)
  pub nearer : pos 0 <ℤ (height_numerator_of e o *ℤ denominator_of d e o)

-- the outline changes one of the two counts along the edge
pub record Changes (d : Triple) {s : Part} (e o : Edge s) : Type 0 where
  pub passes : PassesNearer d e o
  pub some : (change_of to_left d e o ≢ pos 0) ⊎ (change_of to_right d e o ≢ pos 0)

-- they cross at this place of the edge
abbrev pub IsCrossedAt : Triple → {s : Part} → Edge s → Edge s → Frac → Type 0
IsCrossedAt d e o r = r.num *ℤ denominator_of d e o ≡ numerator_of d e o *ℤ r.den
