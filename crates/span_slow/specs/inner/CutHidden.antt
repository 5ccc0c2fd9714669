-- Where faces hide an edge in a cut view.
use Rattle.std.specs.Prelude.{◌≡◌, ◌⊎◌, pos, ◌<ℤ◌, List}
use Rattle.exact_frac.specs.declared.Frac.{Frac}
use Rattle.lattice.specs.declared.points.Corner.{Corner}
use Rattle.lattice.specs.Triple.{Triple, dot}
use Rattle.lattice.specs.Points.{Point, difference}
use Rattle.lattice.specs.Cuts.{Plane, toward_of, IsBeyond}
use Rattle.geometry.specs.Parts.{Part, Face, Edge}
use Rattle.geometry.specs.Cuts.{FaceHidesInCut, IsOrdinaryInCut}
use Rattle.hiding_laws.specs.Values.{WideSideHides, IsInLine}
use Rattle.hiding_laws.specs.CutValues.{WideSideReaches}
use Rattle.intervals.specs.declared.interval.Interval.{Interval}
use Rattle.span_slow.specs.inner.Hidden.{AreWhereAt, AreAddedAt}

abbrev pub IsOrdinaryBeyond : Plane → Part → Point → Type 0
IsOrdinaryBeyond c s p = IsOrdinaryInCut c s p × IsBeyond c p

-- at each ordinary inner point of the edge beyond the plane P holds exactly if it is strictly within an interval; no interval ends at such a point
abbrev pub AreWhereBeyond : Plane → {s : Part} → Edge s → (Point → Type 0) → List (Interval Frac) → Type 0
AreWhereBeyond c {s = s} e P xs = AreWhereAt (IsOrdinaryBeyond c s) e P xs

-- the new list is the old one with such intervals
abbrev pub AreAddedBeyond : Plane → {s : Part} → Edge s → (Point → Type 0) → List (Interval Frac) → List (Interval Frac) → Type 0
AreAddedBeyond c {s = s} e P old new = AreAddedAt (IsOrdinaryBeyond c s) e P old new

-- what the plane leaves of some face hides the point
abbrev pub IsHiddenByFaces : Plane → Part → Point → Type 0
IsHiddenByFaces c s p = (f : Face s) × FaceHidesInCut c f p

-- ---- faces that are edge-on
-- the first side hides the point in the plain view, and the second is beyond the plane on its line of sight
abbrev pub PairHides : Plane → Corner → Corner → Corner → Corner → Point → Type 0
PairHides c k l m n p = WideSideHides (toward_of c) k l p × WideSideReaches c m n p

-- some side of the triangle is beyond the plane on the line of sight
abbrev pub SomeSideReaches : Plane → Corner → Corner → Corner → Point → Type 0
SomeSideReaches c i j k p = WideSideReaches c i j p ⊎ WideSideReaches c j k p ⊎ WideSideReaches c k i p

-- from x to y the side of k and l is in line with the edge from a to b and goes forward along the axis
pub record IsForward (d axis : Triple) (a b k l x y : Corner) : Type 0 where
  pub ends : ((x ≡ k) × (y ≡ l)) ⊎ ((x ≡ l) × (y ≡ k))
  pub in_line : IsInLine d a b x y
  pub forward : pos 0 <ℤ dot axis (difference x y)
