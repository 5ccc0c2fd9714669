-- What the plane leaves of a face, its border included: where it is strictly nearer, and when it is counted next to an end of an edge.
use Rattle.std.specs.Prelude.{◌≢◌, ◌⊎◌, ℕ, ◌<◌, ℤ, pos, ◌*ℤ◌, ◌<ℤ◌, ◌≤ℤ◌, Bool}
use Rattle.lattice.specs.declared.points.Corner.{Corner}
use Rattle.lattice.specs.Points.{Point, point_of, OnOneSight, IsNearer}
use Rattle.lattice.specs.Cuts.{Plane, toward_of, IsBeyond, IsBeforePlane}
use Rattle.geometry.specs.Cuts.{start_corner, end_corner}
use Rattle.geometry.specs.Faces.{facing_of, IsPointOfFace}
use Rattle.geometry.specs.Parts.{Part, Face, Edge}
use Rattle.geometry.specs.Counts.{Side}
use Rattle.geometry.specs.Covers.{share_from}
use Rattle.cut_count_laws.specs.CutEnds.{cut_end, PointStandsOn}

-- some point of the closed face that is not before the plane is on the line of sight of p and strictly nearer
pub record RestHides (c : Plane) {s : Part} (f : Face s) (p : Point) : Type 0 where
  pub point : Point
  pub on_face : IsPointOfFace f.a f.b f.c point
  pub not_before : ¬ IsBeforePlane c point
  pub same_sight : OnOneSight (toward_of c) point p
  pub nearer : IsNearer (toward_of c) point p

-- it is so over each inner point of some stretch of the edge from that end
pub record RestHidesNext (c : Plane) {s : Part} (e : Edge s) (at_b : Bool) (f : Face s) : Type 0 where
  pub n : ℤ
  pub m : ℤ
  pub some : pos 0 <ℤ n
  pub within : n ≤ℤ m
  pub over : (k l : ℤ) → pos 0 <ℤ k → pos 0 <ℤ l → (k *ℤ m) <ℤ (n *ℤ l) → RestHides c f (share_from e at_b k l)

-- something is left of the side from x to y, and an end of that is seen strictly on that side of the edge's line
pub record RestOfSideReaches (k : Side) (c : Plane) {s : Part} (e : Edge s) (x y : Corner) : Type 0 where
  pub left : IsBeyond c (point_of x) ⊎ IsBeyond c (point_of y)
  pub reaches : PointStandsOn k (toward_of c) e.a e.b (cut_end c x y) ⊎ PointStandsOn k (toward_of c) e.a e.b (cut_end c y x)

-- a corner of what is left of the face, which is a corner beyond the plane or an end of the border, is strictly on that side of the edge's line
abbrev pub RestReachesTo : Side → Plane → {s : Part} → Edge s → Face s → Type 0
RestReachesTo k c e f = (side : ℕ) × (side < 3) × RestOfSideReaches k c e (start_corner f side) (end_corner f side)

-- the face is counted on that side next to that end of the edge
pub record IsCutCoveredNext (k : Side) (c : Plane) {s : Part} (e : Edge s) (at_b : Bool) (f : Face s) : Type 0 where
  pub turned : facing_of (toward_of c) f.a f.b f.c ≢ pos 0
  pub hides : RestHidesNext c e at_b f
  pub reaches : RestReachesTo k c e f
