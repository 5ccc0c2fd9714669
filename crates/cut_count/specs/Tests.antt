-- How many tests the view of a cut takes.
use Rattle.std.specs.Prelude.{◌≡◌, ◌⊎◌, ℕ, ◌+◌, Bool, List, [], ◌∷◌, length}
use Rattle.exact_frac.specs.declared.Frac.{Frac}
use Rattle.intervals.specs.declared.interval.Interval.{Interval}
use Rattle.lattice.specs.Cuts.{Plane, IsBeyond}
use Rattle.lattice.specs.Points.{point_of}
use Rattle.geometry.specs.Parts.{Part, Edge, IsNumbered}
use Rattle.geometry.specs.Turns.{corner_at, number_at}
use Rattle.span_count.specs.Tests.{AreNearAmong}
use Rattle.cut_plane.specs.Beyond.{IsPartBeyond}

-- Of an edge with a part beyond the plane: one of each segment of the section, and one of each outline that is listed along the edge.
-- Besides these, those of different triangles, with each that is near a corner of the edge beyond the plane among them.
pub record IsTestedAlong (c : Plane) {s : Part} (e : Edge s) (near : ℕ → ℕ → Type 0) (outlines segments n : ℕ) : Type 0 where
  pub part : Interval Frac
  pub beyond : IsPartBeyond c e (part ∷ [])
  pub at_b : Bool
  pub starts : IsBeyond c (point_of (corner_at e at_b))
  pub triangles : ℕ
  pub near_among : AreNearAmong (near (number_at e at_b)) (length s.triangles) triangles
  pub number : n ≡ triangles + outlines + segments

-- the edge with that number takes so many: none where it has no part beyond the plane
pub record IsEdgeTests (c : Plane) (s : Part) (halves : List ℕ) (along : ℕ → List ℕ) (segments : ℕ) (near : ℕ → ℕ → Type 0) (number n : ℕ) : Type 0 where
  pub edge : Edge s
  pub numbered : IsNumbered halves number edge
  pub tests : (IsPartBeyond c edge [] × (n ≡ 0)) ⊎ IsTestedAlong c edge near (length (along number)) segments n
