-- Where planes of cuts are seen edge-on in a plain view: their traces, and which points are ordinary beside them.
use Rattle.std.specs.Prelude.{◌≡◌, ◌≢◌, ◌⊎◌, pos, ◌*ℤ◌, ◌≤ℤ◌, List, Contains}
use Rattle.lattice.specs.declared.points.Axis.{Axis}
use Rattle.lattice.specs.declared.points.Corner.{Corner}
use Rattle.lattice.specs.Axes.{coordinate_of, third_of, IsAlong}
use Rattle.lattice.specs.Cuts.{Plane, unit_of, IsBeyond, IsBeforePlane}
use Rattle.lattice.specs.Points.{Point, IsPoint, point_of, OnOneSight}
use Rattle.lattice.specs.Triple.{Triple, det}
use Rattle.geometry.specs.Faces.{difference}
use Rattle.geometry.specs.Parts.{Part, Edge}
use Rattle.geometry.specs.Views.{IsSeenOver, IsOrdinary}

-- ---- traces
-- corners are on both sides of the plane: it takes something away, and leaves something
pub record GoesThrough (c : Plane) (corners : List Corner) : Type 0 where
  pub before : (k : Corner) × Contains corners k × IsBeforePlane c (point_of k)
  pub beyond : (k : Corner) × Contains corners k × IsBeyond c (point_of k)

-- The view along d has the trace of the plane of a cut: d is along an axis other than the cut's, corners are on both sides of the
-- plane, and on the third axis, along which the trace runs, not all corners are at one place.
pub record HasTrace (d : Triple) (s : Part) (c : Plane) (sight : Axis) : Type 0 where
  pub other : sight ≢ c.axis
  pub along : IsAlong sight d
  pub before : (k : Corner) × Contains s.corners k × IsBeforePlane c (point_of k)
  pub beyond : (k : Corner) × Contains s.corners k × IsBeyond c (point_of k)
  pub apart : (k : Corner) × (l : Corner) × Contains s.corners k × Contains s.corners l
      × (coordinate_of (third_of c.axis sight) (point_of k) ≢ coordinate_of (third_of c.axis sight) (point_of l))

-- on an axis the point is between the least and the greatest of the corners
pub record IsAmongCorners (s : Part) (axis : Axis) (p : Point) : Type 0 where
  pub least : (k : Corner) × Contains s.corners k × ((coordinate_of axis (point_of k) *ℤ p.w) ≤ℤ coordinate_of axis p)
  pub most : (k : Corner) × Contains s.corners k × (coordinate_of axis p ≤ℤ (coordinate_of axis (point_of k) *ℤ p.w))

-- a point of the trace: at the place that the cut names, and on the two other axes among the corners
pub record IsOnTrace (d : Triple) (s : Part) (c : Plane) (sight : Axis) (p : Point) : Type 0 where
  pub has : HasTrace d s c sight
  pub there : IsPoint p
  pub place : coordinate_of c.axis p ≡ c.at *ℤ p.w
  pub within : IsAmongCorners s sight p
  pub within_run : IsAmongCorners s (third_of c.axis sight) p

abbrev pub IsTracePoint : Triple → Part → List Plane → Point → Type 0
IsTracePoint d s cuts p = (c : Plane) × Contains cuts c × ((sight : Axis) × IsOnTrace d s c sight p)

-- no corner is before the point on the axis, or none is behind it
abbrev pub IsOutermost : Part → Axis → Point → Type 0
IsOutermost s axis p =
    ((k : Corner) → Contains s.corners k → coordinate_of axis p ≤ℤ (coordinate_of axis (point_of k) *ℤ p.w))
    ⊎ ((k : Corner) → Contains s.corners k → (coordinate_of axis (point_of k) *ℤ p.w) ≤ℤ coordinate_of axis p)

-- an end of a trace
abbrev pub IsTraceEnd : Triple → Part → List Plane → Point → Type 0
IsTraceEnd d s cuts p =
    (c : Plane) × Contains cuts c × ((sight : Axis) × IsOnTrace d s c sight p × IsOutermost s (third_of c.axis sight) p)

-- ---- ordinary points
-- a trace has a point on the line of sight of p, and runs that way
abbrev pub TraceRuns : Triple → Part → List Plane → Point → Triple → Type 0
TraceRuns d s cuts p way =
    (c : Plane) × Contains cuts c × ((sight : Axis) × ((q : Point) × IsOnTrace d s c sight q × OnOneSight d q p) × (way ≡ unit_of (third_of c.axis sight)))

-- an edge has one, and runs that way
abbrev pub EdgeRuns : Triple → (s : Part) → Point → Triple → Type 0
EdgeRuns d s p way = (e : Edge s) × IsSeenOver d e p × (way ≡ difference e.a e.b)

-- no corner and no end of a trace is on its line of sight, and any two edges or traces with a point on it have parallel projections
pub record IsOrdinaryBeside (d : Triple) (s : Part) (cuts : List Plane) (p : Point) : Type 0 where
  pub ordinary : IsOrdinary d s p
  pub off_ends : (q : Point) → IsTraceEnd d s cuts q → ¬ OnOneSight d q p
  pub off_traces : (way other : Triple) → TraceRuns d s cuts p way → EdgeRuns d s p other ⊎ TraceRuns d s cuts p other → det d way other ≡ pos 0
