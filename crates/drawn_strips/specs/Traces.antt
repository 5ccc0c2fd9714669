-- Strips that are the traces of cuts in a plain view.
use Rattle.std.specs.Prelude.{◌≡◌, ℕ, pos, ◌≤ℤ◌, List, ◌++◌, Contains, All}
use Rattle.lattice.specs.declared.points.Axis.{Axis}
use Rattle.lattice.specs.declared.points.Corner.{Corner}
use Rattle.lattice.specs.declared.pieces.Strip.{Strip}
use Rattle.lattice.specs.declared.pieces.StripKind.TheVariants.{Trace}
use Rattle.lattice.specs.Cuts.{Plane}
use Rattle.lattice.specs.Lines.{IsOnLine}
use Rattle.lattice.specs.Points.{point_of, of_spot}
use Rattle.lattice.specs.Triple.{Triple}
use Rattle.geometry.specs.Parts.{Part}
use Rattle.lattice.specs.Axes.{coordinate_of, third_of}
use Rattle.geometry.specs.Traces.{HasTrace, IsOnTrace}
use Rattle.drawn_strips.specs.Strips.{TellHidden, AreEdgeStrips}

-- the corner is listed, and none is before it on the axis; or none is behind it
pub record IsFirstOn (axis : Axis) (corners : List Corner) (k : Corner) : Type 0 where
  pub listed : Contains corners k
  pub bound : All (λ l. coordinate_of axis (point_of k) ≤ℤ coordinate_of axis (point_of l)) corners

pub record IsLastOn (axis : Axis) (corners : List Corner) (k : Corner) : Type 0 where
  pub listed : Contains corners k
  pub bound : All (λ l. coordinate_of axis (point_of l) ≤ℤ coordinate_of axis (point_of k)) corners

-- the strip is the whole trace, from its first end on the axis that it runs along to its last
pub record IsTraceStrip (d : Triple) (s : Part) (c : Plane) (sight : Axis) (y : Strip) : Type 0 where
  pub from : IsOnTrace d s c sight (of_spot y.a)
  pub to : IsOnTrace d s c sight (of_spot y.b)
  pub least : (k : Corner) → Contains s.corners k → coordinate_of (third_of c.axis sight) (of_spot y.a) ≤ℤ coordinate_of (third_of c.axis sight) (point_of k)
  pub most : (k : Corner) → Contains s.corners k → coordinate_of (third_of c.axis sight) (point_of k) ≤ℤ coordinate_of (third_of c.axis sight) (of_spot y.b)
  pub level : coordinate_of sight (of_spot y.a) ≡ coordinate_of sight (of_spot y.b)
  pub whole : y.a.w ≡ pos 1
  pub whole_too : y.b.w ≡ pos 1
  pub first : IsOnLine d y.line (of_spot y.a)
  pub second : IsOnLine d y.line (of_spot y.b)
  pub kind : y.kind ≡ Trace

-- each strip is the trace of one of these planes, and each trace of them has a strip
pub record AreTraceStrips (d : Triple) (s : Part) (cuts : List Plane) (strips : List Strip) : Type 0 where
  pub each : (y : Strip) → Contains strips y → (c : Plane) × Contains cuts c × ((sight : Axis) × IsTraceStrip d s c sight y)
  pub every : (c : Plane) → Contains cuts c → (sight : Axis) → HasTrace d s c sight → (y : Strip) × Contains strips y × IsTraceStrip d s c sight y

-- the strips of a plain view: those of the edges with these numbers, and then those of the traces
pub record ArePlainStrips (d : Triple) (s : Part) (halves numbers : List ℕ) (cuts : List Plane) (strips : List Strip) : Type 0 where
  pub of_edges : List Strip
  pub of_traces : List Strip
  pub together : strips ≡ of_edges ++ of_traces
  pub edges : AreEdgeStrips d {s = s} (TellHidden d) halves numbers of_edges
  pub traces : AreTraceStrips d s cuts of_traces
