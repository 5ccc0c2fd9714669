-- Which points of a view aren't ordinary: those that are seen at corners, at ends and at crossings, which are few.
use Rattle.std.specs.Prelude.{◌≡◌, ◌⊎◌, ℕ, ◌+◌, ◌*◌, ◌-◌, ◌/◌, ◌≤◌, pos, List, Contains, All, length}
use Rattle.lattice.specs.declared.points.Corner.{Corner}
use Rattle.lattice.specs.Cuts.{Plane, toward_of, IsOnPlane}
use Rattle.lattice.specs.Points.{Point, IsPoint, point_of, OnOneSight}
use Rattle.lattice.specs.Triple.{Triple, det}
use Rattle.geometry.specs.Cuts.{EdgeOrBorder, step_of, IsSeenOverInCut, IsOrdinaryInCut}
use Rattle.geometry.specs.Faces.{IsPointOfEdge}
use Rattle.geometry.specs.Parts.{Part, Edge, AreEdges}
use Rattle.geometry.specs.Traces.{IsTraceEnd, TraceRuns, EdgeRuns, IsOrdinaryBeside}
use Rattle.geometry.specs.Views.{AreParallel, IsSeenOver, IsOrdinary}

-- ---- few
-- the pairs of n things
abbrev pub pairs_of : ℕ → ℕ
pairs_of n = n * (n - 1) / 2

-- one of these places is on the line of sight of p
abbrev pub IsInSightOfOne : Triple → List Point → Point → Type 0
IsInSightOfOne d places p = (q : Point) × Contains places q × OnOneSight d q p

-- Holds is true of each point of space that is on none of a few lines of sight: those of at most n places.
pub record HoldsExceptAt (d : Triple) (n : ℕ) (Holds : Point → Type 0) : Type 0 where
  pub places : List Point
  pub there : All IsPoint places
  pub few : length places ≤ n
  pub rest : (p : Point) → Holds p ⊎ IsInSightOfOne d places p

-- ---- which
-- a corner is on the line of sight of p
abbrev pub IsAtCorner : Triple → Part → Point → Type 0
IsAtCorner d s p = (k : Corner) × Contains s.corners k × OnOneSight d (point_of k) p

-- two edges whose projections aren't parallel have points on it
abbrev pub IsAtCrossing : Triple → Part → Point → Type 0
IsAtCrossing d s p = (e f : Edge s) × IsSeenOver d e p × IsSeenOver d f p × ¬ AreParallel d e f

-- an end of a trace is on it
abbrev pub IsAtTraceEnd : Triple → Part → List Plane → Point → Type 0
IsAtTraceEnd d s cuts p = (q : Point) × IsTraceEnd d s cuts q × OnOneSight d q p

-- a trace has a point on it, and so has an edge or another trace, whose projection isn't parallel
abbrev pub IsAtTraceCrossing : Triple → Part → List Plane → Point → Type 0
IsAtTraceCrossing d s cuts p = (way other : Triple) × TraceRuns d s cuts p way × (EdgeRuns d s p other ⊎ TraceRuns d s cuts p other) × ¬ (det d way other ≡ pos 0)

-- the point of an edge on the plane of a cut is on it: where borders end
abbrev pub IsAtBorderEnd : Plane → Part → Point → Type 0
IsAtBorderEnd c s p = (e : Edge s) × (q : Point) × IsPointOfEdge e.a e.b q × IsOnPlane c q × OnOneSight (toward_of c) q p

-- two edges or borders whose projections aren't parallel have points on it
abbrev pub IsAtCrossingInCut : Plane → Part → Point → Type 0
IsAtCrossingInCut c s p = (x y : EdgeOrBorder s) × IsSeenOverInCut c x p × IsSeenOverInCut c y p × ¬ (det (toward_of c) (step_of c x) (step_of c y) ≡ pos 0)

-- ---- all but these
-- what is no exception is ordinary, and on at most n lines of sight a point isn't
pub record IsOrdinaryBut (d : Triple) (n : ℕ) (Exception Ordinary : Point → Type 0) : Type 0 where
  pub named : (p : Point) → ¬ Exception p → Ordinary p
  pub few : HoldsExceptAt d n Ordinary

-- the edges of each part can be listed
abbrev pub HasEdges : Type 0
HasEdges = (s : Part) → (halves : List ℕ) × AreEdges s halves

-- in a plain view: corners, and one place for each pair of edges
abbrev pub IsOrdinaryInPlain : Type 0
IsOrdinaryInPlain =
    (d : Triple) (s : Part) (halves : List ℕ) → AreEdges s halves
    → IsOrdinaryBut d (length s.corners + pairs_of (length halves)) (λ p. IsAtCorner d s p ⊎ IsAtCrossing d s p) (IsOrdinary d s)

-- beside traces: the two ends of each trace besides, and one place for each pair of edges or traces
abbrev pub IsOrdinaryWithTraces : Type 0
IsOrdinaryWithTraces =
    (d : Triple) (s : Part) (cuts : List Plane) (halves : List ℕ) → AreEdges s halves
    → IsOrdinaryBut d (length s.corners + 2 * length cuts + pairs_of (length halves + length cuts))
    (λ p. IsAtCorner d s p ⊎ IsAtCrossing d s p ⊎ IsAtTraceEnd d s cuts p ⊎ IsAtTraceCrossing d s cuts p) (IsOrdinaryBeside d s cuts)

-- in a cut view: corners, one place for each edge, and one for each pair of edges or borders
abbrev pub IsOrdinaryWithBorders : Type 0
IsOrdinaryWithBorders =
    (c : Plane) (s : Part) (halves : List ℕ) → AreEdges s halves
    → IsOrdinaryBut (toward_of c) (length s.corners + length halves + pairs_of (length halves + length s.triangles))
    (λ p. IsAtCorner (toward_of c) s p ⊎ IsAtBorderEnd c s p ⊎ IsAtCrossingInCut c s p) (IsOrdinaryInCut c s)
