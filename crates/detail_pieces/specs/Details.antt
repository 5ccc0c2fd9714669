-- When pieces are a detail of a view: what the view shows in a window, and nothing else.
use Rattle.std.specs.Prelude.{◌↔◌, ◌⊎◌, ℕ, List, Contains}
use Rattle.lattice.specs.declared.pieces.Piece.{Piece}
use Rattle.lattice.specs.declared.pieces.Style.TheVariants.{Solid, Dashed, Chain}
use Rattle.lattice.specs.declared.pieces.ViewSpec.{ViewSpec}
use Rattle.lattice.specs.declared.pieces.ViewSpec.TheVariants.{Plain, Section}
use Rattle.lattice.specs.Triple.{Triple}
use Rattle.lattice.specs.Points.{Point, IsPoint, of_dir}
use Rattle.lattice.specs.Cuts.{Plane, plane_of, toward_of}
use Rattle.geometry.specs.Parts.{Part}
use Rattle.geometry.specs.Cuts.{IsDrawnInCut, IsHiddenInCut, IsOrdinaryInCut}
use Rattle.geometry.specs.Pieces.{LiesOn, LiesOnStyle, AreProper, LieOnOnce, AreWhole}
use Rattle.geometry.specs.Scenes.{IsSeenAt, SeesVisible, SeesHiddenAlone, SeesTraceAlone}
use Rattle.geometry.specs.Traces.{IsTracePoint, IsOrdinaryBeside}
use Rattle.geometry.specs.Views.{IsHidden, IsDrawnPoint}
use Rattle.detail_pieces.specs.declared.windows.Window.{Window}
use Rattle.detail_pieces.specs.Windows.{IsWithinWindow, IsAtWindowCorner}

-- The pieces are a detail of a view along d, with these drawn and hidden points, points of traces and ordinary points, in a window.
pub record IsDetailIn (d : Triple) (Drawn Hidden Traced Ordinary : Point → Type 0) (o : Window) (pieces : List Piece) : Type 0 where
  pub proper : AreProper d pieces
  -- an ordinary point in the window lies on a solid, a dashed or a chain piece exactly as in the whole view, on all four sides too,
  -- but not where two of them meet
  pub visible : (p : Point) → IsPoint p → Ordinary p → IsWithinWindow d o p → ¬ IsAtWindowCorner d o p → LiesOnStyle d pieces Solid p ↔ SeesVisible d Drawn Hidden p
  pub hidden : (p : Point) → IsPoint p → Ordinary p → IsWithinWindow d o p → ¬ IsAtWindowCorner d o p → LiesOnStyle d pieces Dashed p ↔ SeesHiddenAlone d Drawn Hidden p
  pub traced : (p : Point) → IsPoint p → Ordinary p → IsWithinWindow d o p → ¬ IsAtWindowCorner d o p → LiesOnStyle d pieces Chain p ↔ SeesTraceAlone d Drawn Traced p
  -- no piece has a point outside of the window
  pub within : (l : Piece) → Contains pieces l → (p : Point) → IsPoint p → LiesOn d l p → IsWithinWindow d o p
  -- an ordinary point of a piece has a drawn point or a point of a trace on its line of sight, at a corner of the window too
  pub shown : (p : Point) → IsPoint p → Ordinary p → (l : Piece) → Contains pieces l → LiesOn d l p → ((q : Point) × IsSeenAt d Drawn p q) ⊎ ((q : Point) × IsSeenAt d Traced p q)
  -- no two pieces share an ordinary point
  pub once : (p : Point) → IsPoint p → Ordinary p → LieOnOnce d pieces p
  pub whole : AreWhole d pieces

-- a detail of the plain view of the part along d, with the crease's fraction and the planes of these cuts
abbrev pub IsDetailAlong : Triple → ℕ → Part → List Plane → Window → List Piece → Type 0
IsDetailAlong d fraction s cuts o pieces = IsDetailIn d (IsDrawnPoint d fraction s) (IsHidden d s) (IsTracePoint d s cuts) (IsOrdinaryBeside d s cuts) o pieces

-- a detail of a cut view of the part, with the crease's fraction; it has no traces
abbrev pub IsDetailInCut : Plane → ℕ → Part → Window → List Piece → Type 0
IsDetailInCut c fraction s o pieces = IsDetailIn (toward_of c) (IsDrawnInCut c fraction s) (IsHiddenInCut c s) (λ p. ⊥) (IsOrdinaryInCut c s) o pieces

-- a detail of what a view shows: the whole part, with the traces of these cuts, or what a cut leaves of it
abbrev pub IsDetailView : ViewSpec → Window → ℕ → Part → List Plane → List Piece → Type 0
IsDetailView (Plain d) o fraction s cuts pieces = IsDetailAlong (of_dir d) fraction s cuts o pieces
IsDetailView (Section c) o fraction s cuts pieces = IsDetailInCut (plane_of c) fraction s o pieces
