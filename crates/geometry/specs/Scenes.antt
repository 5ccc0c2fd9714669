-- When a list of pieces is right for what a view draws and hides.
use Rattle.std.specs.Prelude.{◌↔◌, ℕ, List}
use Rattle.lattice.specs.declared.pieces.Piece.{Piece}
use Rattle.lattice.specs.declared.pieces.Style.TheVariants.{Solid, Dashed, Chain}
use Rattle.lattice.specs.Triple.{Triple}
use Rattle.lattice.specs.Points.{Point, IsPoint, OnOneSight}
use Rattle.lattice.specs.Cuts.{Plane, toward_of}
use Rattle.geometry.specs.Parts.{Part}
use Rattle.geometry.specs.Cuts.{IsDrawnInCut, IsHiddenInCut, IsOrdinaryInCut}
use Rattle.geometry.specs.Pieces.{LiesOnStyle, AreProper, LieOnOnce, AreWhole}
use Rattle.geometry.specs.Traces.{IsTracePoint, IsOrdinaryBeside}
use Rattle.geometry.specs.Views.{IsHidden, IsDrawnPoint}

-- a drawn point is on the line of sight of p
abbrev pub IsSeenAt : Triple → (Point → Type 0) → Point → Point → Type 0
IsSeenAt d Drawn p q = Drawn q × OnOneSight d q p

-- a drawn point that is not hidden is on the line of sight of p
abbrev pub SeesVisible : Triple → (Point → Type 0) → (Point → Type 0) → Point → Type 0
SeesVisible d Drawn Hidden p = (q : Point) × Drawn q × OnOneSight d q p × ¬ Hidden q

-- drawn points are on the line of sight of p, and all of them are hidden
pub record SeesHiddenAlone (d : Triple) (Drawn Hidden : Point → Type 0) (p : Point) : Type 0 where
  pub some : (q : Point) × IsSeenAt d Drawn p q
  pub hidden : (q : Point) → IsSeenAt d Drawn p q → Hidden q

-- a point of a trace is on the line of sight of p, and no drawn point is
pub record SeesTraceAlone (d : Triple) (Drawn Traced : Point → Type 0) (p : Point) : Type 0 where
  pub some : (q : Point) × IsSeenAt d Traced p q
  pub none : (q : Point) → ¬ IsSeenAt d Drawn p q

-- The pieces are right for a view along d with these drawn and hidden points, points of traces and ordinary points.
pub record AreRightIn (d : Triple) (Drawn Hidden Traced Ordinary : Point → Type 0) (pieces : List Piece) : Type 0 where
  pub proper : AreProper d pieces
  -- an ordinary point lies on a solid piece exactly if a drawn point that is not hidden is on its line of sight
  pub visible : (p : Point) → IsPoint p → Ordinary p → LiesOnStyle d pieces Solid p ↔ SeesVisible d Drawn Hidden p
  -- it lies on a dashed piece exactly if only hidden drawn points are
  pub hidden : (p : Point) → IsPoint p → Ordinary p → LiesOnStyle d pieces Dashed p ↔ SeesHiddenAlone d Drawn Hidden p
  -- it lies on a chain piece exactly if only points of traces are
  pub traced : (p : Point) → IsPoint p → Ordinary p → LiesOnStyle d pieces Chain p ↔ SeesTraceAlone d Drawn Traced p
  -- no two pieces share an ordinary point
  pub once : (p : Point) → IsPoint p → Ordinary p → LieOnOnce d pieces p
  pub whole : AreWhole d pieces

-- right for the plain view of the part along d, with the crease's fraction and the planes of these cuts
abbrev pub AreRight : Triple → ℕ → Part → List Plane → List Piece → Type 0
AreRight d fraction s cuts pieces =
    AreRightIn d (IsDrawnPoint d fraction s) (IsHidden d s) (IsTracePoint d s cuts) (IsOrdinaryBeside d s cuts) pieces

-- right for a cut view of the part, with the crease's fraction; it has no traces
abbrev pub AreRightInCut : Plane → ℕ → Part → List Piece → Type 0
AreRightInCut c fraction s pieces = AreRightIn (toward_of c) (IsDrawnInCut c fraction s) (IsHiddenInCut c s) (λ p. ⊥) (IsOrdinaryInCut c s) pieces
