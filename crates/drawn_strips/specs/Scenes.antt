-- When strips are those of what a view draws and hides.
use Rattle.std.specs.Prelude.{◌↔◌, ◌⊎◌, ℕ, List}
use Rattle.lattice.specs.declared.pieces.Strip.{Strip}
use Rattle.lattice.specs.declared.pieces.StripKind.TheVariants.{Seen, Hidden, Trace}
use Rattle.lattice.specs.declared.pieces.ViewSpec.{ViewSpec}
use Rattle.lattice.specs.declared.pieces.ViewSpec.TheVariants.{Plain, Section}
use Rattle.lattice.specs.Triple.{Triple}
use Rattle.lattice.specs.Points.{Point, IsPoint, of_dir}
use Rattle.lattice.specs.Cuts.{Plane, plane_of, toward_of}
use Rattle.geometry.specs.Parts.{Part}
use Rattle.geometry.specs.Cuts.{IsDrawnInCut, IsHiddenInCut, IsOrdinaryInCut}
use Rattle.geometry.specs.Scenes.{IsSeenAt, SeesVisible}
use Rattle.geometry.specs.Traces.{IsTracePoint, IsOrdinaryBeside}
use Rattle.geometry.specs.Views.{IsHidden, IsDrawnPoint}
use Rattle.line_merge.specs.Merging.{AreStrips, IsClear, LiesOnKind}

-- a hidden drawn point is on the line of sight of p
abbrev pub SeesHidden : Triple → (Point → Type 0) → (Point → Type 0) → Point → Type 0
SeesHidden d Drawn Hides p = (q : Point) × IsSeenAt d Drawn p q × Hides q

-- The strips are those of a view along d with these drawn and hidden points, points of traces and ordinary points.
pub record AreStripsIn (d : Triple) (Drawn Hides Traced Ordinary : Point → Type 0) (strips : List Strip) : Type 0 where
  -- each is on its line, and is no dot
  pub proper : AreStrips d strips
  -- an ordinary point is at no strip's end, and all strips that it lies on are on one line
  pub clear : (p : Point) → IsPoint p → Ordinary p → IsClear d strips p
  -- it lies on a seen strip exactly if a drawn point that is not hidden is on its line of sight
  pub visible : (p : Point) → IsPoint p → Ordinary p → LiesOnKind d strips Seen p ↔ SeesVisible d Drawn Hides p
  -- it lies on a hidden strip exactly if a hidden drawn point is
  pub hidden : (p : Point) → IsPoint p → Ordinary p → LiesOnKind d strips Hidden p ↔ SeesHidden d Drawn Hides p
  -- it lies on a strip of a trace exactly if a point of a trace is
  pub traced : (p : Point) → IsPoint p → Ordinary p → LiesOnKind d strips Trace p ↔ ((q : Point) × IsSeenAt d Traced p q)
  -- of each drawn point on its line of sight it is decided whether it is hidden
  pub decided : (p : Point) → IsPoint p → Ordinary p → (q : Point) → IsSeenAt d Drawn p q → Hides q ⊎ ¬ Hides q

-- those of the plain view of the part along d, with the crease's fraction and the traces of these cuts
abbrev pub AreStripsAlong : Triple → ℕ → Part → List Plane → List Strip → Type 0
AreStripsAlong d fraction s cuts strips = AreStripsIn d (IsDrawnPoint d fraction s) (IsHidden d s) (IsTracePoint d s cuts) (IsOrdinaryBeside d s cuts) strips

-- those of a cut view of the part, with the crease's fraction; it has no traces
abbrev pub AreStripsBeyond : Plane → ℕ → Part → List Strip → Type 0
AreStripsBeyond c fraction s strips = AreStripsIn (toward_of c) (IsDrawnInCut c fraction s) (IsHiddenInCut c s) (λ p. ⊥) (IsOrdinaryInCut c s) strips

-- those of what a view shows: the whole part, with the traces of these cuts, or what a cut leaves of it
abbrev pub AreViewStrips : ViewSpec → ℕ → Part → List Plane → List Strip → Type 0
AreViewStrips (Plain d) fraction s cuts strips = AreStripsAlong (of_dir d) fraction s cuts strips
AreViewStrips (Section c) fraction s cuts strips = AreStripsBeyond (plane_of c) fraction s strips
