-- When pieces are strips put together: visible before hidden before traces, whole, without overlap, in order.
use Rattle.std.specs.Prelude.{◌≡◌, ◌↔◌, List, Contains, All}
use Rattle.lattice.specs.declared.pieces.Piece.{Piece}
use Rattle.lattice.specs.declared.pieces.Strip.{Strip}
use Rattle.lattice.specs.declared.pieces.StripKind.{StripKind}
use Rattle.lattice.specs.declared.pieces.StripKind.TheVariants.{Seen, Hidden, Trace}
use Rattle.lattice.specs.declared.pieces.Style.TheVariants.{Solid, Dashed, Chain}
use Rattle.lattice.specs.Triple.{Triple}
use Rattle.lattice.specs.Points.{Point, IsPoint, of_spot, OnOneSight}
use Rattle.lattice.specs.Lines.{AreStripEnds, IsSameLine}
use Rattle.geometry.specs.Pieces.{LiesBetween, LiesOnStyle, LieOnOnce, AreProper, AreWhole, AreInOrder}

-- seen from d, each strip is on its line, and is no dot
abbrev pub AreStrips : Triple → List Strip → Type 0
AreStrips d strips = All (λ x. AreStripEnds d x.line x.a x.b) strips

abbrev pub LiesOnStrip : Triple → Strip → Point → Type 0
LiesOnStrip d x p = LiesBetween d x.a x.b p

-- p is at no strip's end, and the strips that it lies on are on one line
pub record IsClear (d : Triple) (strips : List Strip) (p : Point) : Type 0 where
  pub off_ends : All (λ x. (¬ OnOneSight d (of_spot x.a) p) × (¬ OnOneSight d (of_spot x.b) p)) strips
  pub one_line : (x y : Strip) → Contains strips x → Contains strips y → LiesOnStrip d x p → LiesOnStrip d y p → IsSameLine x.line y.line

-- p lies on a strip of this kind
abbrev pub LiesOnKind : Triple → List Strip → StripKind → Point → Type 0
LiesOnKind d strips kind p = (x : Strip) × Contains strips x × (x.kind ≡ kind) × LiesOnStrip d x p

-- p lies on strips, and all of them are traces
pub record LiesOnTracesOnly (d : Triple) (strips : List Strip) (p : Point) : Type 0 where
  pub some : (x : Strip) × Contains strips x × LiesOnStrip d x p
  pub traces : (x : Strip) → Contains strips x → LiesOnStrip d x p → x.kind ≡ Trace

-- The pieces are the strips put together. What is said of a point is said of those that are clear of ends and of other lines.
pub record AreMerged (d : Triple) (strips : List Strip) (pieces : List Piece) : Type 0 where
  pub proper : AreProper d pieces
  pub visible : (p : Point) → IsPoint p → IsClear d strips p → LiesOnStyle d pieces Solid p ↔ LiesOnKind d strips Seen p
  pub hidden : (p : Point) → IsPoint p → IsClear d strips p → LiesOnStyle d pieces Dashed p ↔ (LiesOnKind d strips Hidden p × ¬ LiesOnKind d strips Seen p)
  pub traces : (p : Point) → IsPoint p → IsClear d strips p → LiesOnStyle d pieces Chain p ↔ LiesOnTracesOnly d strips p
  pub once : (p : Point) → IsPoint p → IsClear d strips p → LieOnOnce d pieces p
  pub whole : AreWhole d pieces
  pub order : AreInOrder d pieces
