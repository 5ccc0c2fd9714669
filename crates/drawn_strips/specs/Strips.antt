-- Strips that are the spans of edges, and those that are the segments of borders.
use Rattle.std.specs.Prelude.{◌≡◌, ◌↔◌, ℕ, ℤ, pos, ◌<ℤ◌, IsTrue, Bool, true, false, List, [], ◌∷◌, ◌++◌, All}
use Rattle.std.specs.List.{AllZip}
use Rattle.lattice.specs.declared.lines.Line.{Line}
use Rattle.lattice.specs.declared.pieces.Strip.{Strip}
use Rattle.lattice.specs.declared.pieces.StripKind.{StripKind}
use Rattle.lattice.specs.declared.pieces.StripKind.TheVariants.{Seen, Hidden}
use Rattle.lattice.specs.Triple.{Triple}
use Rattle.lattice.specs.Points.{Point, of_spot, point_of}
use Rattle.lattice.specs.Lines.{IsOnLine}
use Rattle.lattice.specs.Cuts.{Plane, toward_of}
use Rattle.geometry.specs.Parts.{Part, Edge, IsNumbered}
use Rattle.cut_plane.specs.declared.segments.Segment.{Segment}
use Rattle.lattice.specs.declared.spans.Span.{Span}
use Rattle.geometry.specs.Cuts.{IsHiddenInCut, IsOrdinaryInCut}
use Rattle.geometry.specs.Faces.{share_point}
use Rattle.geometry.specs.Places.{point_at, IsBetween, HasNoEndAt, HasNoOrdinaryEnd}
use Rattle.cut_plane.specs.Diagonals.{IsUnderBorder}
use Rattle.geometry.specs.Spans.{CoverEdge, IsAnswer}
use Rattle.cut_plane.specs.Beyond.{CoverBeyond}

-- the spans cover the edge, none of their ends is at an ordinary point, and at each ordinary point within a span what it tells is so
pub record TellHidden (d : Triple) {s : Part} (e : Edge s) (spans : List Span) : Type 0 where
  pub covers : CoverEdge spans
  pub ends : All (λ x. HasNoOrdinaryEnd d e x.from x.to) spans
  pub answers : All (IsAnswer d e) spans

-- where spans of a cut view's edges are asked: at points with no border on their line of sight, as counts are, or everywhere
abbrev pub IsOffBorders : Plane → Part → Point → Type 0
IsOffBorders c s p = ¬ IsUnderBorder c s p

abbrev pub IsAnywhere : Point → Type 0
IsAnywhere p = Unit {0}

-- at each ordinary point strictly within the span that is free, what it tells is so
abbrev pub IsFreeAnswer : Plane → (Point → Type 0) → {s : Part} → Edge s → Span → Type 0
IsFreeAnswer c Free {s = s} e x = (n m : ℤ) → pos 0 <ℤ m → IsBetween x.from x.to n m → IsOrdinaryInCut c s (share_point e.a e.b n m) → Free (share_point e.a e.b n m) →
    IsTrue x.hidden ↔ IsHiddenInCut c s (share_point e.a e.b n m)

-- the same in the view of a cut: they cover the part of the edge beyond the plane, and tell what is so at free points
pub record TellHiddenInCut (c : Plane) (Free : Point → Type 0) {s : Part} (e : Edge s) (spans : List Span) : Type 0 where
  pub covers : CoverBeyond c e spans
  pub ends : All (λ x. HasNoEndAt (IsOrdinaryInCut c s) e x.from x.to) spans
  pub answers : All (IsFreeAnswer c Free e) spans

-- both corners of the edge are seen on the line
pub record IsEdgeLine (d : Triple) {s : Part} (e : Edge s) (l : Line) : Type 0 where
  pub first : IsOnLine d l (point_of e.a)
  pub second : IsOnLine d l (point_of e.b)

-- a strip of a hidden span is hidden, one of a visible span is seen
abbrev pub strip_kind : Bool → StripKind
strip_kind true = Hidden
strip_kind false = Seen

-- the strip is the whole span, on the line of its edge
pub record IsStripOf (d : Triple) {s : Part} (e : Edge s) (x : Span) (strip : Strip) : Type 0 where
  pub line : IsEdgeLine d e strip.line
  pub from : of_spot strip.a ≡ point_at e x.from
  pub to : of_spot strip.b ≡ point_at e x.to
  pub kind : strip.kind ≡ strip_kind x.hidden

-- the strips are spans of the edge that are right, one each, in order
pub record AreStripsOf (d : Triple) {s : Part} (Right : Edge s → List Span → Type 0) (e : Edge s) (strips : List Strip) : Type 0 where
  pub spans : List Span
  pub right : Right e spans
  pub each : AllZip (IsStripOf d e) spans strips

-- the strips of the edges with these numbers, one edge after the other
abbrev pub AreEdgeStrips : Triple → {s : Part} → (Edge s → List Span → Type 0) → List ℕ → List ℕ → List Strip → Type 0
AreEdgeStrips d Right halves [] strips = strips ≡ []
AreEdgeStrips d {s = s} Right halves (i ∷ is) strips =
    (here : List Strip) × (rest : List Strip) × (strips ≡ here ++ rest) × ((e : Edge s) → IsNumbered halves i e → AreStripsOf d Right e here) × AreEdgeStrips d Right halves is rest

-- the strip is the segment, and is visible
pub record IsBorderStrip (x : Segment) (strip : Strip) : Type 0 where
  pub line : strip.line ≡ x.line
  pub from : of_spot strip.a ≡ of_spot x.a
  pub to : of_spot strip.b ≡ of_spot x.b
  pub kind : strip.kind ≡ Seen

-- the strips of a cut view: those of the edges with these numbers, by spans that tell what is so at free points, and then one for each segment
pub record AreCutStrips (c : Plane) (Free : Point → Type 0) (s : Part) (halves numbers : List ℕ) (segments : List Segment) (strips : List Strip) : Type 0 where
  pub of_edges : List Strip
  pub of_borders : List Strip
  pub together : strips ≡ of_edges ++ of_borders
  pub edges : AreEdgeStrips (toward_of c) {s = s} (TellHiddenInCut c Free) halves numbers of_edges
  pub borders : AllZip IsBorderStrip segments of_borders
