-- What the strips of a view come from, in the order of the numbers of their lines.
use Rattle.std.proofs.Common.{inl, inr}
use Rattle.std.specs.Prelude.{◌≡◌, ◌⊎◌, ◌<◌, List, [], ◌∷◌, ◌++◌, map, flat_map, length, All, IsPermutation}
use Rattle.std.specs.List.{AllZip}
use Rattle.std.specs.List.Sorted.{IsNonDecreasingBy}
use Rattle.lattice.specs.declared.lines.Line.{Line}
use Rattle.lattice.specs.declared.pieces.Strip.{Strip}
use Rattle.lattice.specs.Lines.{IsSameLine, AreStripEnds}
use Rattle.lattice.specs.Triple.{Triple}
use Rattle.geometry.specs.Views.{IsEndOn}
use Rattle.edge_pick.specs.Edges.{OfEdge}
use Rattle.drawn_strips.specs.Strips.{IsEdgeLine, IsStripOf}
use Rattle.line_merge.specs.declared.by_line.LineMerge.{LineMerge}
use Rattle.line_merge.specs.Numbers.{number_in, IsIn}
use Rattle.line_merge.specs.Taken.{AreTaken}
use Rattle.solid_mesh.specs.Solids.{edge_halves}
use Rattle.solid_mesh.specs.declared.solid.Solid.{Solid}
use Rattle.span_count.specs.declared.span.EdgeSpans.{EdgeSpans}
use Rattle.lattice.specs.declared.spans.Span.{Span}
use Rattle.view_lines.specs.inner.Told.{AreToldBy}
use Rattle.view_lines.specs.declared.sources.Source.{Source}
use Rattle.view_lines.specs.declared.sources.Source.TheVariants.{Edge, Other}
use Rattle.view_lines.specs.declared.sources.Placed.{Placed}
use Rattle.view_lines.specs.inner.Chained.{AreChained}

-- the counts of an edge, or a strip beside those of the edges
abbrev pub Origin : Type 0
Origin = EdgeSpans ⊎ Strip

abbrev pub origin_of : Source → Origin
origin_of (Edge x) = inl x.now
origin_of (Other y) = inr y.now

-- those of the edges, and then the others
abbrev pub origins : List EdgeSpans → List Strip → List Origin
origins entries others = map inl entries ++ map inr others

-- the edge is one of the solid's, is not seen end-on, and has counts that follow one another; the strip is on its line, and is no dot
abbrev pub CanBeDrawn : Triple → Solid → Origin → Type 0
CanBeDrawn d solid (inl x) = (x.edge < length (edge_halves solid)) × OfEdge solid x.edge (λ e. ¬ IsEndOn d e) × AreChained x.spans.items
CanBeDrawn d solid (inr y) = AreStripEnds d y.line y.a y.b

-- it is seen on this line
abbrev pub HasLine : Triple → Solid → Origin → Line → Type 0
HasLine d solid (inl x) l = OfEdge solid x.edge (λ e. IsEdgeLine d e l)
HasLine d solid (inr y) l = IsSameLine y.line l

-- the strips of the edge, one for each span that its counts tell
abbrev pub AreEntryStrips : Triple → Solid → EdgeSpans → List Strip → Type 0
AreEntryStrips d solid x strips = (spans : List Span) × AreToldBy x.spans.items spans × OfEdge solid x.edge (λ e. AllZip (IsStripOf d e) spans strips)

-- its strips: those of the edge, or the strip itself
abbrev pub AreOriginStrips : Triple → Solid → Origin → List Strip → Type 0
AreOriginStrips d solid (inl x) strips = AreEntryStrips d solid x strips
AreOriginStrips d solid (inr y) strips = strips ≡ y ∷ []

-- its line is in the table, and has the number
pub record IsPlaced (d : Triple) (solid : Solid) (table : List Line) (x : Placed) : Type 0 where
  pub line : Line
  pub seen : HasLine d solid (origin_of x.source) line
  pub listed : IsIn table line
  pub number : x.line ≡ number_in table line

-- each of them in its place
pub record ArePlaced (d : Triple) (solid : Solid) (table : List Line) (all : List Origin) (placed : List Placed) : Type 0 where
  pub same : map (λ x. origin_of x.source) placed ≡ all
  pub each : All (IsPlaced d solid table) placed

-- the edges and the other strips in the order of the numbers of their lines
pub record AreByLine (d : Triple) (solid : Solid) (all : List Origin) (placed : List Placed) : Type 0 where
  pub table : List Line
  pub each : All (IsPlaced d solid table) placed
  pub moves : IsPermutation all (map (λ x. origin_of x.source) placed)
  pub ascending : IsNonDecreasingBy (λ (x : Placed). x.line) placed

-- the strips of each of them are taken, by the numbers of their lines in the table
pub record AreTakenOf (d : Triple) (solid : Solid) (table : List Line) (all : List Origin) (lines : LineMerge) : Type 0 where
  pub strips : List (List Strip)
  pub each : AllZip (AreOriginStrips d solid) all strips
  pub listed : All (λ y. IsIn table y.line) (flat_map (λ ys. ys) strips)
  pub taken : AreTaken d (number_in table) (flat_map (λ ys. ys) strips) lines
