-- The spans of all faces tell where an edge is hidden, in a cut view under borders too; so strips of them are those of the view.
use Rattle.std.proofs.Common.{◌≡◌, ℕ, List, ◌++◌, All, get_or}
use Rattle.std.specs.List.{AllZip}
use Rattle.std.proofs.lemmas.List.Elements.{Contains-get_or}
use Rattle.lattice.specs.declared.pieces.Strip.{Strip}
use Rattle.lattice.specs.Cuts.{Plane, plane_of, toward_of}
use Rattle.lattice.specs.Triple.{Triple}
use Rattle.geometry.specs.Parts.{Part, Edge}
use Rattle.geometry.specs.Places.{IsEarlier}
use Rattle.geometry.specs.Views.{AreDrawnEdges}
use Rattle.solid_mesh.specs.Solids.{solid_part, edge_halves}
use Rattle.solid_mesh.specs.declared.solid.Solid.{Solid}
use Rattle.solid_mesh.proofs.Facts.{closed, in_range, edge_there}
use Rattle.cut_plane.specs.Loops.{AreBorders}
use Rattle.cut_plane.specs.declared.segments.Segment.{Segment}
use Rattle.span_slow.specs.CutSpans.{AreCutSpans}
use Rattle.span_slow.specs.Spans.{AreSpans}
use Rattle.span_slow.specs.Views.{AreSpansIn}
use Rattle.lattice.specs.declared.spans.Span.{Span}
use Rattle.span_slow.specs.declared.view.View.{View}
use Rattle.span_slow.specs.declared.view.View.TheVariants.{Plain, Section}
use Rattle.drawn_strips.specs.Scenes.{AreStripsAlong, AreStripsBeyond}
use Rattle.drawn_strips.specs.Strips.{TellHidden, IsAnywhere, TellHiddenInCut, AreEdgeStrips, IsBorderStrip}
use Rattle.drawn_strips.specs.Traces.{AreTraceStrips}
use Rattle.drawn_strips.proofs.CutPlaces.{in_part}
use Rattle.drawn_strips.proofs.CutRight.{cut_strips_in}
use Rattle.drawn_strips.proofs.SpanPlaces.{earlier_in}
use Rattle.drawn_strips.proofs.StripLists.{edges_weaker}
use Rattle.drawn_strips.proofs.ViewRight.{plain_strips_in}

pub slow_told : (d : Triple) {s : Part} (e : Edge s) (spans : List Span) → AreSpans d e spans → TellHidden d e spans
slow_told d e spans are = record { covers = are.covers; ends = are.ends; answers = are.answers }

pub slow_told_in_cut : (c : Plane) {s : Part} (e : Edge s) (spans : List Span) → AreCutSpans c e spans → TellHiddenInCut c IsAnywhere e spans
slow_told_in_cut c e spans are = record {
  covers = are.covers;
  ends = are.ends;
  answers = λ k z within n m positive between ordinary free. are.answers k z within n m positive between ordinary;
}

-- each begins before it ends
pub slow_earlier : (v : View) {s : Part} (e : Edge s) (spans : List Span) → AreSpansIn v e spans → All (λ x. IsEarlier x.from x.to) spans
slow_earlier (Plain d) e spans are k z within =
    let (from, to, zero_is, one_is, follow) = are.covers in
    earlier_in from to spans follow (get_or spans k z) (Contains-get_or spans k z within)
slow_earlier (Section x) e spans are k z within = (in_part (plane_of x.now.cut) e spans are.covers (get_or spans k z) (Contains-get_or spans k z within)).earlier

-- ---- the strips of the drawn edges of a solid, and of traces or borders
module _ (solid : Solid) (fraction : ℕ) (numbers : List ℕ) (of_edges here strips : List Strip) (together : strips ≡ of_edges ++ here) where
  pub slow_along : (d : Triple) (cuts : List Plane) → AreDrawnEdges d fraction (solid_part solid) (edge_halves solid) numbers
      → AreEdgeStrips d {s = solid_part solid} (AreSpans d) (edge_halves solid) numbers of_edges → AreTraceStrips d (solid_part solid) cuts here → AreStripsAlong d fraction (solid_part solid) cuts strips
  slow_along d cuts drawn edges traces =
      plain_strips_in d fraction (solid_part solid) (edge_halves solid) numbers cuts strips (closed solid) (edge_there solid) drawn
      (record {
        of_edges = of_edges;
        of_traces = here;
        together = together;
        edges = edges_weaker d (AreSpans d) (TellHidden d) (edge_halves solid) (slow_told d) numbers of_edges edges;
        traces = traces;
      })

  pub slow_beyond : (c : Plane) (segments : List Segment) (places : List ℕ) → AreDrawnEdges (toward_of c) fraction (solid_part solid) (edge_halves solid) numbers
      → AreBorders c (solid_part solid) segments places → AreEdgeStrips (toward_of c) {s = solid_part solid} (AreCutSpans c) (edge_halves solid) numbers of_edges
      → AllZip IsBorderStrip segments here → AreStripsBeyond c fraction (solid_part solid) strips
  slow_beyond c segments places drawn borders edges each =
      cut_strips_in c IsAnywhere (λ p q positive sight free. tt) fraction (solid_part solid) (edge_halves solid) numbers segments places strips
      (closed solid) (in_range solid) (edge_there solid) drawn borders
      (record {
        of_edges = of_edges;
        of_borders = here;
        together = together;
        edges = edges_weaker (toward_of c) (AreCutSpans c) (TellHiddenInCut c IsAnywhere) (edge_halves solid) (slow_told_in_cut c) numbers of_edges edges;
        borders = each;
      })
      (λ p. tt)
