-- The strips that the counts of a view tell, put together with its traces or borders, are right for the view.
use Rattle.std.proofs.Common.{List, ◌++◌, map, get_or, refl, ℕ}
use Rattle.std.specs.List.{AllZip}
use Rattle.std.proofs.lemmas.List.Elements.{All-contains, Contains-get_or}
use Rattle.cut_plane.specs.Loops.{IsSegmentOf, AreBorders}
use Rattle.cut_plane.specs.declared.segments.Segment.{Segment}
use Rattle.drawn_strips.proofs.BorderStrips.{border_strip_ends}
use Rattle.drawn_strips.proofs.CutRight.{off_borders_along, right_in_cut}
use Rattle.drawn_strips.specs.Strips.{IsOffBorders, IsBorderStrip}
use Rattle.drawn_strips.proofs.ViewRight.{right_view}
use Rattle.drawn_strips.specs.Traces.{AreTraceStrips}
use Rattle.geometry.specs.Scenes.{AreRight, AreRightInCut}
use Rattle.lattice.specs.Cuts.{Plane, toward_of}
use Rattle.lattice.specs.Triple.{Triple}
use Rattle.lattice.specs.declared.pieces.Piece.{Piece}
use Rattle.lattice.specs.declared.pieces.Strip.{Strip}
use Rattle.line_merge.proofs.Zips.{zip_right}
use Rattle.line_merge.specs.Merging.{AreStrips}
use Rattle.solid_mesh.proofs.Facts.{closed, in_range, edge_there}
use Rattle.solid_mesh.specs.Solids.{solid_part, edge_halves}
use Rattle.solid_mesh.specs.declared.solid.Solid.{Solid}
use Rattle.span_count.specs.declared.span.EdgeSpans.{EdgeSpans}
use Rattle.view_lines.proofs.CountedEdges.{told_along, told_beyond}
use Rattle.view_lines.specs.Counts.{AreCountsAlong, AreCountsBeyond}
use Rattle.view_lines.specs.inner.Merged.{AreMergedWith}

pub right_plain : (d : Triple) (fraction : ℕ) (solid : Solid) (cuts : List Plane) (entries : List EdgeSpans) (traces : List Strip) (pieces : List Piece) → AreCountsAlong d fraction solid entries
    → AreTraceStrips d (solid_part solid) cuts traces → AreMergedWith d solid entries traces pieces → AreRight d fraction (solid_part solid) cuts pieces
right_plain d fraction solid cuts entries traces pieces along are (of_edges, told, merged) =
    right_view d fraction (solid_part solid) (edge_halves solid) (map (λ x. x.edge) entries) cuts (of_edges ++ traces) (closed solid) (edge_there solid) along.edges (record {
      of_edges = of_edges;
      of_traces = traces;
      together = refl;
      edges = told_along d fraction solid entries along of_edges told;
      traces = are;
    }) pieces merged

module _ (c : Plane) (solid : Solid) (segments : List Segment) (places : List ℕ) (strips : List Strip) (borders : AreBorders c (solid_part solid) segments places) (each : AllZip IsBorderStrip segments strips) where
  -- each border is on its line, and is no dot
  pub border_ends : AreStrips (toward_of c) strips
  border_ends k e less =
      let y = get_or strips k e in
      let (x, listed, is) = zip_right IsBorderStrip segments strips each y (Contains-get_or strips k e less) in
      border_strip_ends c (solid_part solid) (closed solid) (in_range solid) x (All-contains (IsSegmentOf c (solid_part solid)) segments x borders.each listed) y is

pub right_cut : (c : Plane) (fraction : ℕ) (solid : Solid) (entries : List EdgeSpans) (segments : List Segment) (places : List ℕ) (strips : List Strip) (pieces : List Piece) → AreBorders c (solid_part solid) segments places
    → AreCountsBeyond c fraction solid entries → AllZip IsBorderStrip segments strips → AreMergedWith (toward_of c) solid entries strips pieces → AreRightInCut c fraction (solid_part solid) pieces
right_cut c fraction solid entries segments places strips pieces borders beyond each (of_edges, told, merged) =
    right_in_cut c (IsOffBorders c (solid_part solid)) (off_borders_along c (solid_part solid)) fraction (solid_part solid) (edge_halves solid) (map (λ x. x.edge) entries) segments places (of_edges ++ strips)
    (closed solid) (in_range solid) (edge_there solid) beyond.edges borders (record {
      of_edges = of_edges;
      of_borders = strips;
      together = refl;
      edges = told_beyond c fraction solid entries beyond of_edges told;
      borders = each;
    }) (λ p off. off) pieces merged
