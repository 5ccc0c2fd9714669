-- Pieces that are strips which counts tell, and others, put together.
use Rattle.std.specs.Prelude.{◌++◌, List, map}
use Rattle.lattice.specs.Triple.{Triple}
use Rattle.lattice.specs.declared.pieces.Piece.{Piece}
use Rattle.lattice.specs.declared.pieces.Strip.{Strip}
use Rattle.line_merge.specs.Merging.{AreMerged}
use Rattle.solid_mesh.specs.Solids.{solid_part, edge_halves}
use Rattle.solid_mesh.specs.declared.solid.Solid.{Solid}
use Rattle.span_count.specs.declared.span.EdgeSpans.{EdgeSpans}
use Rattle.drawn_strips.specs.Strips.{AreEdgeStrips}
use Rattle.view_lines.specs.inner.Told.{AreTold}

-- the strips of the edges of these entries, edge by edge, by the spans that their counts tell
abbrev pub AreStripsTold : Triple → Solid → List EdgeSpans → List Strip → Type 0
AreStripsTold d solid entries strips =
    AreEdgeStrips d {s = solid_part solid} (AreTold entries (edge_halves solid)) (edge_halves solid) (map (λ x. x.edge) entries) strips

-- the pieces are these strips and some others, put together
abbrev pub AreMergedWith : Triple → Solid → List EdgeSpans → List Strip → List Piece → Type 0
AreMergedWith d solid entries others pieces =
    (of_edges : List Strip) × AreStripsTold d solid entries of_edges × AreMerged d (of_edges ++ others) pieces
