-- The counts of nearer faces along the drawn edges of a view.
use Rattle.std.specs.Prelude.{ℕ, List, map, All}
use Rattle.cut_count.specs.CutSpans.{AreCutCountSpans}
use Rattle.edge_pick.specs.Edges.{OfEdge}
use Rattle.geometry.specs.Views.{AreDrawnEdges}
use Rattle.lattice.specs.Cuts.{Plane, toward_of}
use Rattle.lattice.specs.Triple.{Triple}
use Rattle.solid_mesh.specs.Solids.{solid_part, edge_halves}
use Rattle.solid_mesh.specs.declared.solid.Solid.{Solid}
use Rattle.span_count.specs.CountSpans.{AreCountSpans}
use Rattle.span_count.specs.declared.span.EdgeSpans.{EdgeSpans}

-- one entry for each drawn edge of the plain view along this direction, in order, and each has spans with the right counts
pub record AreCountsAlong (d : Triple) (fraction : ℕ) (solid : Solid) (entries : List EdgeSpans) : Type 0 where
  pub edges : AreDrawnEdges d fraction (solid_part solid) (edge_halves solid) (map (λ x. x.edge) entries)
  pub spans : All (λ x. OfEdge solid x.edge (λ e. AreCountSpans d e x.spans.items)) entries

-- the same of the view of a cut, where the spans are over what is beyond the plane
pub record AreCountsBeyond (c : Plane) (fraction : ℕ) (solid : Solid) (entries : List EdgeSpans) : Type 0 where
  pub edges : AreDrawnEdges (toward_of c) fraction (solid_part solid) (edge_halves solid) (map (λ x. x.edge) entries)
  pub spans : All (λ x. OfEdge solid x.edge (λ e. AreCutCountSpans c e x.spans.items)) entries
