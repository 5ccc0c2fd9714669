use Rattle.std.proofs.Common.{◌≤◌, ◌*◌, take}
use Rattle.lattice.specs.Points.{of_dir}
use Rattle.solid_mesh.specs.Solids.{solid_part, edge_halves}
use Rattle.out_grid.specs.inner.Places.{raster_of}
use Rattle.out_grid.proofs.SpanSums.{IsSumOfSpans}
use Rattle.out_grid.proofs.bounds.spans_of.Given as goal

-- the spans of the edges so far
abbrev pub invariant-loop-edge : goal.invariant-loop-edge
invariant-loop-edge l = record {
  counted : IsSumOfSpans (of_dir l.d) (raster_of l.raster) (solid_part l.solid) (edge_halves l.solid) (take l.edge-index l.edges) l.sum;
  small : l.sum ≤ 512 * l.edge-index;
}
