use Rattle.std.proofs.Common.{◌≡◌, ℕ, ◌+◌, ◌*◌, ◌≤◌, List, take, sum, vec_len}
use Rattle.std.specs.List.{AllZip}
use Rattle.lattice.specs.Points.{of_dir}
use Rattle.solid_mesh.specs.Solids.{solid_part, edge_halves}
use Rattle.solid_mesh.specs.Stars.{lists_of}
use Rattle.out_grid.specs.Bounds.{IsSpanAt}
use Rattle.out_grid.specs.inner.Lists.{AreHeld}
use Rattle.out_grid.specs.inner.Places.{raster_of}
use Rattle.out_grid.proofs.putting.put_outlines.Given as goal

-- the outlines so far
abbrev pub invariant-loop-outline : goal.invariant-loop-outline
invariant-loop-outline l = record {
  long : vec_len l.cells ≡ l.columns * l.columns;
  held : AreHeld (of_dir l.d) (raster_of l.raster) (solid_part l.solid) (edge_halves l.solid) (take l.outline-index l.outlines) l.columns (lists_of l.cells.items);
  on : l.fn.meter.cells ≤ l.meter.cells;
  counted : (spans : List ℕ) → AllZip (IsSpanAt (of_dir l.d) (raster_of l.raster) (solid_part l.solid) (edge_halves l.solid)) l.outlines spans → l.meter.cells ≤ l.fn.meter.cells + sum (take l.outline-index spans);
  size : l.meter.cells ≤ l.fn.meter.cells + 512 * l.outline-index;
  each : l.fn.meter.cells + l.outline-index ≤ l.meter.cells;
}
