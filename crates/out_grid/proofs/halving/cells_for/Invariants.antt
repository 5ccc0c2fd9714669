use Rattle.std.proofs.Common.{◌≤◌, ◌+◌, ◌*◌, length}
use Rattle.lattice.specs.Points.{of_dir}
use Rattle.solid_mesh.specs.Solids.{solid_part}
use Rattle.out_grid.specs.inner.Triangles.{AreCellsOf}
use Rattle.out_grid.proofs.BoxSizes.{AreLeft}
use Rattle.out_grid.proofs.halving.cells_for.Given as goal

abbrev pub invariant-loop-columns : goal.invariant-loop-columns
invariant-loop-columns l = record {
  some : 1 ≤ l.columns;
  few : l.columns ≤ 256;
  cells : AreCellsOf (of_dir l.d) (solid_part l.solid) l.columns l.cells.items;
  square : l.columns * l.columns ≤ length (solid_part l.solid).triangles;
  left : AreLeft l.columns l.meter.steps (l.fn.meter.steps + length (solid_part l.solid).corners) (length (solid_part l.solid).corners + length (solid_part l.solid).triangles);
  each : l.fn.meter.steps + length (solid_part l.solid).corners ≤ l.meter.steps;
}

abbrev pub decreases-loop-columns : goal.decreases-loop-columns
decreases-loop-columns l = l.columns
