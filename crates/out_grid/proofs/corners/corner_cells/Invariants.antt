use Rattle.std.proofs.Common.{◌≡◌, ℕ, ◌*◌, ◌<◌, All, Some, length, slice_get}
use Rattle.lattice.specs.declared.points.Corner.{Corner}
use Rattle.lattice.specs.Points.{of_dir}
use Rattle.solid_mesh.specs.Solids.{solid_part}
use Rattle.out_grid.specs.inner.Places.{raster_of, IsCellOf}
use Rattle.out_grid.proofs.corners.corner_cells.Given as goal

abbrev pub invariant-loop-corner : goal.invariant-loop-corner
invariant-loop-corner l = record {
  long : length l.cells.items ≡ l.corner;
  within : All (λ cell. cell < l.columns * l.columns) l.cells.items;
  right : (number cell : ℕ) (c : Corner) → slice_get l.cells.items number ≡ Some cell → slice_get (solid_part l.solid).corners number ≡ Some c →
      IsCellOf (of_dir l.d) (raster_of l.raster) l.columns c cell;
}
