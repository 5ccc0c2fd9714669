use Rattle.std.proofs.Common.{◌≡◌, ◌+◌, ◌*◌, ◌≤◌, take, vec_len}
use Rattle.solid_mesh.specs.Solids.{solid_part}
use Rattle.solid_mesh.specs.Stars.{lists_of}
use Rattle.out_grid.specs.inner.Triangles.{AreFilled, box_sizes}
use Rattle.out_grid.proofs.boxes.put_triangles.Given as goal

-- the triangles so far
abbrev pub invariant-loop-tri : goal.invariant-loop-tri
invariant-loop-tri l = record {
  long : vec_len l.cells ≡ l.columns * l.columns;
  filled : AreFilled l.columns l.corner_cells (solid_part l.solid).triangles l.tri (lists_of l.cells.items);
  counted : l.meter.steps ≤ l.fn.meter.steps + (l.tri + box_sizes l.columns l.corner_cells (take l.tri (solid_part l.solid).triangles));
  each : l.fn.meter.steps + 2 * l.tri ≤ l.meter.steps;
}
