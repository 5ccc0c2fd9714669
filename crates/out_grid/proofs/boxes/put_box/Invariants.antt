use Rattle.std.proofs.Common.{◌≡◌, ◌+◌, ◌-◌, ◌*◌, ◌<◌, ◌≤◌, vec_len}
use Rattle.solid_mesh.specs.Stars.{lists_of}
use Rattle.out_grid.specs.inner.Lists.{IsPut}
use Rattle.out_grid.proofs.boxes.put_box.Given as goal

-- the columns so far
abbrev pub invariant-loop-column : goal.invariant-loop-column
invariant-loop-column l = record {
  long : vec_len l.cells ≡ l.columns * l.columns;
  from : l.cell_box.first ≤ l.column;
  put : IsPut (λ x y. (l.cell_box.first ≤ x) × (x < l.column) × (l.cell_box.rows.low ≤ y) × (y ≤ l.cell_box.rows.high)) l.columns l.tri (lists_of l.fn.cells.items) (lists_of l.cells.items);
  counted : l.meter.cells ≡ l.fn.meter.cells + (l.column - l.cell_box.first) * ((l.cell_box.rows.high - l.cell_box.rows.low) + 1);
}
