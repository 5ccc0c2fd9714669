use Rattle.std.proofs.Common.{◌≡◌, ◌+◌, ◌*◌, ◌<◌, ◌≤◌, vec_len}
use Rattle.solid_mesh.specs.Stars.{lists_of}
use Rattle.out_grid.specs.inner.Lists.{IsPut}
use Rattle.out_grid.proofs.putting.put_column.Given as goal

-- the rows so far
abbrev pub invariant-loop-row : goal.invariant-loop-row
invariant-loop-row l = record {
  long : vec_len l.cells ≡ l.columns * l.columns;
  from : l.fn.rows.low ≤ l.row;
  put : IsPut (λ x y. (x ≡ l.column) × (l.fn.rows.low ≤ y) × (y < l.row)) l.columns l.outline (lists_of l.fn.cells.items) (lists_of l.cells.items);
  on : l.fn.meter.cells ≤ l.meter.cells;
  counted : l.meter.cells + l.fn.rows.low ≡ l.fn.meter.cells + l.row;
}
