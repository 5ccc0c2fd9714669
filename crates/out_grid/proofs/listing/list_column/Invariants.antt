use Rattle.std.proofs.Common.{◌≡◌, ◌+◌, ◌<◌, ◌≤◌, length}
use Rattle.solid_mesh.specs.Stars.{lists_of}
use Rattle.out_grid.specs.inner.Lists.{IsStamped, IsGrown, IsInSome}
use Rattle.out_grid.proofs.listing.list_column.Given as goal

abbrev pub invariant-loop-row : goal.invariant-loop-row
invariant-loop-row l = record {
  stamps_long : length l.stamps.items ≡ length l.initial.stamps.items;
  stamped : IsStamped l.stamp l.stamps.items l.list.items;
  right : IsGrown (IsInSome (λ c r. (c ≡ l.column) × (l.fn.rows.low ≤ r) × (r < l.row)) l.columns (lists_of l.cells)) l.initial.list.items l.list.items;
  counted : l.meter.cells + l.fn.rows.low ≡ l.initial.meter.cells + l.row;
}
