use Rattle.std.proofs.Common.{◌≡◌, ◌+◌, take}
use Rattle.std.specs.List.{AllZip}
use Rattle.out_grid.specs.inner.Triangles.{IsHalfOf}
use Rattle.out_grid.proofs.halving.halved.Given as goal

-- those of the cells so far
abbrev pub invariant-loop-cell : goal.invariant-loop-cell
invariant-loop-cell l = record {
  halved : AllZip (IsHalfOf l.columns) (take l.cell-index l.cells) l.fewer.items;
  counted : l.meter.steps ≡ l.fn.meter.steps + l.cell-index;
}
