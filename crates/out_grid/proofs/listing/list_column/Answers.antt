use Rattle.std.proofs.Common.{ℕ, ◌+◌, ◌*◌, ◌<◌, All, length, refl, sym, subst, ◌∙◌, arith}
use Rattle.solid_mesh.specs.Stars.{lists_of}
use Rattle.out_grid.proofs.CellPuts.{cell_below}
use Rattle.out_grid.proofs.Gathering.{list_is, list_holds, rows_none, rows_more, rows_all}
use Rattle.out_grid.proofs.listing.list_column.Goals as goal

pub loop-row-init : goal.loop-row-init
loop-row-init c = record {
  stamps_long = refl;
  stamped = c.requires.stamped;
  right = rows_none c.args.columns (lists_of c.args.cells.now) c.args.column c.args.rows.low c.args.list.now.items;
  counted = refl;
}

pub overflow_add-meter : goal.overflow_add-meter
overflow_add-meter c = omega (arith, c.loop-row.invariant.counted, c.requires.room, c.loop-row-test.true, c.loop-row.auto.row, c.args.rows.in_order)

pub add_new-requires-clause-in_range : goal.add_new-requires-clause-in_range
add_new-requires-clause-in_range c =
    let cells = c.args.cells.now in
    let i = (c.args.column * c.args.columns) + c.loop-row.row in
    let within : i < length cells = subst (λ (m : ℕ). i < m) (sym c.requires.long) (cell_below c.args.columns c.args.column c.loop-row.row c.requires.column (omega arith)) in
    let is = list_is cells i within c.index-cells-column.result c.deref.result.now c.index-cells-column.is c.deref.ensures.value in
    list_holds cells i within (λ k. k < length c.loop-row.stamps.items) c.deref.result.now is
    (subst (λ (m : ℕ). All (All (λ k. k < m)) (lists_of cells)) (sym c.loop-row.invariant.stamps_long) c.requires.in_range)

pub loop-row-preserved : goal.loop-row-preserved
loop-row-preserved c =
    let cells = c.args.cells.now in
    let i = (c.args.column * c.args.columns) + c.loop-row.row in
    let within : i < length cells = subst (λ (m : ℕ). i < m) (sym c.requires.long) (cell_below c.args.columns c.args.column c.loop-row.row c.requires.column (omega arith)) in
    let is = list_is cells i within c.index-cells-column.result c.deref.result.now c.index-cells-column.is c.deref.ensures.value in
    record {
      stamps_long = c.add_new.ensures.stamps_long ∙ c.loop-row.invariant.stamps_long;
      stamped = c.in_ok-add_new.ensures.stamped;
      right = rows_more c.args.columns (lists_of cells) c.args.column c.args.rows.low c.loop-row.row c.deref.result.now c.args.list.now.items c.loop-row.list.items c.add_new.new.list.items
          c.loop-row.auto.row is c.loop-row.invariant.right c.in_ok-add_new.ensures.right;
      counted = omega (arith, c.loop-row.invariant.counted);
    }

pub returns-clause-right : goal.returns-clause-right
returns-clause-right c = rows_all c.args.columns (lists_of c.args.cells.now) c.args.column c.args.rows.low c.args.rows.high c.loop-row.row c.args.list.now.items c.loop-row.list.items
    (omega arith) c.loop-row.invariant.right

pub returns-clause-counted_each : goal.returns-clause-counted_each
returns-clause-counted_each c = omega (arith, c.loop-row.invariant.counted, c.loop-row-test.false, c.loop-row.auto.row-end, c.args.rows.in_order)
