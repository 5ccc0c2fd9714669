use Rattle.std.proofs.Common.{◌≡◌, ◌⊎◌, inl, inr, ℕ, ◌+◌, ◌-◌, ◌<◌, ◌≤◌, arith}
use Rattle.std.proofs.lemmas.Bool.{cases_lt}
use Rattle.solid_mesh.specs.Stars.{lists_of}
use Rattle.out_grid.proofs.BoxSizes.{product_some, columns_none, columns_more, columns_within, columns_all}
use Rattle.out_grid.proofs.CellPuts.{put_none, put_more, put_same}
use Rattle.out_grid.proofs.boxes.put_box.Goals as goal

-- one column more
split : (first column low high x y : ℕ) → first ≤ column → (first ≤ x) × (x < column + 1) × (low ≤ y) × (y ≤ high) → ((first ≤ x) × (x < column) × (low ≤ y) × (y ≤ high)) ⊎ ((x ≡ column) × (low ≤ y) × (y ≤ high))
split first column low high x y from h = by (cases_lt x column)
  where
    by : (x < column) ⊎ (column ≤ x) → ((first ≤ x) × (x < column) × (low ≤ y) × (y ≤ high)) ⊎ ((x ≡ column) × (low ≤ y) × (y ≤ high))
    by (inl l) = inl (h.0, l, h.2, h.3)
    by (inr l) = inr (omega (arith, h.1, l), h.2, h.3)

pub loop-column-init : goal.loop-column-init
loop-column-init c =
    let b = c.args.cell_box.now in
    record {
      long = c.requires.long;
      from = omega arith;
      put = put_none (λ x y. (b.first ≤ x) × (x < b.first) × (b.rows.low ≤ y) × (y ≤ b.rows.high)) c.args.columns c.args.tri (lists_of c.args.cells.now.items) (λ x y h. omega (arith, h.0, h.1));
      counted = omega (arith, columns_none b.first ((b.rows.high - b.rows.low) + 1));
    }

pub put_column-requires-clause-room : goal.put_column-requires-clause-room
put_column-requires-clause-room c =
    let b = c.args.cell_box.now in
    let within = columns_within b.first c.loop-column.column b.last ((b.rows.high - b.rows.low) + 1) (omega (arith, c.loop-column-test.true)) in
    omega (arith, within, c.loop-column.invariant.counted, c.requires.room)

pub returns-in_err-put_column-clause-counted : goal.returns-in_err-put_column-clause-counted
returns-in_err-put_column-clause-counted c =
    let b = c.args.cell_box.now in
    let within = columns_within b.first c.loop-column.column b.last ((b.rows.high - b.rows.low) + 1) (omega (arith, c.loop-column-test.true)) in
    omega (arith, within, c.loop-column.invariant.counted, c.put_column.ensures.counted)

pub loop-column-preserved : goal.loop-column-preserved
loop-column-preserved c =
    let b = c.args.cell_box.now in
    let column = c.loop-column.column in
    let h = c.loop-column.invariant in
    record {
      long = c.put_column.ensures.long;
      from = omega (arith, h.from);
      put = put_more (λ x y. (b.first ≤ x) × (x < column) × (b.rows.low ≤ y) × (y ≤ b.rows.high)) (λ x y. (x ≡ column) × (b.rows.low ≤ y) × (y ≤ b.rows.high))
          (λ x y. (b.first ≤ x) × (x < column + 1) × (b.rows.low ≤ y) × (y ≤ b.rows.high)) c.args.columns c.args.tri
          (lists_of c.args.cells.now.items) (lists_of c.loop-column.cells.items) (lists_of c.put_column.new.cells.items) h.put c.in_ok-put_column.ensures.put
          (λ x y p q. omega (arith, p.1, q.0)) (λ x y p. (p.0, omega (arith, p.1), p.2, p.3)) (λ x y q. (omega (arith, h.from, q.0), omega (arith, q.0), q.1, q.2)) (λ x y r. split b.first column b.rows.low b.rows.high x y h.from r);
      counted = omega (arith, h.counted, c.put_column.ensures.counted, c.in_ok-put_column.ensures.counted_each, columns_more b.first column ((b.rows.high - b.rows.low) + 1) h.from);
    }

pub returns-clause-put : goal.returns-clause-put
returns-clause-put c =
    let b = c.args.cell_box.now in
    let end : c.loop-column.column ≡ b.last + 1 = omega (arith, c.loop-column-test.false, c.loop-column.auto.column-end, b.in_order) in
    put_same (λ x y. (b.first ≤ x) × (x < c.loop-column.column) × (b.rows.low ≤ y) × (y ≤ b.rows.high)) (λ x y. (b.first ≤ x) × (x ≤ b.last) × (b.rows.low ≤ y) × (y ≤ b.rows.high))
    c.args.columns c.args.tri (lists_of c.args.cells.now.items) (lists_of c.loop-column.cells.items) c.loop-column.invariant.put
    (λ x y p. (p.0, omega (arith, p.1, end), p.2, p.3)) (λ x y p. (p.0, omega (arith, p.1, end), p.2, p.3))

pub returns-clause-counted : goal.returns-clause-counted
returns-clause-counted c =
    let b = c.args.cell_box.now in
    let end : c.loop-column.column ≡ b.last + 1 = omega (arith, c.loop-column-test.false, c.loop-column.auto.column-end, b.in_order) in
    omega (arith, c.loop-column.invariant.counted, columns_all b.first c.loop-column.column b.last ((b.rows.high - b.rows.low) + 1) b.in_order end)

pub returns-clause-counted_some : goal.returns-clause-counted_some
returns-clause-counted_some c =
    let b = c.args.cell_box.now in
    let end : c.loop-column.column ≡ b.last + 1 = omega (arith, c.loop-column-test.false, c.loop-column.auto.column-end, b.in_order) in
    omega (
      arith,
      c.loop-column.invariant.counted,
      columns_all b.first c.loop-column.column b.last ((b.rows.high - b.rows.low) + 1) b.in_order end,
      product_some (b.last - b.first) (b.rows.high - b.rows.low),
    )
