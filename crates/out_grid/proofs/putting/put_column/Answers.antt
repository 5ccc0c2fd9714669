use Rattle.std.proofs.Common.{◌≡◌, ◌⊎◌, inl, inr, ℕ, ◌+◌, ◌*◌, ◌<◌, ◌≤◌, length, arith}
use Rattle.std.proofs.lemmas.Bool.{cases_lt}
use Rattle.std.proofs.lemmas.List.{length-map}
use Rattle.solid_mesh.specs.Stars.{lists_of}
use Rattle.out_grid.proofs.CellPuts.{put_none, put_one, put_more, put_same}
use Rattle.out_grid.proofs.putting.put_column.Goals as goal

-- one row more
split : (column low row x y : ℕ) → low ≤ row → (x ≡ column) × (low ≤ y) × (y < row + 1) → ((x ≡ column) × (low ≤ y) × (y < row)) ⊎ ((x ≡ column) × (y ≡ row))
split column low row x y from h = by (cases_lt y row)
  where
    by : (y < row) ⊎ (row ≤ y) → ((x ≡ column) × (low ≤ y) × (y < row)) ⊎ ((x ≡ column) × (y ≡ row))
    by (inl l) = inl (h.0, h.1, l)
    by (inr l) = inr (h.0, omega (arith, h.2))

pub loop-row-init : goal.loop-row-init
loop-row-init c = record {
  long = c.requires.long;
  from = omega arith;
  put = put_none (λ x y. (x ≡ c.args.column) × (c.args.rows.low ≤ y) × (y < c.args.rows.low)) c.args.columns c.args.outline (lists_of c.args.cells.now.items) (λ x y h. omega (arith, h.1, h.2));
  on = omega arith;
  counted = omega arith;
}

pub put_in-requires-clause-room : goal.put_in-requires-clause-room
put_in-requires-clause-room c = omega (arith, c.requires.room, c.loop-row.invariant.counted, c.loop-row.invariant.from, c.loop-row-test.true)

pub returns-in_err-put_in-clause-counted_on : goal.returns-in_err-put_in-clause-counted_on
returns-in_err-put_in-clause-counted_on c = omega (arith, c.loop-row.invariant.on, c.put_in.ensures.counted)

pub returns-in_err-put_in-clause-counted : goal.returns-in_err-put_in-clause-counted
returns-in_err-put_in-clause-counted c = omega (arith, c.loop-row.invariant.counted, c.put_in.ensures.counted, c.loop-row.invariant.from, c.loop-row-test.true)

pub loop-row-preserved : goal.loop-row-preserved
loop-row-preserved c =
    let n = c.args.columns in
    let o = c.args.outline in
    let low = c.args.rows.low in
    let column = c.args.column in
    let row = c.loop-row.row in
    let h = c.loop-row.invariant in
    let old = c.loop-row.cells.items in
    let long : length (lists_of old) ≡ n * n = omega (arith, length-map old (λ star. star.items), c.loop-row.cells.ok.0, h.long) in
    let one = put_one n o column row (lists_of old) (lists_of c.put_in.new.cells.items) c.requires.column (omega (arith, c.requires.rows, c.loop-row-test.true)) long c.in_ok-put_in.ensures.put in
    record {
      long = omega (arith, c.put_in.ensures.long, h.long);
      from = omega (arith, h.from);
      put = put_more (λ x y. (x ≡ column) × (low ≤ y) × (y < row)) (λ x y. (x ≡ column) × (y ≡ row)) (λ x y. (x ≡ column) × (low ≤ y) × (y < row + 1)) n o
          (lists_of c.args.cells.now.items) (lists_of old) (lists_of c.put_in.new.cells.items) h.put one (λ x y p q. omega (arith, p.2, q.1))
          (λ x y p. (p.0, p.1, omega (arith, p.2))) (λ x y q. (q.0, omega (arith, h.from, q.1), omega (arith, q.1))) (λ x y r. split column low row x y h.from r);
      on = omega (arith, h.on, c.put_in.ensures.counted);
      counted = omega (arith, h.counted, c.put_in.ensures.counted);
    }

pub returns-clause-put : goal.returns-clause-put
returns-clause-put c =
    let end : c.loop-row.row ≡ c.args.rows.high + 1 = omega (arith, c.loop-row-test.false, c.loop-row.auto.row-end, c.args.rows.in_order) in
    put_same (λ x y. (x ≡ c.args.column) × (c.args.rows.low ≤ y) × (y < c.loop-row.row)) (λ x y. (x ≡ c.args.column) × (c.args.rows.low ≤ y) × (y ≤ c.args.rows.high))
    c.args.columns c.args.outline (lists_of c.args.cells.now.items) (lists_of c.loop-row.cells.items) c.loop-row.invariant.put
    (λ x y p. (p.0, p.1, omega (arith, p.2, end))) (λ x y p. (p.0, p.1, omega (arith, p.2, end)))

pub returns-clause-counted_on : goal.returns-clause-counted_on
returns-clause-counted_on c = c.loop-row.invariant.on

pub returns-clause-counted : goal.returns-clause-counted
returns-clause-counted c = omega (arith, c.loop-row.invariant.counted, c.loop-row-test.false, c.loop-row.auto.row-end, c.args.rows.in_order)

pub returns-clause-counted_each : goal.returns-clause-counted_each
returns-clause-counted_each c = omega (arith, c.loop-row.invariant.counted, c.loop-row-test.false, c.loop-row.auto.row-end, c.args.rows.in_order)
