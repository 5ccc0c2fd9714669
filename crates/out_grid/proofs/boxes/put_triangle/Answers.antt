use Rattle.std.proofs.Common.{ℕ, ◌+◌, ◌-◌, ◌*◌, ◌<◌, ◌≤◌, Result, Ok, Err, OnOk, arith}
use Rattle.solid_mesh.specs.Solids.{solid_part}
use Rattle.solid_mesh.specs.Stars.{lists_of}
use Rattle.out_grid.proofs.BoxSizes.{box_small}
use Rattle.out_grid.proofs.Filled.{filled_more}
use Rattle.out_grid.proofs.boxes.put_triangle.Goals as goal

on_ok : {T E P Q : Type 0} (r : Result T E) → (P → Q) → OnOk r P → OnOk r Q
on_ok (Ok x) f p = f p
on_ok (Err e) f p = tt

-- the box of a triangle is within the columns and the rows
small : (first last low high n : ℕ) → last < n → high < n → n ≤ 256 → ((last - first) + 1) * ((high - low) + 1) ≤ 65536
small first last low high n h k few = box_small (last - first) (high - low) (omega (arith, h, few)) (omega (arith, k, few))

pub put_box-done-requires-clause-room : goal.put_box-done-requires-clause-room
put_box-done-requires-clause-room c =
    let b = c.box_of-cell_box.result in
    let few = small b.first b.last b.rows.low b.rows.high c.args.columns c.box_of-cell_box.ensures.last c.box_of-cell_box.ensures.high c.requires.few in omega (arith, few)

pub overflow_add-meter : goal.overflow_add-meter
overflow_add-meter c =
    let b = c.box_of-cell_box.result in
    let few = small b.first b.last b.rows.low b.rows.high c.args.columns c.box_of-cell_box.ensures.last c.box_of-cell_box.ensures.high c.requires.few in
    omega (arith, few, c.put_box-done.ensures.counted)

pub overflow_add-meter-2 : goal.overflow_add-meter-2
overflow_add-meter-2 c =
    let b = c.box_of-cell_box.result in
    let few = small b.first b.last b.rows.low b.rows.high c.args.columns c.box_of-cell_box.ensures.last c.box_of-cell_box.ensures.high c.requires.few in
    omega (arith, few, c.put_box-done.ensures.counted, c.requires.room)

pub returns-clause-filled : goal.returns-clause-filled
returns-clause-filled c =
    let b = c.box_of-cell_box.result in
    on_ok c.put_box-done.result
    (λ put. filled_more c.args.columns c.args.corner_cells.now (solid_part c.args.solid.now).triangles c.args.tri (λ x y. (b.first ≤ x) × (x ≤ b.last) × (b.rows.low ≤ y) × (y ≤ b.rows.high))
    (lists_of c.args.cells.now.items) (lists_of c.put_box-done.new.cells.items) c.requires.filled put (λ t column row at inside. c.box_of-cell_box.ensures.holds t column row at inside)) c.put_box-done.ensures.put

pub returns-clause-counted : goal.returns-clause-counted
returns-clause-counted c t at = omega (arith, c.box_of-cell_box.ensures.size t at, c.put_box-done.ensures.counted)

pub returns-clause-counted_each : goal.returns-clause-counted_each
returns-clause-counted_each c = on_ok c.put_box-done.result (λ some. omega (arith, some)) c.put_box-done.ensures.counted_some
