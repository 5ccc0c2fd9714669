use Rattle.std.proofs.Common.{◌≡◌, ℕ, ◌+◌, length, subst, arith}
use Rattle.solid_mesh.specs.Solids.{solid_part}
use Rattle.solid_mesh.specs.Stars.{lists_of}
use Rattle.integers.proofs.Lists.{some_element}
use Rattle.out_grid.specs.inner.Triangles.{AreFilled}
use Rattle.out_grid.proofs.BoxSizes.{sizes_more, sizes_front, sizes_all}
use Rattle.out_grid.proofs.Filled.{filled_none}
use Rattle.out_grid.proofs.boxes.put_triangles.Goals as goal

pub loop-tri-init : goal.loop-tri-init
loop-tri-init c = record {
  long = c.requires.long;
  filled = filled_none c.args.columns c.args.corner_cells.now (solid_part c.args.solid.now).triangles (lists_of c.args.cells.now.items) c.requires.empty;
  counted = omega arith;
  each = omega arith;
}

pub put_triangle-requires-clause-room : goal.put_triangle-requires-clause-room
put_triangle-requires-clause-room c =
    let triangles = (solid_part c.args.solid.now).triangles in
    omega (arith, c.loop-tri.invariant.counted, c.requires.room, sizes_front c.args.columns c.args.corner_cells.now triangles c.loop-tri.tri, c.loop-tri-test.true, c.loop-tri.auto.tri-end, c.triangles-tri-end.ensures.count)

pub returns-in_err-put_triangle-clause-counted : goal.returns-in_err-put_triangle-clause-counted
returns-in_err-put_triangle-clause-counted c =
    let n = c.args.columns in
    let cells = c.args.corner_cells.now in
    let triangles = (solid_part c.args.solid.now).triangles in
    let k = c.loop-tri.tri in
    let (t, at) = some_element triangles k (omega (arith, c.loop-tri-test.true, c.loop-tri.auto.tri-end, c.triangles-tri-end.ensures.count)) in
    omega (arith, c.loop-tri.invariant.counted, c.put_triangle.ensures.counted t at, sizes_more n cells triangles k t at, sizes_front n cells triangles (k + 1), c.loop-tri-test.true, c.loop-tri.auto.tri-end, c.triangles-tri-end.ensures.count)

pub loop-tri-preserved : goal.loop-tri-preserved
loop-tri-preserved c =
    let n = c.args.columns in
    let cells = c.args.corner_cells.now in
    let triangles = (solid_part c.args.solid.now).triangles in
    let k = c.loop-tri.tri in
    let h = c.loop-tri.invariant in
    let (t, at) = some_element triangles k (omega (arith, c.loop-tri-test.true, c.loop-tri.auto.tri-end, c.triangles-tri-end.ensures.count)) in
    record {
      long = c.put_triangle.ensures.long;
      filled = c.in_ok-put_triangle.ensures.filled;
      counted = omega (arith, h.counted, c.put_triangle.ensures.counted t at, sizes_more n cells triangles k t at);
      each = omega (arith, h.each, c.in_ok-put_triangle.ensures.counted_each);
    }

pub returns-clause-filled : goal.returns-clause-filled
returns-clause-filled c =
    let part = solid_part c.args.solid.now in
    let all : c.loop-tri.tri ≡ length part.triangles = omega (arith, c.loop-tri-test.false, c.loop-tri.auto.tri-end, c.triangles-tri-end.ensures.count) in
    subst (λ (n : ℕ). AreFilled c.args.columns c.args.corner_cells.now part.triangles n (lists_of c.loop-tri.cells.items)) all c.loop-tri.invariant.filled

pub returns-clause-counted : goal.returns-clause-counted
returns-clause-counted c =
    let triangles = (solid_part c.args.solid.now).triangles in
    let all : c.loop-tri.tri ≡ length triangles = omega (arith, c.loop-tri-test.false, c.loop-tri.auto.tri-end, c.triangles-tri-end.ensures.count) in
    omega (arith, c.loop-tri.invariant.counted, sizes_all c.args.columns c.args.corner_cells.now triangles c.loop-tri.tri all, all)

pub returns-clause-counted_each : goal.returns-clause-counted_each
returns-clause-counted_each c = omega (arith, c.loop-tri.invariant.each, c.loop-tri-test.false, c.loop-tri.auto.tri-end, c.triangles-tri-end.ensures.count)
