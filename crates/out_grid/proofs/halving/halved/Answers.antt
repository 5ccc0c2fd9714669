use Rattle.std.proofs.Common.{◌+◌, get_or, take, sym, subst, arith}
use Rattle.std.specs.List.{AllZip}
use Rattle.std.proofs.lemmas.List.Elements.{all_zip_more}
use Rattle.std.proofs.lemmas.Option.{slice_get-get_or, get_or_from_slice_get}
use Rattle.out_grid.specs.inner.Triangles.{IsHalfOf}
use Rattle.out_grid.proofs.halving.halved.Goals as goal

pub loop-cell-preserved : goal.loop-cell-preserved
loop-cell-preserved c =
    let R = IsHalfOf c.args.columns in
    let xs = c.args.cells.now in
    let i = c.loop-cell.cell-index in
    let x = get_or xs i 0 in
    let here = sym (get_or_from_slice_get xs i x x (slice_get-get_or xs i 0 c.loop-cell-test.true)) in
    record {
      halved = subst (AllZip R (take (i + 1) xs)) (sym c.in_ok-push.ensures.items) (all_zip_more R xs c.loop-cell.fewer.items i x c.half_cell.result c.loop-cell-test.true here c.loop-cell.invariant.halved c.half_cell.ensures);
      counted = omega (arith, c.loop-cell.invariant.counted);
    }
