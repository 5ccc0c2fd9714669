use Rattle.std.proofs.Common.{ℕ, List, length, ap, arith}
use Rattle.test_parts.proofs.grids.is_put.Goals as goal

pub cell-requires-clause-room : goal.cell-requires-clause-room
cell-requires-clause-room c =
    let b = c.new.ensures.counted c.cell_bound-most.result c.cell_bound-most.ensures.bound in
    omega (arith, b, c.cell_bound-most.ensures.size)

pub put-requires-clause-not_there : goal.put-requires-clause-not_there
put-requires-clause-not_there c (k, within, is) =
    let same = ap (λ (xs : List ℕ). length xs) c.cell.ensures.listed in
    omega (arith, within, same, c.if-cell-ne0.false)
