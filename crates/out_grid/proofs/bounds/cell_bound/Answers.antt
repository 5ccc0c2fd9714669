use Rattle.std.proofs.Common.{ℕ, length, ap, arith}
use Rattle.edge_pick.proofs.PickedSizes.{few_drawn, few_outlines}
use Rattle.lattice.specs.Points.{of_dir}
use Rattle.out_grid.proofs.bounds.cell_bound.Goals as goal

pub spans_of-requires-clause-few_edges : goal.spans_of-requires-clause-few_edges
spans_of-requires-clause-few_edges c =
    let long = ap (length {A = ℕ}) c.deref.ensures.value in
    omega (arith, long, few_outlines c.args.solid.now c.args.picked.now (of_dir c.args.d.now, (c.requires.picked).0, (c.requires.picked).1))

pub spans_of-requires-2-clause-few_edges : goal.spans_of-requires-2-clause-few_edges
spans_of-requires-2-clause-few_edges c =
    let long = ap (length {A = ℕ}) c.deref-2.ensures.value in
    omega (arith, long, few_drawn c.args.solid.now c.args.picked.now (of_dir c.args.d.now, (c.requires.picked).0, (c.requires.picked).1))
