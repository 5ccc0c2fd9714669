use Rattle.std.proofs.Common.{◌^◌}
use Rattle.std.specs.Int.{w128}
use Rattle.integers.proofs.Worth.{pass, via, below_of}
use Rattle.lattice.proofs.VectorSizes.{det_reads, of_fields}
use Rattle.lattice.proofs.products.view_cross.Goals as goal

pub returns-clause-size : goal.returns-clause-size
returns-clause-size c =
    below_of (2 ^ 48) (pass w128 (via c.det3.ensures.value (det_reads 9 (2 ^ 21) _ _ _ c.vector.ensures.size (of_fields c.args.s.now) (of_fields c.args.t.now))) tt) tt
