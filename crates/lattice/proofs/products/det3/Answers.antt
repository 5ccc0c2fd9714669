use Rattle.std.proofs.Common.{arith, ◌^◌}
use Rattle.std.specs.Int.{w128}
use Rattle.std.proofs.lemmas.Int.{ints}
use Rattle.integers.proofs.Worth.{pass, via, below_of}
use Rattle.lattice.proofs.VectorSizes.{dot_reads, of_fields}
use Rattle.lattice.proofs.products.det3.Goals as goal

pub returns-clause-size : goal.returns-clause-size
returns-clause-size c =
    below_of (2 ^ 66) (pass w128 (via c.weighted.ensures.value (dot_reads (2 ^ 21) (2 ^ 43) _ _ (of_fields c.args.r.now)
    (record {
      x = omega (arith, ints, c.cross-normal.result.x_in_range);
      y = omega (arith, ints, c.cross-normal.result.y_in_range);
      z = omega (arith, ints, c.cross-normal.result.z_in_range);
    }))) tt) tt
