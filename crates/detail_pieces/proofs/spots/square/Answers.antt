use Rattle.std.specs.Int.{w128}
use Rattle.lattice.specs.Points.{of_vector}
use Rattle.lattice.proofs.VectorSizes.{dot_reads}
use Rattle.integers.proofs.Worth.{via, pass, size_of}
use Rattle.detail_pieces.proofs.spots.square.Goals as goal

pub returns-clause-size : goal.returns-clause-size
returns-clause-size c = size_of 78732 (pass w128 (via c.dot.ensures.value (dot_reads 162 162 (of_vector c.args.axis.now) (of_vector c.args.axis.now) c.requires c.requires)) tt) tt

pub returns-clause-small : goal.returns-clause-small
returns-clause-small c small = size_of 243 (pass w128 (via c.dot.ensures.value (dot_reads 9 9 (of_vector c.args.axis.now) (of_vector c.args.axis.now) small small)) tt) tt
