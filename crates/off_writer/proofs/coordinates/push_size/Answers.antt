use Rattle.std.proofs.Common.{arith, lit<}
use Rattle.std.proofs.Math.Nat.{one-le-pow}
use Rattle.off_writer.proofs.coordinates.push_size.Goals as goal

pub nonzero_div-whole : goal.nonzero_div-whole
nonzero_div-whole c = omega (arith, one-le-pow c.from.result 10 (lit< tt), c.pow.ensures)
