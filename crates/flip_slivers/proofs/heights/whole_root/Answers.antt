use Rattle.std.proofs.Math.Nat.{div-lt_iff_lt-mul}
use Rattle.flip_slivers.proofs.heights.whole_root.Goals as goal

pub returns-clause-greatest : goal.returns-clause-greatest
returns-clause-greatest c = (div-lt_iff_lt-mul c.requires.positive).0 c.isqrt.ensures.greatest
