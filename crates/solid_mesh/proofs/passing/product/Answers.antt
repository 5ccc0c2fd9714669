use Rattle.std.proofs.Common.{◌^◌}
use Rattle.std.specs.Int.{w64}
use Rattle.integers.proofs.Worth.{fits, pass, size_of}
use Rattle.solid_mesh.proofs.PassingLemmas.{product_read}
use Rattle.solid_mesh.proofs.passing.product.Goals as goal

pub overflow_mul-result : goal.overflow_mul-result
overflow_mul-result c =
    fits w64 (product_read c.args.factor c.args.n c.args.origin c.from.ensures c.from-2.ensures c.from-3.ensures c.ranges.factor c.ranges.n c.ranges.origin c.requires.factor c.requires.origin) tt

pub returns-clause-value : goal.returns-clause-value
returns-clause-value c =
    (pass w64 (product_read c.args.factor c.args.n c.args.origin c.from.ensures c.from-2.ensures c.from-3.ensures c.ranges.factor c.ranges.n c.ranges.origin c.requires.factor c.requires.origin) tt).is

pub returns-clause-size : goal.returns-clause-size
returns-clause-size c =
    size_of (2 ^ 54)
    (pass w64 (product_read c.args.factor c.args.n c.args.origin c.from.ensures c.from-2.ensures c.from-3.ensures c.ranges.factor c.ranges.n c.ranges.origin c.requires.factor c.requires.origin) tt) tt
