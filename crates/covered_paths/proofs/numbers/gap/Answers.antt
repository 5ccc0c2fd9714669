use Rattle.std.proofs.Common.{◌^◌}
use Rattle.std.specs.Int.{w64}
use Rattle.integers.proofs.Worth.{fits, pass, plus, size_of}
use Rattle.covered_paths.proofs.Products.{product}
use Rattle.covered_paths.proofs.numbers.gap.Goals as goal

pub overflow_add-result : goal.overflow_add-result
overflow_add-result c =
    fits w64 (plus (product (2 ^ 37) (2 ^ 18) c.args.whole c.args.from c.requires.first c.requires.second tt tt tt) (product (2 ^ 37) (2 ^ 18) c.args.part c.args.along c.requires.third c.requires.fourth tt tt tt)) tt

pub returns-clause-value : goal.returns-clause-value
returns-clause-value c =
    (pass w64 (plus (product (2 ^ 37) (2 ^ 18) c.args.whole c.args.from c.requires.first c.requires.second tt tt tt) (product (2 ^ 37) (2 ^ 18) c.args.part c.args.along c.requires.third c.requires.fourth tt tt tt)) tt).is

pub returns-clause-size : goal.returns-clause-size
returns-clause-size c =
    size_of (2 ^ 56) (pass w64 (plus (product (2 ^ 37) (2 ^ 18) c.args.whole c.args.from c.requires.first c.requires.second tt tt tt) (product (2 ^ 37) (2 ^ 18) c.args.part c.args.along c.requires.third c.requires.fourth tt tt tt)) tt) tt
