use Rattle.std.proofs.Common.{◌^◌}
use Rattle.integers.proofs.Worth.{size_of}
use Rattle.covered_paths.proofs.Products.{product}
use Rattle.covered_paths.proofs.numbers.reach.Goals as goal

pub returns-clause-value : goal.returns-clause-value
returns-clause-value c = (product (2 ^ 6) (2 ^ 37) c.args.far c.args.whole c.requires.first c.requires.second tt tt tt).is

pub returns-clause-size : goal.returns-clause-size
returns-clause-size c = size_of (2 ^ 43) (product (2 ^ 6) (2 ^ 37) c.args.far c.args.whole c.requires.first c.requires.second tt tt tt) tt
