use Rattle.std.proofs.Common.{◌^◌}
use Rattle.std.specs.Int.{w64}
use Rattle.integers.proofs.Worth.{fits, minus, pass, size_of}
use Rattle.lattice.proofs.VectorSizes.{component_product}
use Rattle.lattice.proofs.products.minor.Goals as goal

pub overflow_sub-result : goal.overflow_sub-result
overflow_sub-result c =
    fits w64 (minus (component_product (2 ^ 21) c.args.a c.args.d c.requires.first c.requires.fourth tt tt) (component_product (2 ^ 21) c.args.b c.args.c c.requires.second c.requires.third tt tt)) tt

pub returns-clause-value : goal.returns-clause-value
returns-clause-value c =
    (pass w64 (minus (component_product (2 ^ 21) c.args.a c.args.d c.requires.first c.requires.fourth tt tt) (component_product (2 ^ 21) c.args.b c.args.c c.requires.second c.requires.third tt tt)) tt).is

pub returns-clause-size : goal.returns-clause-size
returns-clause-size c =
    size_of (2 ^ 43) (pass w64 (minus (component_product (2 ^ 21) c.args.a c.args.d c.requires.first c.requires.fourth tt tt) (component_product (2 ^ 21) c.args.b c.args.c c.requires.second c.requires.third tt tt)) tt) tt

pub returns-clause-small : goal.returns-clause-small
returns-clause-small c h1 h2 h3 h4 =
    size_of 162 (pass w64 (minus (component_product 9 c.args.a c.args.d h1 h4 tt tt) (component_product 9 c.args.b c.args.c h2 h3 tt tt)) tt) tt
