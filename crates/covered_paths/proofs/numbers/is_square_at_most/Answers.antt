use Rattle.std.proofs.Common.{rules, FitsSigned}
use Rattle.std.specs.Int.{w128}
use Rattle.std.proofs.lemmas.Int.{to_z-of_z}
use Rattle.covered_paths.proofs.Products.{too_large}
use Rattle.covered_paths.proofs.numbers.is_square_at_most.Goals as goal

pub returns-then-unsigned_abs : goal.returns-then-unsigned_abs
returns-then-unsigned_abs c =
    let fits : FitsSigned w128 c.args.a = search rules in
    too_large c.args.a c.args.bound c.unsigned_abs.result (simp to_z-of_z at c.unsigned_abs.ensures.value) c.if-unsigned_abs.true c.requires
