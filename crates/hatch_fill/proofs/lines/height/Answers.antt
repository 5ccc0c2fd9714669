use Rattle.std.proofs.Common.{ℕ, ◌≤◌, ◌^◌, ◌∙◌, arith}
use Rattle.std.specs.Prelude.{◌*ℤ◌, unsigned_abs}
use Rattle.std.specs.Int.{w128}
use Rattle.integers.proofs.Worth.{below, wide, fits, pass, times}
use Rattle.integers.proofs.Sizes.{abs_times}
use Rattle.hatch_fill.proofs.lines.height.Goals as goal

pub overflow_mul-result : goal.overflow_mul-result
overflow_mul-result c = fits w128 (times (wide c.twice_height.result (2 ^ 22) c.from.ensures c.twice_height.ensures.size tt) (pass w128 (below c.args.den (2 ^ 69) c.requires) tt)) tt

pub returns-clause-value : goal.returns-clause-value
returns-clause-value c =
    (pass w128 (times (wide c.twice_height.result (2 ^ 22) c.from.ensures c.twice_height.ensures.size tt) (pass w128 (below c.args.den (2 ^ 69) c.requires) tt)) tt).is ∙ (λ i. c.twice_height.ensures.value i *ℤ c.args.den)

pub returns-clause-near : goal.returns-clause-near
returns-clause-near c =
    let is = (pass w128 (times (wide c.twice_height.result (2 ^ 22) c.from.ensures c.twice_height.ensures.size tt) (pass w128 (below c.args.den (2 ^ 69) c.requires) tt)) tt).is in
    rw is (abs_times c.twice_height.result c.args.den (2 ^ 22) (unsigned_abs c.args.den) c.twice_height.ensures.size (refl_le (unsigned_abs c.args.den)))
  where
    refl_le : (n : ℕ) → n ≤ n
    refl_le n = omega arith
