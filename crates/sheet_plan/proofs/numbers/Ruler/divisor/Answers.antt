use Rattle.std.proofs.Common.{◌≡◌, ℕ, ◌+◌, ◌*◌, ◌≤◌, ◌^◌, arith, ◌∙◌, sym, subst}
use Rattle.std.proofs.lemmas.Int.{ints}
use Rattle.job_file.specs.declared.job.Scale.{Scale}
use Rattle.sheet_plan.proofs.Rounding.{IsDivisor, power_bounds, divisor_bounds}
use Rattle.sheet_plan.proofs.Scales.{scale_bounds}
use Rattle.sheet_plan.proofs.numbers.Ruler.divisor.Goals as goal

bounds : (s : Scale) (k den p q : ℕ) → k ≤ 6 → den ≡ s.den → p ≡ 10 ^ (9 + q) → q ≡ k → IsDivisor (den * p)
bounds s k den p q few of_den of_p of_q =
    let b = scale_bounds s.num s.den s.listed in
    let power = of_p ∙ (λ i. 10 ^ (9 + of_q i)) in
    let P : ℕ → Type 0 = λ n. IsDivisor n in
    subst P (sym (λ i. of_den i * power i)) (divisor_bounds s.den (10 ^ (9 + k)) b.den_least b.den_greatest (power_bounds k few))

pub overflow_mul-from : goal.overflow_mul-from
overflow_mul-from c =
    let self = c.args.self.now in
    let b = bounds self.scale self.decimals c.from.result c.pow.result c.from-2.result self.few_decimals c.from.ensures c.pow.ensures c.from-2.ensures in
    omega arith

pub returns-clause-least : goal.returns-clause-least
returns-clause-least c =
    let self = c.args.self.now in
    let b = bounds self.scale self.decimals c.from.result c.pow.result c.from-2.result self.few_decimals c.from.ensures c.pow.ensures c.from-2.ensures in
    let wide = c.from-3.ensures in
    omega (arith, ints)

pub returns-clause-size : goal.returns-clause-size
returns-clause-size c =
    let self = c.args.self.now in
    let b = bounds self.scale self.decimals c.from.result c.pow.result c.from-2.result self.few_decimals c.from.ensures c.pow.ensures c.from-2.ensures in
    let wide = c.from-3.ensures in
    omega (arith, ints)
