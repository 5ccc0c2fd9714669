use Rattle.std.proofs.Common.{◌≡◌, ℕ, ◌*◌, ◌/◌, ◌^◌, ◌<◌, ◌∙◌, max, ap, sym, subst, rules}
use Rattle.sheet_plan.proofs.Scales.{spacing_small}
use Rattle.sheet_plan.proofs.sheet.Sheet.spacing.Goals as goal

pub overflow_cast-result : goal.overflow_cast-result
overflow_cast-result c =
    let self = c.args.self.now in
    let power : c.pow.result ≡ 10 ^ self.decimals = c.pow.ensures ∙ ap (λ (k : ℕ). 10 ^ k) c.from.ensures in
    let value : c.max.result ≡ max (3 * 10 ^ self.decimals * self.scale.den / self.scale.num) 1 =
    c.max.ensures ∙ (λ i. max (3 * power i * c.from-2.ensures i / c.from-3.ensures i) 1) in
    let small = subst (λ (n : ℕ). n < 2 ^ 32) (sym value) (spacing_small self.scale self.decimals self.few_decimals) in
    search rules
