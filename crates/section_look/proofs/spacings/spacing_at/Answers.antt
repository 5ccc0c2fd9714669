use Rattle.std.proofs.Common.{◌≡◌, ℕ, ◌*◌, ◌/◌, ◌^◌, ◌<◌, ◌∙◌, max, ap, sym, subst, rules}
use Rattle.section_look.proofs.Scaled.{spacing_fits}
use Rattle.section_look.proofs.spacings.spacing_at.Goals as goal

pub overflow_cast-result : goal.overflow_cast-result
overflow_cast-result c =
    let sheet = c.args.sheet.now in
    let tenths = c.args.tenths in
    let power : c.pow.result ≡ 10 ^ sheet.decimals = c.pow.ensures ∙ ap (λ (k : ℕ). 10 ^ k) c.from-2.ensures in
    let value : c.max.result ≡ max (tenths * 10 ^ sheet.decimals * sheet.scale.den / (10 * sheet.scale.num)) 1 =
    c.max.ensures ∙ (λ i. max (c.from.ensures i * power i * c.from-3.ensures i / (10 * c.from-4.ensures i)) 1) in
    let small = subst (λ (n : ℕ). n < 2 ^ 32) (sym value) (spacing_fits sheet.scale sheet.decimals tenths sheet.few_decimals c.requires) in
    search rules
