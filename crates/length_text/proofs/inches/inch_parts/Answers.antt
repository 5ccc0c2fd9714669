use Rattle.std.proofs.Common.{◌≡◌, ℕ, rules, FitsSigned, ap, ◌∙◌, arith}
use Rattle.std.specs.Int.{w64}
use Rattle.std.proofs.lemmas.Int.{to_z-of_z}
use Rattle.length_text.specs.Inches.{IsNearest, half_up, inch_parts}
use Rattle.length_text.proofs.Nearest.{nearest}
use Rattle.length_text.proofs.inches.inch_parts.Goals as goal

pub returns-clause-nearest : goal.returns-clause-nearest
returns-clause-nearest c =
    let units : FitsSigned w64 c.args.units = search rules in
    let fits : FitsSigned w64 c.half_up.result = search rules in
    let value : c.half_up.result ≡ half_up c.inch_units.result c.args.units = simp to_z-of_z at c.half_up.ensures.value in
    let is : c.half_up.result ≡ inch_parts c.args.decimals c.args.units = value ∙ ap (λ (inch : ℕ). half_up inch c.args.units) c.inch_units.ensures.value in
    let least = c.inch_units.ensures.least in
    let near : IsNearest c.args.decimals c.args.units c.half_up.result = nearest c.args.decimals c.args.units c.half_up.result (omega (arith, least, c.inch_units.ensures.value)) is in
    simp to_z-of_z near
