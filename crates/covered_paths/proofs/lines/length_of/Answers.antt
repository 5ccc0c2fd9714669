use Rattle.std.proofs.Common.{◌*◌, ap, ◌∙◌, unsigned_abs, rules, FitsSigned}
use Rattle.std.specs.Int.{w64}
use Rattle.std.proofs.lemmas.Int.{to_z-of_z}
use Rattle.sheet_plan.specs.Numbers.{root_of}
use Rattle.sheet_plan.proofs.Roots.{root_of-is}
use Rattle.covered_paths.proofs.lines.length_of.Goals as goal

pub returns-clause-value : goal.returns-clause-value
returns-clause-value c =
    let size = c.long.ensures.size in
    let fits : FitsSigned w64 c.long.result = search rules in
    let size_is = simp to_z-of_z at c.unsigned_abs.ensures.value in
    root_of-is _ _ c.isqrt.ensures.at_most c.isqrt.ensures.greatest ∙ (λ i. root_of (100000000 * (size_is ∙ ap unsigned_abs c.long.ensures.value) i))
