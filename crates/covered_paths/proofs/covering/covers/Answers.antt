use Rattle.std.proofs.Common.{sym, ◌∙◌, rules, FitsSigned}
use Rattle.std.specs.Int.{w64}
use Rattle.std.proofs.lemmas.Int.{to_z-of_z}
use Rattle.std.proofs.lemmas.Result.{IfOk-weaker}
use Rattle.covered_paths.proofs.LegPoints.{each_covered}
use Rattle.covered_paths.proofs.covering.covers.Goals as goal

pub returns-clause-near : goal.returns-clause-near
returns-clause-near c =
    let fits : FitsSigned w64 c.args.far = search rules in
    let exact = simp to_z-of_z at c.are_covered.ensures in
    IfOk-weaker c.are_covered.result _ _ (λ b e t. each_covered c.args.far c.requires.not_negative c.args.others.now c.args.legs.now (sym e ∙ t)) exact
