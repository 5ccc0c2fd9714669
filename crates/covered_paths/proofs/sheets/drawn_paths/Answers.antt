use Rattle.std.proofs.lemmas.Result.{IfOk-weaker}
use Rattle.covered_paths.proofs.DrawnPaths.{are_beneath}
use Rattle.covered_paths.proofs.sheets.drawn_paths.Goals as goal

pub returns-clause-covered : goal.returns-clause-covered
returns-clause-covered c = IfOk-weaker c.drawn_of.result _ _ (λ drawn e. are_beneath c.args.paths.now c.args.shown.now drawn.items e) c.drawn_of.ensures
