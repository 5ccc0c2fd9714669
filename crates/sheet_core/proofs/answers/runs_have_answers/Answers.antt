use Rattle.sheet_core.proofs.SomeRun.{some_run}
use Rattle.sheet_core.proofs.answers.runs_have_answers.Goals as goal

pub returns : goal.returns
returns c = λ words files. some_run c.args._alloc files words
