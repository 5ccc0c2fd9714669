use Rattle.draw_core.proofs.SomeRun.{some_run}
use Rattle.draw_core.proofs.answers.runs_have_answers.Goals as goal

pub returns : goal.returns
returns c = λ suffixes words files. some_run c.args._alloc suffixes files words
