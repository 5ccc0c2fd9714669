use Rattle.detail_view.proofs.SomeRun.{some_run}
use Rattle.detail_view.proofs.answers.runs_have_answers.Goals as goal

pub returns : goal.returns
returns c = λ asked files. some_run c.args._alloc files asked
