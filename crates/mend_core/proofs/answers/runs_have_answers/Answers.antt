use Rattle.mend_core.proofs.SomeRun.{some_run, some_taken}
use Rattle.mend_core.proofs.answers.runs_have_answers.Goals as goal

pub returns-clause-runs : goal.returns-clause-runs
returns-clause-runs c = λ asked files. some_run files asked

pub returns-clause-parts : goal.returns-clause-parts
returns-clause-parts c = λ asked files. some_taken files asked
