use Rattle.sheet_input.proofs.UsualJob.{usual_answer, usual_taken}
use Rattle.sheet_input.proofs.jobs.usual.Goals as goal

pub returns-in-Ok-clause-answer : goal.returns-in-Ok-clause-answer
returns-in-Ok-clause-answer c = usual_answer c.in-Ok.job c.in-Ok.ensures.answer

pub returns-in-Ok-clause-placed : goal.returns-in-Ok-clause-placed
returns-in-Ok-clause-placed c = usual_taken c.in-Ok.job c.in-Ok.ensures.answer
