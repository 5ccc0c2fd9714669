use Rattle.job_file.specs.Seen.{job_seen}
use Rattle.part_input.proofs.Jobs.{usual_outputs}
use Rattle.part_input.proofs.usual.usual_job.Goals as goal

pub returns-in-Ok-clause-outputs : goal.returns-in-Ok-clause-outputs
returns-in-Ok-clause-outputs c = usual_outputs (job_seen c.in-Ok.job) c.in-Ok.ensures
