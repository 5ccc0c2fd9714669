use Rattle.sheet_job.proofs.JobAtLemmas.{error_is}
use Rattle.sheet_job.proofs.job.SheetJob.job_at.Goals as goal

pub returns-in-Err : goal.returns-in-Err
returns-in-Err c = error_is c.args.decimals c.args.title.now c.args.self.now c.deref.result.now c.in-Err.error c.deref.ensures.value c.in-Err.ensures
