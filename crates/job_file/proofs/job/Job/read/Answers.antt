use Rattle.std.proofs.Common.{rules}
use Rattle.job_file.proofs.DocumentLemmas.{document, refused}
use Rattle.job_file.proofs.job.Job.read.Goals as goal

pub returns-in-Ok : goal.returns-in-Ok
returns-in-Ok c = rw (document c.args.bytes.now _ c.in-Ok.ensures.ok) c.job_of.ensures

pub returns-in-Err-2 : goal.returns-in-Err-2
returns-in-Err-2 c = refused c.args.bytes.now (search rules)
