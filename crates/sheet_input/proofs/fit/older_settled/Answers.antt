use Rattle.std.proofs.Common.{rules}
use Rattle.part_input.specs.Steps.{RefusesOf}
use Rattle.job_file.specs.Seen.{job_seen}
use Rattle.sheet_input.specs.Faults.{sheet_faults}
use Rattle.sheet_input.specs.Fits.{Attempts}
use Rattle.sheet_input.specs.Jobs.{older_job}
use Rattle.sheet_input.specs.inner.Taking.{text_seen}
use Rattle.sheet_input.proofs.FitSteps.{older_told}
use Rattle.sheet_input.proofs.fit.older_settled.Goals as goal

pub returns-in-Err-clause-told : goal.returns-in-Err-clause-told
returns-in-Err-clause-told c =
    let j = c.args.job in
    let text = text_seen c.args.text.now in
    let refusal = c.in-Err.refusal in
    let refused : RefusesOf sheet_faults (Attempts c.args.title (older_job (job_seen j)) text j.decimals) refusal.fault = search rules in
    older_told c.args.title j (job_seen c.titled-job.result) c.titled-job.ensures text c.is_below_most-more.result c.is_below_most-more.ensures refusal.fault refusal.told refused c.in-Err.ensures.told
