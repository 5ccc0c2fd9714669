use Rattle.std.specs.Prelude.{option_copied}
use Rattle.job_file.specs.Seen.{job_seen}
use Rattle.sheet_input.proofs.FitSteps.{older_passes, own_passes}
use Rattle.sheet_input.proofs.fit.check_last.Goals as goal

pub returns-in-Older-clause-passed : goal.returns-in-Older-clause-passed
returns-in-Older-clause-passed c = older_passes c.args.title.now (option_copied c.args.size) c.args.job.now c.in-Older.field-0 c.in-Older.is

pub returns-in-Ok-clause-passed : goal.returns-in-Ok-clause-passed
returns-in-Ok-clause-passed c =
    own_passes c.args.title.now (option_copied c.args.size) c.args.job.now c.in-Own.job c.in-Own.is c.last_by.result c.last_by.ensures.value (job_seen c.in-Ok.field-0) c.in-Ok.ensures.answer
