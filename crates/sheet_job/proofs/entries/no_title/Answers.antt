use Rattle.std.proofs.Common.{refl}
use Rattle.std.specs.Str.{chars}
use Rattle.sheet_job.proofs.entries.no_title.Goals as goal

pub returns-clause-proper : goal.returns-clause-proper
unfolding chars
returns-clause-proper c = rw c.in_ok-new.ensures.same refl
