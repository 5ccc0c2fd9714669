use Rattle.std.proofs.Common.{refl}
use Rattle.std.specs.Str.{chars}
use Rattle.job_file.proofs.texts.title.Goals as goal

pub returns-in_ok-new-in-None-clause-proper : goal.returns-in_ok-new-in-None-clause-proper
unfolding chars
returns-in_ok-new-in-None-clause-proper c = rw c.in_ok-new-in-None.ensures.same refl
