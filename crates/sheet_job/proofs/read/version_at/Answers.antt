use Rattle.toml.proofs.Views.{table_get}
use Rattle.std.proofs.Common.{codes}
use Rattle.sheet_job.proofs.read.version_at.Goals as goal

pub returns : goal.returns
returns c = table_get c.get.result (codes "version") c.args.table.now.entries c.get.ensures.value
