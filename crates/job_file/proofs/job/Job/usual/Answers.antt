use Rattle.std.proofs.Common.{◌≡◌, rules}
use Rattle.toml.specs.Data.{no_members}
use Rattle.toml.specs.View.{table_view}
use Rattle.job_file.proofs.DocumentLemmas.{empty, usual}
use Rattle.job_file.proofs.job.Job.usual.Goals as goal

pub returns-in-Ok : goal.returns-in-Ok
returns-in-Ok c =
    let none : table_view c.new.result ≡ no_members = search rules in
    rw (empty, ← none) c.in-Ok.ensures

pub unreachable-requires : goal.unreachable-requires
unreachable-requires c =
    let none : table_view c.new.result ≡ no_members = search rules in
    search (rules, usual)
