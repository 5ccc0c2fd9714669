use Rattle.std.proofs.Common.{◌≡◌, true, false, rules}
use Rattle.toml.specs.View.{table_view}
use Rattle.sheet_job.specs.AnyJobs.{is_own}
use Rattle.sheet_job.proofs.AnyLemmas.{own_bytes, older_bytes, refused_bytes}
use Rattle.sheet_job.proofs.read.read_any_job.Goals as goal

pub returns-in-Ok : goal.returns-in-Ok
returns-in-Ok c =
    let mine : is_own (table_view c.in-Ok.table) ≡ true = search rules in
    rw (own_bytes c.args.bytes.now (table_view c.in-Ok.table) c.in-Ok.ensures.ok mine) c.own_job.ensures

pub returns-in-Ok-2 : goal.returns-in-Ok-2
returns-in-Ok-2 c =
    let other : is_own (table_view c.in-Ok.table) ≡ false = search rules in
    rw (older_bytes c.args.bytes.now (table_view c.in-Ok.table) c.in-Ok.ensures.ok other) c.older_job.ensures

pub returns-in-Err-2 : goal.returns-in-Err-2
returns-in-Err-2 c = rw (refused_bytes c.args.bytes.now (search rules)) c.refused_bytes.ensures
