use Rattle.std.proofs.Common.{◌≡◌, None, map, arith}
use Rattle.std.proofs.lemmas.Grind.{common_steps}
use Rattle.job_tables.specs.Faults.{key_fault}
use Rattle.job_tables.specs.Seen.{entry_seen}
use Rattle.job_tables.proofs.KnownKeys.{known_of_none}
use Rattle.job_tables.proofs.faults.check_keys.Goals as goal

pub returns-clause-known : goal.returns-clause-known
returns-clause-known c =
    let none : key_fault c.args.kind c.args.view (map entry_seen c.args.table.now.entries.items) ≡ None = grind (arith, common_steps) in
    known_of_none c.args.kind c.args.view c.args.table.now.entries.items none
