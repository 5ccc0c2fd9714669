use Rattle.std.proofs.Common.{◌∙◌, ap, map, List}
use Rattle.job_tables.specs.Seen.{entry_seen}
use Rattle.job_tables.specs.Tables.{Entry, Headed}
use Rattle.job_tables.specs.inner.Headed.{header_seen}
use Rattle.job_tables.proofs.Lists.{map-reverse}
use Rattle.job_tables.proofs.headers.with_header.Goals as goal

pub returns : goal.returns
returns c =
    let headed : List Entry → Headed = λ entries. record { header = header_seen c.args.header; table = record { at = c.args.at; entries = entries } } in
    ap headed (ap (map entry_seen) c.reverse.ensures.items ∙ map-reverse entry_seen c.args.backwards.items)
