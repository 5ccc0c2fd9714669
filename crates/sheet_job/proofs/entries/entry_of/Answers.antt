use Rattle.std.proofs.Common.{ap, ◌∙◌}
use Rattle.std.specs.Str.{bytes_eq}
use Rattle.job_tables.specs.Seen.{entry_seen}
use Rattle.sheet_job.proofs.EntryLemmas.{option_map-twice, find-map}
use Rattle.std.proofs.Common.{option_map}
use Rattle.sheet_job.proofs.entries.entry_of.Goals as goal

pub returns : goal.returns
returns c =
    option_map-twice entry_seen (λ e. e.now) c.entry_at.result
    ∙ ap (λ e. option_map entry_seen e) c.entry_at.ensures
    ∙ find-map entry_seen (λ e. bytes_eq c.args.name.now e.key) c.args.entries.now
