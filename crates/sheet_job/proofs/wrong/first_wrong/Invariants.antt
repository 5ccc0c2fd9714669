use Rattle.std.proofs.Common.{◌≡◌, drop, map}
use Rattle.job_tables.specs.Seen.{entry_seen}
use Rattle.sheet_job.specs.SheetJobs.{first_wrong}
use Rattle.sheet_job.proofs.wrong.first_wrong.Given as goal

-- those that are left decide
abbrev pub invariant-loop-entry : goal.invariant-loop-entry
invariant-loop-entry l = first_wrong l.kind l.view (map entry_seen (drop l.entry-index l.entries)) ≡ first_wrong l.kind l.view (map entry_seen l.entries)
