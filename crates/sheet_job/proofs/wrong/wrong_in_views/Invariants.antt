use Rattle.std.proofs.Common.{◌≡◌, drop, map}
use Rattle.job_tables.specs.Seen.{table_seen}
use Rattle.sheet_job.specs.SheetJobs.{wrong_in_views}
use Rattle.sheet_job.proofs.wrong.wrong_in_views.Given as goal

-- those that are left decide
abbrev pub invariant-loop-number : goal.invariant-loop-number
invariant-loop-number l = wrong_in_views l.number (map table_seen (drop l.number l.views)) ≡ wrong_in_views 0 (map table_seen l.views)
