use Rattle.std.proofs.Common.{◌≡◌, map, drop}
use Rattle.job_tables.specs.Faults.{key_fault}
use Rattle.job_tables.specs.Seen.{entry_seen}
use Rattle.job_tables.proofs.faults.check_keys.Given as goal

-- the first fault is among the entries that are left
abbrev pub invariant-loop-entry : goal.invariant-loop-entry
invariant-loop-entry l = key_fault l.kind l.view (map entry_seen (drop l.entry-index l.entry-items)) ≡ key_fault l.kind l.view (map entry_seen l.table.entries.items)
