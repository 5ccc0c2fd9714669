use Rattle.std.proofs.Common.{◌≡◌, map, reverse, length, List, ◌++◌}
use Rattle.job_text.specs.Lines.{TextLine}
use Rattle.job_text.specs.Seen.{line_seen}
use Rattle.job_tables.specs.Seen.{entry_seen}
use Rattle.job_tables.specs.Tables.{by_header}
use Rattle.job_tables.specs.inner.Headed.{headed_seen}
use Rattle.job_tables.proofs.headers.by_header.Given as goal

-- the lines that were gone through, from the last one back, are at their headers
abbrev pub invariant-loop-at : goal.invariant-loop-at
invariant-loop-at l =
    (rest : List TextLine) × (map line_seen l.fn.lines.items ≡ map line_seen l.lines.items ++ rest)
    × (reverse (map entry_seen l.first.items) ≡ (by_header rest).0) × (reverse (map headed_seen l.tables.items) ≡ (by_header rest).1)

abbrev pub decreases-loop-at : goal.decreases-loop-at
decreases-loop-at l = length l.lines.items
