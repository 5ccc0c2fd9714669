use Rattle.std.proofs.Common.{◌-◌, ◌≤◌, ◌<◌, map, length}
use Rattle.job_text.specs.Seen.{line_seen}
use Rattle.job_tables.specs.Refused.{IsToml, before_line}
use Rattle.job_tables.proofs.refused.refused_line.Given as goal

-- the line is between the two
abbrev pub invariant-loop-accepted : goal.invariant-loop-accepted
invariant-loop-accepted l =
    (l.accepted < l.refused) × (l.refused ≤ length l.lines)
    × IsToml (before_line l.text (map line_seen l.lines) l.accepted)
    × ¬ IsToml (before_line l.text (map line_seen l.lines) l.refused)

abbrev pub decreases-loop-accepted : goal.decreases-loop-accepted
decreases-loop-accepted l = l.refused - l.accepted
