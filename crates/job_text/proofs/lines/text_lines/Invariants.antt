use Rattle.std.proofs.Common.{◌≡◌, ◌<◌, ◌≤◌, length, map, ℕ}
use denote.Text.{Utf8}
use denote.Shadow.{shadow}
use Rattle.job_text.specs.Lines.{lines_after, text_lines}
use Rattle.job_text.specs.Seen.{line_seen}
use Rattle.job_text.proofs.lines.text_lines.Given as goal

-- what is left to read gives the lines
abbrev pub invariant-lines : goal.invariant-lines
invariant-lines l = shadow (Utf8 l.rest) × (length l.rest ≤ length l.text) × (m : ℕ) × (length l.rest < m) × (text_lines l.text ≡ lines_after (length l.text) m (map line_seen l.found.items) l.rest)

abbrev pub decreases-lines : goal.decreases-lines
decreases-lines l = length l.rest
