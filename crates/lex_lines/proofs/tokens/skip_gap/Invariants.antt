use Rattle.std.proofs.Common.{◌≡◌, ◌+◌, ◌≤◌, drop}
use Rattle.lex_lines.specs.Scan.{tokens_from, outside}
use Rattle.lex_lines.specs.inner.Cursors.{left_at}
use Rattle.lex_lines.proofs.tokens.skip_gap.Given as goal

abbrev pub invariant-loop-at : goal.invariant-loop-at
invariant-loop-at l = record {
  read : left_at l.comments l.bytes l.place l.initial.line ≡ tokens_from l.comments (drop l.at l.bytes) l.at l.line (outside l.in_comment);
  lines : l.line ≤ l.at + 1;
}
