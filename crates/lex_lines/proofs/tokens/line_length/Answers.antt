use Rattle.lex_lines.specs.Bytes.{is_feed}
use Rattle.lex_lines.proofs.Firsts.{position_or_end}
use Rattle.lex_lines.proofs.tokens.line_length.Goals as goal

pub returns-clause-place : goal.returns-clause-place
returns-clause-place c =
    rw (c.unwrap_or.ensures, c.line_end.ensures.place) (position_or_end is_feed c.args.bytes.now)
