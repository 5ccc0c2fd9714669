use Rattle.lex_lines.specs.Scan.{ends_run}
use Rattle.lex_lines.proofs.Firsts.{position_or_end}
use Rattle.lex_lines.proofs.tokens.run_length.Goals as goal

pub returns-clause-place : goal.returns-clause-place
returns-clause-place c =
    rw (c.unwrap_or.ensures, c.run_end.ensures.place) (position_or_end (λ byte. ends_run c.args.comments byte) c.args.bytes.now)
