use Rattle.std.proofs.Common.{arith, rules}
use Rattle.lex_lines.proofs.Cursor.{skipped, past_line}
use Rattle.lex_lines.proofs.tokens.Tokens.skip_line.Goals as goal

pub invariant_of-self : goal.invariant_of-self
invariant_of-self c = past_line _ _ c.self.inside.place _ _ c.self.invariant (omega arith) (search rules) (skipped c.self.inside.comments c.self.inside.bytes.now c.self.inside.place c.self.inside.line c.line_length.result c.line_length.ensures.place)

pub returns-clause-left : goal.returns-clause-left
returns-clause-left c = rw (← c.self.view_is) (skipped c.self.inside.comments c.self.inside.bytes.now c.self.inside.place c.self.inside.line c.line_length.result c.line_length.ensures.place)
