use Rattle.lex_lines.proofs.Promise.{are_tokens, cursor_at_start}
use Rattle.lex_lines.proofs.tokens.Tokens.new.Goals as goal

pub invariant_of-result : goal.invariant_of-result
invariant_of-result c = cursor_at_start c.args.comments c.args.bytes.now c.requires

pub returns-clause-tokens : goal.returns-clause-tokens
returns-clause-tokens c = are_tokens c.args.comments c.args.bytes.now
