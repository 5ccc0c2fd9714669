use Rattle.std.proofs.Common.{sym}
use Rattle.stroke_paths.proofs.walking.step_at.Goals as goal

pub returns-in-First : goal.returns-in-First
returns-in-First c = λ i. record { stroke = c.args.end.stroke; tip = sym c.in-First.is i }

pub returns-in-Second : goal.returns-in-Second
returns-in-Second c = λ i. record { stroke = c.args.end.stroke; tip = sym c.in-Second.is i }
