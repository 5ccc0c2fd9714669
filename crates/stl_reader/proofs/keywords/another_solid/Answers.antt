use Rattle.std.proofs.Common.{sym, ◌∙◌}
use Rattle.stl_reader.proofs.Checks.{no_solid, one_solid}
use Rattle.stl_reader.proofs.keywords.another_solid.Goals as goal

pub returns-then-not-is_keyword-clause-step : goal.returns-then-not-is_keyword-clause-step
returns-then-not-is_keyword-clause-step c = rw c.fault.ensures (no_solid c.args.bytes.now _ _ _ c.in-Some.ensures.left (sym c.is_keyword.ensures ∙ c.if-not-is_keyword.true))

pub returns-clause-step : goal.returns-clause-step
returns-clause-step c = one_solid c.args.bytes.now _ _ _ c.in-Some.ensures.left _ _ (sym c.is_keyword.ensures ∙ c.if-not-is_keyword.false) c.in-Some.ensures.line c.skip_line.ensures.left
