use Rattle.std.proofs.Common.{sym, ◌∙◌, Ok, Err}
use Rattle.part_text.proofs.Readings.{next_of, handed_on}
use Rattle.stl_reader.proofs.Checks.{passes, fails}
use Rattle.stl_reader.proofs.keywords.read_keyword.Goals as goal

pub returns-in_err-token-clause-step : goal.returns-in_err-token-clause-step
returns-in_err-token-clause-step c = (Err c.in_err-token.field-0.0, next_of _ _ _ _ _ c.requires.same c.in_err-token.ensures.step, handed_on _ _ _ _ c.from_residual.ensures.1)

pub returns-then-not-is_keyword-clause-step : goal.returns-then-not-is_keyword-clause-step
returns-then-not-is_keyword-clause-step c = (
  Ok (c.in_ok-token.token, c.next_token.new.tokens.left),
  next_of _ _ _ _ _ c.requires.same c.in_ok-token.ensures.step,
  rw c.fault.ensures (fails _ _ _ _ _ (sym c.is_keyword.ensures ∙ c.if-not-is_keyword.true)),
)

pub returns-clause-step : goal.returns-clause-step
returns-clause-step c = (
  Ok (c.in_ok-token.token, c.next_token.new.tokens.left),
  next_of _ _ _ _ _ c.requires.same c.in_ok-token.ensures.step,
  passes _ _ _ _ _ (sym c.is_keyword.ensures ∙ c.if-not-is_keyword.false),
)
