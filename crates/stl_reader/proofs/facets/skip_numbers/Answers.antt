use Rattle.std.proofs.Common.{refl, ◌∙◌, Ok, Err}
use Rattle.part_text.proofs.Readings.{next_of, handed_on}
use Rattle.stl_reader.proofs.facets.skip_numbers.Goals as goal

pub returns-in_err-next_token-clause-step : goal.returns-in_err-next_token-clause-step
returns-in_err-next_token-clause-step c = (Err c.in_err-next_token.field-0.0, c.in_err-next_token.ensures.step, handed_on _ _ _ _ c.from_residual.ensures.1)

pub returns-in_err-next_token-2-clause-step : goal.returns-in_err-next_token-2-clause-step
returns-in_err-next_token-2-clause-step c = (Ok (c.in_ok-next_token.field-0, c.next_token.new.tokens.left), c.in_ok-next_token.ensures.step, (Err c.in_err-next_token-2.field-0.0, next_of _ _ _ _ _ c.next_token.ensures.text c.in_err-next_token-2.ensures.step, handed_on _ _ _ _ c.from_residual-in_err-next_token-2.ensures.1))

pub returns-in_err-next_token-3-clause-step : goal.returns-in_err-next_token-3-clause-step
returns-in_err-next_token-3-clause-step c = (
  Ok (c.in_ok-next_token.field-0, c.next_token.new.tokens.left),
  c.in_ok-next_token.ensures.step,
  (
    Ok (c.in_ok-next_token-2.field-0, c.next_token-2.new.tokens.left),
    next_of _ _ _ _ _ c.next_token.ensures.text c.in_ok-next_token-2.ensures.step,
    (Err c.in_err-next_token-3.field-0.0, next_of _ _ _ _ _ (c.next_token-2.ensures.text ∙ c.next_token.ensures.text) c.in_err-next_token-3.ensures.step, handed_on _ _ _ _ c.from_residual-in_err-next_token-3.ensures.1),
  ),
)

pub returns-clause-step : goal.returns-clause-step
returns-clause-step c = (
  Ok (c.in_ok-next_token.field-0, c.next_token.new.tokens.left),
  c.in_ok-next_token.ensures.step,
  (
    Ok (c.in_ok-next_token-2.field-0, c.next_token-2.new.tokens.left),
    next_of _ _ _ _ _ c.next_token.ensures.text c.in_ok-next_token-2.ensures.step,
    (Ok (c.in_ok-next_token-3.field-0, c.next_token-3.new.tokens.left), next_of _ _ _ _ _ (c.next_token-2.ensures.text ∙ c.next_token.ensures.text) c.in_ok-next_token-3.ensures.step, refl),
  ),
)
