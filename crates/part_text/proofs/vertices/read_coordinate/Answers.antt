use Rattle.std.proofs.Common.{◌∙◌, ap, Ok, Err}
use Rattle.part_text.proofs.Readings.{next_of, handed_on}
use Rattle.part_text.proofs.Units.{stored_size, in_units, too_large, no_number}
use Rattle.part_text.proofs.vertices.read_coordinate.Goals as goal

pub returns-in_err-token-clause-step : goal.returns-in_err-token-clause-step
returns-in_err-token-clause-step c = (Err c.in_err-token.field-0.0, next_of _ _ _ _ _ c.requires.same c.in_err-token.ensures.step, handed_on _ _ _ _ c.from_residual.ensures.1)

pub returns-in-Ok-clause-step : goal.returns-in-Ok-clause-step
returns-in-Ok-clause-step c = (
  Ok (c.in_ok-token.token, c.next_token.new.tokens.left),
  next_of _ _ _ _ _ c.requires.same c.in_ok-token.ensures.step,
  in_units c.args.decimals c.args.unit _ c.bytes_of.result.now _ _ c.in-Ok.units c.bytes_of.ensures ((c.fixed.ensures.ok c.in-Ok.units).0 c.in-Ok.is),
)

pub returns-in-Ok-clause-size : goal.returns-in-Ok-clause-size
returns-in-Ok-clause-size c = stored_size c.args.decimals c.args.unit c.bytes_of.result.now c.in-Ok.units ((c.fixed.ensures.ok c.in-Ok.units).0 c.in-Ok.is)

pub returns-in-Err-NotANumber-clause-step : goal.returns-in-Err-NotANumber-clause-step
returns-in-Err-NotANumber-clause-step c = (
  Ok (c.in_ok-token.token, c.next_token.new.tokens.left),
  next_of _ _ _ _ _ c.requires.same c.in_ok-token.ensures.step,
  rw c.fault.ensures (no_number c.args.decimals c.args.unit _ c.bytes_of.result.now _ _ c.bytes_of.ensures ((c.fixed.ensures.not_a_number c.in-Err-NotANumber.field-0-0).0 (c.in-Err-NotANumber.is ∙ ap Err c.in-Err-NotANumber.field-0-is)).0),
)

pub returns-in-Err-TooLarge-clause-step : goal.returns-in-Err-TooLarge-clause-step
returns-in-Err-TooLarge-clause-step c = (
  Ok (c.in_ok-token.token, c.next_token.new.tokens.left),
  next_of _ _ _ _ _ c.requires.same c.in_ok-token.ensures.step,
  rw c.fault-in-Err-TooLarge.ensures (too_large c.args.decimals c.args.unit _ c.bytes_of.result.now _ _ c.bytes_of.ensures (c.fixed.ensures.too_large.0 (c.in-Err-TooLarge.is ∙ ap Err c.in-Err-TooLarge.field-0-is))),
)
