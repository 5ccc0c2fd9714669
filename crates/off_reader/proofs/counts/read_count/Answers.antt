use Rattle.std.proofs.Common.{sym, ◌∙◌, ap, Ok, Err}
use Rattle.part_text.proofs.Readings.{next_of, handed_on}
use Rattle.off_reader.specs.Counts.{count_of}
use Rattle.off_reader.proofs.Counted.{counted, not_counted}
use Rattle.off_reader.proofs.counts.read_count.Goals as goal

pub returns-in_err-token-clause-step : goal.returns-in_err-token-clause-step
returns-in_err-token-clause-step c = (Err c.in_err-token.field-0.0, next_of _ _ _ _ _ c.requires.same c.in_err-token.ensures.step, handed_on _ _ _ _ c.from_residual.ensures.1)

pub returns-in-Some-clause-step : goal.returns-in-Some-clause-step
returns-in-Some-clause-step c = (
  Ok (c.in_ok-token.token, c.next_token.new.tokens.left),
  next_of _ _ _ _ _ c.requires.same c.in_ok-token.ensures.step,
  counted _ _ _ _ (sym (c.count_of.ensures ∙ ap count_of c.bytes_of.ensures) ∙ c.in-Some.is),
)

pub returns-in-None-clause-step : goal.returns-in-None-clause-step
returns-in-None-clause-step c = (
  Ok (c.in_ok-token.token, c.next_token.new.tokens.left),
  next_of _ _ _ _ _ c.requires.same c.in_ok-token.ensures.step,
  rw c.fault.ensures (not_counted _ _ _ (sym (c.count_of.ensures ∙ ap count_of c.bytes_of.ensures) ∙ c.in-None.is)),
)
