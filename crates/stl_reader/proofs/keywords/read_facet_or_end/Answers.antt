use Rattle.std.proofs.Common.{ap, sym, ◌∙◌, codes, Ok, Err}
use Rattle.part_text.specs.Words.{is_word}
use Rattle.part_text.proofs.Readings.{next_of, handed_on}
use Rattle.stl_reader.proofs.Checks.{is_facet, is_end, is_neither}
use Rattle.stl_reader.proofs.keywords.read_facet_or_end.Goals as goal

pub returns-in_err-token-clause-step : goal.returns-in_err-token-clause-step
returns-in_err-token-clause-step c = (Err c.in_err-token.field-0.0, next_of _ _ _ _ _ c.requires.same c.in_err-token.ensures.step, handed_on _ _ _ _ c.from_residual.ensures.1)

pub returns-then-is_keyword-clause-step : goal.returns-then-is_keyword-clause-step
returns-then-is_keyword-clause-step c = (
  Ok (c.in_ok-token.token, c.next_token.new.tokens.left),
  next_of _ _ _ _ _ c.requires.same c.in_ok-token.ensures.step,
  is_facet c.args.bytes.now c.in_ok-token.token _ (sym c.is_keyword.ensures ∙ c.if-is_keyword.true),
)

pub returns-then-not-is_word-clause-step : goal.returns-then-not-is_word-clause-step
returns-then-not-is_word-clause-step c = (
  Ok (c.in_ok-token.token, c.next_token.new.tokens.left),
  next_of _ _ _ _ _ c.requires.same c.in_ok-token.ensures.step,
  rw c.fault.ensures (is_neither c.args.bytes.now c.in_ok-token.token _ (sym c.is_keyword.ensures ∙ c.if-is_keyword.false) (sym (c.is_word.ensures ∙ ap (is_word (codes "endsolid")) c.bytes_of.ensures) ∙ c.if-not-is_word.true)),
)

pub returns-clause-step : goal.returns-clause-step
returns-clause-step c = (
  Ok (c.in_ok-token.token, c.next_token.new.tokens.left),
  next_of _ _ _ _ _ c.requires.same c.in_ok-token.ensures.step,
  is_end c.args.bytes.now c.in_ok-token.token _ (sym c.is_keyword.ensures ∙ c.if-is_keyword.false) (sym (c.is_word.ensures ∙ ap (is_word (codes "endsolid")) c.bytes_of.ensures) ∙ c.if-not-is_word.false),
)
