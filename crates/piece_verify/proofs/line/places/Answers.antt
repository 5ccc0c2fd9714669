use Rattle.piece_verify.specs.inner.Pairs.{AreNumbers, numbers_text}
use Rattle.piece_verify.proofs.Joins.{no_first, no_second, both}
use Rattle.piece_verify.proofs.line.places.Goals as goal

pub returns-in_err-from : goal.returns-in_err-from
returns-in_err-from c =
    rw c.from_residual.ensures
    (no_first AreNumbers AreNumbers numbers_text numbers_text 10 c.args.text.now c.in_err-from.ensures)

pub returns-in_err-to : goal.returns-in_err-to
returns-in_err-to c =
    rw c.from_residual-in_err-to.ensures
    (no_second AreNumbers AreNumbers numbers_text numbers_text 10 c.args.text.now
    c.in_ok-from.from c.in_ok-from.text.now c.in_ok-from.ensures c.in_err-to.ensures)

pub returns : goal.returns
returns c =
    both AreNumbers AreNumbers numbers_text numbers_text 10 c.args.text.now
    c.in_ok-from.from c.in_ok-from.text.now c.in_ok-to.to c.in_ok-to.rest.now c.in_ok-from.ensures c.in_ok-to.ensures
