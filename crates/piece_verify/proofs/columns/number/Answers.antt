use Rattle.piece_verify.proofs.Ratios.{kept}
use Rattle.piece_verify.proofs.Heads.{number_none, number_unread}
use Rattle.piece_verify.proofs.columns.number.Goals as goal

pub returns-in_err-whole : goal.returns-in_err-whole
returns-in_err-whole c = rw c.from_residual.ensures (number_unread c.args.bytes.now c.in_err-whole.ensures)

pub returns : goal.returns
returns c =
    let same = kept c.in_ok-whole.field-0 c.in_ok-whole.ensures.0 in
    let result = rw same at c.number_of.ensures in
    number_none c.in_ok-whole.field-0 c.args.bytes.now c.in_ok-whole.ensures.0 c.in_ok-whole.ensures.1 c.number_of.result result
