use Rattle.piece_verify.proofs.ListLines.{no_ends, no_places, an_entry}
use Rattle.piece_verify.proofs.line.read_entry.Goals as goal

pub returns-in_err-u1 : goal.returns-in_err-u1
returns-in_err-u1 c =
    rw c.from_residual-in_err-u1.ensures
    (no_ends c.args.least c.args.text.now c.in_ok-view.view c.in_ok-view.text.now c.in_ok-mark.mark c.in_ok-mark.text.now c.in_ok-view.ensures c.in_ok-mark.ensures
    c.in_err-u1.ensures)

pub returns-in_err-rest : goal.returns-in_err-rest
returns-in_err-rest c =
    rw c.from_residual-in_err-rest.ensures
    (no_places c.args.least c.args.text.now c.in_ok-view.view c.in_ok-view.text.now c.in_ok-mark.mark c.in_ok-mark.text.now
    ((c.in_ok-u1.u1, c.in_ok-u1.v1), (c.in_ok-u1.u2, c.in_ok-u1.v2)) c.in_ok-u1.text.now
    c.in_ok-view.ensures c.in_ok-mark.ensures c.in_ok-u1.ensures c.in_err-rest.ensures)

pub returns : goal.returns
returns c =
    let ends = c.in_ok-u1.ensures in
    let places = c.in_ok-rest.ensures in
    an_entry c.args.least c.args.text.now _ c.in_ok-view.text.now c.in_ok-mark.text.now c.in_ok-u1.text.now c.in_ok-rest.field-0-0 c.in_ok-rest.rest.now
    c.in_ok-view.ensures c.in_ok-mark.ensures c.in_ok-u1.ensures c.in_ok-rest.ensures
