use Rattle.std.specs.Fmt.{signed_decimal}
use Rattle.piece_verify.specs.Values.{IsInRange}
use Rattle.piece_verify.proofs.Heads.{no_end, no_value, one_value, free_number, kept_word}
use Rattle.piece_verify.proofs.columns.number_column.Goals as goal

pub returns-in_err-column : goal.returns-in_err-column
returns-in_err-column c = rw c.from_residual.ensures (no_end IsInRange signed_decimal c.args.end c.args.text.now c.in_err-column.ensures)

pub returns-in_err-number : goal.returns-in_err-number
returns-in_err-number c =
    rw c.from_residual-in_err-number.ensures
    (no_value IsInRange signed_decimal c.args.end c.args.text.now c.in_ok-column.column.now c.in_ok-column.rest.now (free_number c.args.end c.requires)
    c.in_ok-column.ensures.0 c.in_ok-column.ensures.1 c.in_err-number.ensures)

pub returns : goal.returns
returns c =
    let same = kept_word c.in_ok-number.field-0 c.in_ok-number.ensures.0 in
    rw same
    (one_value IsInRange signed_decimal c.args.end c.args.text.now c.in_ok-column.column.now c.in_ok-column.rest.now c.in_ok-number.field-0 (free_number c.args.end c.requires)
    c.in_ok-column.ensures.0 c.in_ok-column.ensures.1 c.in_ok-number.ensures.0 c.in_ok-number.ensures.1)
