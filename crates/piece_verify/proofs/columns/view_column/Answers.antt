use Rattle.std.specs.Fmt.{decimal}
use Rattle.piece_verify.specs.Values.{IsView}
use Rattle.piece_verify.proofs.Heads.{no_end, no_value, one_value, free_view}
use Rattle.piece_verify.proofs.columns.view_column.Goals as goal

pub returns-in_err-column : goal.returns-in_err-column
returns-in_err-column c = rw c.from_residual.ensures (no_end (IsView c.args.least) decimal 32 c.args.text.now c.in_err-column.ensures)

pub returns-in_err-view : goal.returns-in_err-view
returns-in_err-view c =
    rw c.from_residual-in_err-view.ensures
    (no_value (IsView c.args.least) decimal 32 c.args.text.now c.in_ok-column.column.now c.in_ok-column.rest.now (free_view c.args.least)
    c.in_ok-column.ensures.0 c.in_ok-column.ensures.1 c.in_err-view.ensures)

pub returns : goal.returns
returns c =
    one_value (IsView c.args.least) decimal 32 c.args.text.now c.in_ok-column.column.now c.in_ok-column.rest.now c.in_ok-view.field-0 (free_view c.args.least)
    c.in_ok-column.ensures.0 c.in_ok-column.ensures.1 c.in_ok-view.ensures.0 c.in_ok-view.ensures.1
