use Rattle.plot_rack.specs.Lists.{frac_text}
use Rattle.piece_verify.specs.Values.{IsListedFrac}
use Rattle.piece_verify.proofs.Heads.{no_end, no_value, one_value, free_frac}
use Rattle.piece_verify.proofs.columns.fraction_column.Goals as goal

pub returns-in_err-column : goal.returns-in_err-column
returns-in_err-column c = rw c.from_residual.ensures (no_end IsListedFrac frac_text 32 c.args.text.now c.in_err-column.ensures)

pub returns-in_err-fraction : goal.returns-in_err-fraction
returns-in_err-fraction c =
    rw c.from_residual-in_err-fraction.ensures
    (no_value IsListedFrac frac_text 32 c.args.text.now c.in_ok-column.column.now c.in_ok-column.rest.now free_frac c.in_ok-column.ensures.0 c.in_ok-column.ensures.1
    c.in_err-fraction.ensures)

pub returns : goal.returns
returns c =
    one_value IsListedFrac frac_text 32 c.args.text.now c.in_ok-column.column.now c.in_ok-column.rest.now c.in_ok-fraction.field-0 free_frac
    c.in_ok-column.ensures.0 c.in_ok-column.ensures.1 c.in_ok-fraction.ensures.0 c.in_ok-fraction.ensures.1
