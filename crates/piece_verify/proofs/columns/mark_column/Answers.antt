use Rattle.sheet_plan.specs.LineKinds.{word_of}
use Rattle.piece_verify.specs.Values.{IsAny}
use Rattle.piece_verify.proofs.Heads.{no_value, free_mark}
use Rattle.piece_verify.proofs.columns.mark_column.Goals as goal

pub returns-in_err-mark : goal.returns-in_err-mark
returns-in_err-mark c =
    rw c.from_residual-in_err-mark.ensures
    (no_value IsAny word_of 32 c.args.text.now c.in_ok-column.column.now c.in_ok-column.rest.now free_mark c.in_ok-column.ensures.0 c.in_ok-column.ensures.1
    c.in_err-mark.ensures)
