use Rattle.piece_verify.proofs.Ratios.{no_num, no_den, ratio_result, kept}
use Rattle.piece_verify.proofs.fractions.ratio.Goals as goal

pub returns-in_err-whole : goal.returns-in_err-whole
returns-in_err-whole c = rw c.from_residual.ensures (no_num c.args.num.now c.args.den.now c.requires c.in_err-whole.ensures)

pub returns-in_err-natural : goal.returns-in_err-natural
returns-in_err-natural c = rw c.from_residual-in_err-natural.ensures (no_den c.args.num.now c.args.den.now c.requires c.in_err-natural.ensures)

pub returns : goal.returns
returns c =
    let num = c.in_ok-whole.ensures in
    let den = c.in_ok-natural.ensures in
    let same = kept c.in_ok-whole.field-0 num.0 in
    let result = rw same at c.ratio_of.ensures in
    ratio_result c.args.num.now c.args.den.now c.in_ok-whole.field-0 c.in_ok-natural.field-0 c.ratio_of.result c.requires num.0 den.0 num.1 den.1 result
