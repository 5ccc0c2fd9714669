use Rattle.piece_verify.proofs.Heads.{view_none, view_unread}
use Rattle.piece_verify.proofs.columns.view.Goals as goal

pub returns-in_err-natural : goal.returns-in_err-natural
returns-in_err-natural c = rw c.from_residual.ensures (view_unread c.args.least c.args.bytes.now c.in_err-natural.ensures)

pub returns : goal.returns
returns c = view_none c.args.least c.in_ok-natural.field-0 c.args.bytes.now c.in_ok-natural.ensures.0 c.in_ok-natural.ensures.1 c.view_of.result c.view_of.ensures
