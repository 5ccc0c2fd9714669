use Rattle.std.proofs.Common.{List, subst}
use Rattle.std.specs.Prelude.{IfOk}
use Rattle.piece_verify.specs.Checked.{AreKnown, IsVerdict}
use Rattle.piece_verify.specs.declared.line.Entry.{Entry}
use Rattle.piece_verify.proofs.Verdicts.{right_answer, no_stranger}
use Rattle.piece_verify.proofs.check.check_list.Goals as goal

pub returns-in-None-clause-right : goal.returns-in-None-clause-right
returns-in-None-clause-right c =
    right_answer c.args.solid.now c.args.job.now c.args.list.now.entries.items c.verdict_on.result
    (subst (λ (es : List Entry). IfOk c.verdict_on.result (IsVerdict c.args.solid.now c.args.job.now es)) c.deref-in-None.ensures.value c.verdict_on.ensures)

pub returns-in-None-clause-stranger : goal.returns-in-None-clause-stranger
returns-in-None-clause-stranger c = λ place.
    no_stranger c.args.solid.now c.args.job.now c.args.list.now.entries.items (subst (AreKnown c.args.job.now) c.deref.ensures.value c.in-None.ensures) place c.verdict_on.result
