use Rattle.std.proofs.Common.{inl, Option, Some, None, Err, refl, ap, sym, subst}
use Rattle.std.specs.Prelude.{IfSome, is_some}
use Rattle.draw_words.specs.Seen.{texts}
use Rattle.detail_view.specs.Drawn.{pieces_told, KeepsPage}
use Rattle.detail_view.specs.Run.{IsVerdictOn, SaysAsked, OnlyAsked, pieces_task}
use Rattle.detail_view.specs.Seen.{asked_seen}
use Rattle.detail_view.specs.Taken.{HasOutcome, IsOfTexts}
use Rattle.detail_view.specs.Words.{Asked, asked_by}
use Rattle.detail_view.specs.declared.fault.PiecesFault.TheVariants.{Usage, Memory}
use Rattle.put_texts.specs.Runs.{IsAnswer}
use Rattle.put_texts.proofs.Runs.{refused_answer, short_refusal}
use Rattle.detail_view.proofs.Drawing.{nothing_kept, no_detail, nothing_asked}
use Rattle.detail_view.proofs.Runs.{lawful, no_verdict}
use Rattle.detail_view.proofs.run.pieces.Goals as goal

pub returns-in-Ok-clause-run : goal.returns-in-Ok-clause-run
returns-in-Ok-clause-run g c =
    let state = g.D.Desk.state in
    subst (λ (o : Option Asked). IsAnswer (pieces_task o) c.run.result.fault (state c.args.desk.now) (state c.run.new.desk)) (sym c.in-Ok.ensures.asked) c.run.ensures.run

pub returns-in-Err-Usage-clause-run : goal.returns-in-Err-Usage-clause-run
returns-in-Err-Usage-clause-run g c =
    let old = g.D.Desk.state c.args.desk.now in
    let fault = c.ended.result.fault in
    let asked : Option Asked = None in
    subst (λ (o : Option Asked). IsAnswer (pieces_task o) fault old old) (sym (c.in-Err-Usage.ensures.usage (ap Err c.in-Err-Usage.field-0-is)))
    (refused_answer (pieces_task asked) (lawful asked) old old old Usage (record { refuses = λ told. refl; alone = λ none files. refl; may = refl; order = λ told. tt; reads = refl; missing = λ steady. tt; no_write = tt; read = refl }) refl
    fault (inl c.ended.ensures.fault) (λ unread. c.ended.ensures.fault) (g.met.D.Desk.steady_tells c.args.desk.now))

pub returns-in-Err-Memory-clause-run : goal.returns-in-Err-Memory-clause-run
returns-in-Err-Memory-clause-run g c =
    let old = g.D.Desk.state c.args.desk.now in
    let end = c.ended-in-Err-Memory in
    let asked = asked_by (texts c.args.words.now) in
    refused_answer (pieces_task asked) (lawful asked) old old old Memory (short_refusal (pieces_task asked) (lawful asked) old old refl refl) refl
    end.result.fault (inl end.ensures.fault) (λ unread. end.ensures.fault) (g.met.D.Desk.steady_tells c.args.desk.now)

pub returns-in-Ok-clause-verdict : goal.returns-in-Ok-clause-verdict
returns-in-Ok-clause-verdict g c = λ told.
    let files = (g.D.Desk.state c.args.desk.now).files in
    subst (λ (o : Option Asked). IfSome c.run.result.verdict (IsVerdictOn o files)) (sym c.in-Ok.ensures.asked) (c.run.ensures.verdict told)

pub returns-in-Ok-clause-said : goal.returns-in-Ok-clause-said
returns-in-Ok-clause-said g c = λ told.
    let old = g.D.Desk.state c.args.desk.now in
    let new = g.D.Desk.state c.run.new.desk in
    let end = c.run.result in
    subst (λ (o : Option Asked). SaysAsked old.tells o old.files end.fault end.verdict old.said new.said) (sym c.in-Ok.ensures.asked) (c.run.ensures.said told)

pub returns-in-Ok-clause-files : goal.returns-in-Ok-clause-files
returns-in-Ok-clause-files g c = λ told.
    let old = g.D.Desk.state c.args.desk.now in
    let new = g.D.Desk.state c.run.new.desk in
    let end = c.run.result in
    subst (λ (o : Option Asked). KeepsPage o end.fault (pieces_told end.detail) old.files new.files) (sym c.in-Ok.ensures.asked) (c.run.ensures.files told)

pub returns-in-Err-Memory-clause-files : goal.returns-in-Err-Memory-clause-files
returns-in-Err-Memory-clause-files g c = λ told.
    let end = c.ended-in-Err-Memory in
    let files = (g.D.Desk.state c.args.desk.now).files in
    nothing_kept (asked_by (texts c.args.words.now)) end.result.fault (pieces_told end.result.detail) files files (ap pieces_told end.ensures.detail) refl

pub returns-in-Ok-clause-changes : goal.returns-in-Ok-clause-changes
returns-in-Ok-clause-changes g c =
    subst (λ (o : Option Asked). OnlyAsked o (g.D.Desk.state c.args.desk.now) (g.D.Desk.state c.run.new.desk)) (sym c.in-Ok.ensures.asked) c.run.ensures.changes

pub returns-in-Err-Memory-clause-changes : goal.returns-in-Err-Memory-clause-changes
returns-in-Err-Memory-clause-changes g c = nothing_asked (asked_by (texts c.args.words.now)) (g.D.Desk.state c.args.desk.now)

pub returns-in-Ok-clause-given : goal.returns-in-Ok-clause-given
returns-in-Ok-clause-given g c =
    let end = c.run.result in
    let is : HasOutcome (Some (asked_seen c.in-Ok.words)) end.fault (is_some end.verdict) (is_some end.detail) = record { shown = c.run.ensures.shown; drawn = c.run.ensures.drawn } in
    subst (λ (o : Option Asked). HasOutcome o end.fault (is_some end.verdict) (is_some end.detail)) (sym c.in-Ok.ensures.asked) is

pub returns-in-Err-Memory-clause-given : goal.returns-in-Err-Memory-clause-given
returns-in-Err-Memory-clause-given g c =
    let asked = asked_by (texts c.args.words.now) in
    let end = c.ended-in-Err-Memory in
    record {
      shown = no_verdict asked end.result.fault _ end.result.verdict end.ensures.fault end.ensures.verdict;
      drawn = no_detail asked end.result.fault end.result.detail end.ensures.fault end.ensures.detail;
    }

pub returns-in-Ok-clause-taken : goal.returns-in-Ok-clause-taken
returns-in-Ok-clause-taken g c =
    let end = c.run.result in
    let old = c.args.desk.now in
    let new = c.run.new.desk in
    let is : IsOfTexts g.D.Desk.fetches g.D.Desk.state (Some (asked_seen c.in-Ok.words)) old new end.verdict (pieces_told end.detail) = record { judged = c.run.ensures.judged; drawn = c.run.ensures.taken } in
    subst (λ (o : Option Asked). IsOfTexts g.D.Desk.fetches g.D.Desk.state o old new end.verdict (pieces_told end.detail)) (sym c.in-Ok.ensures.asked) is
