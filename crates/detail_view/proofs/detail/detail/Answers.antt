use Rattle.std.proofs.Common.{inl, Some, refl, ap, subst, ◌∙◌}
use Rattle.desk.specs.Files.{Files, DeskState}
use Rattle.detail_view.specs.Drawn.{IsDrawnOf, IsDrawnBy, pieces_told, LeavesDrawn}
use Rattle.detail_view.specs.Run.{Details, pieces_task}
use Rattle.detail_view.specs.Seen.{detail_seen}
use Rattle.detail_view.specs.Words.{details}
use Rattle.detail_view.specs.inner.Showing.{given_of}
use Rattle.put_texts.proofs.Runs.{refused_answer}
use Rattle.detail_view.proofs.Drawing.{left_also, nothing_kept, drawn_by}
use Rattle.detail_view.proofs.Endings.{said_answer}
use Rattle.detail_view.proofs.Runs.{detail_may, detail_unwritten, lawful}
use Rattle.detail_view.proofs.Takings.{detail_taken}
use Rattle.detail_view.proofs.detail.detail.Goals as goal

pub returns-in-Ok-clause-run : goal.returns-in-Ok-clause-run
returns-in-Ok-clause-run g c =
    let state = g.D.Desk.state in
    let asked = Some (details (detail_seen c.args.words.now)) in
    let took = c.in-Ok.ensures in
    let did = c.finish.ensures in
    said_answer asked (state c.args.desk.now) (state c.take_shown.new.desk) (state c.finish.new.desk) took.changes took.reads (ap (λ (s : DeskState). s.read_faults) did.changes) (g.met.D.Desk.steady_tells c.args.desk.now)
    (λ told. (given_of c.in-Ok.shown, took.answer told)) refl tt c.finish.result.fault did.fault did.writes did.steady

pub returns-in-Err-clause-run : goal.returns-in-Err-clause-run
returns-in-Err-clause-run g c =
    let state = g.D.Desk.state in
    let w = detail_seen c.args.words.now in
    let asked = Some (details w) in
    let took = c.in-Err.ensures in
    let e = c.in-Err.fault in
    refused_answer (pieces_task asked) (lawful asked) (state c.args.desk.now) (state c.take_shown.new.desk) (state c.take_shown.new.desk) e
    (record { refuses = took.answer; alone = λ none files. absurd none; may = detail_may w e took.of_detail; order = took.order; reads = took.reads; missing = took.missing; no_write = detail_unwritten w e took.of_detail; read = took.changes }) refl
    c.ended.result.fault (inl c.ended.ensures.fault) (λ unread. c.ended.ensures.fault) (g.met.D.Desk.steady_tells c.args.desk.now)

pub returns-in-Ok-clause-files : goal.returns-in-Ok-clause-files
returns-in-Ok-clause-files g c = λ told.
    let words = c.args.words.now in
    let shown = c.in-Ok.shown in
    let end = c.finish.result in
    let files = (g.D.Desk.state c.args.desk.now).files in
    let new = (g.D.Desk.state c.finish.new.desk).files in
    let tells = ap (λ (s : DeskState). s.tells) c.in-Ok.ensures.changes ∙ told in
    let IsLike = IsDrawnOf shown.job shown.solid words.view words.window words.scale in
    let steps = Details files (detail_seen words) in
    let P : Files → Type 0 = λ f. LeavesDrawn IsLike words.out end.fault (pieces_told end.detail) f new in
    let left : P files = subst P (ap (λ (s : DeskState). s.files) c.in-Ok.ensures.changes) (c.finish.ensures.files tells) in
    left_also IsLike words.out files new (IsDrawnBy steps (detail_seen words)) (drawn_by steps words shown (c.in-Ok.ensures.answer told)) end.fault (pieces_told end.detail) c.finish.ensures.fault left

pub returns-in-Err-clause-files : goal.returns-in-Err-clause-files
returns-in-Err-clause-files g c = λ told.
    let old = (g.D.Desk.state c.args.desk.now).files in
    let new = (g.D.Desk.state c.take_shown.new.desk).files in
    nothing_kept (Some (details (detail_seen c.args.words.now))) c.ended.result.fault (pieces_told c.ended.result.detail) old new (ap pieces_told c.ended.ensures.detail)
    (ap (λ (s : DeskState). s.files) c.in-Err.ensures.changes)

pub returns-in-Ok-clause-taken : goal.returns-in-Ok-clause-taken
returns-in-Ok-clause-taken g c =
    detail_taken g.D.Desk.fetches c.args.words.now g.D.Desk.state c.args.desk.now c.take_shown.new.desk c.finish.new.desk c.in-Ok.shown c.in-Ok.ensures.taken c.finish.ensures.changes
    (pieces_told c.finish.result.detail) c.finish.ensures.made
