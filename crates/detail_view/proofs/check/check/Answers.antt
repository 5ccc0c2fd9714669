use Rattle.std.proofs.Common.{inl, ℕ, List, Some, refl, ap, subst, ◌∙◌}
use Rattle.desk.specs.Files.{DeskState}
use Rattle.detail_view.specs.Taken.{IsVerdictTaken}
use Rattle.detail_view.specs.Run.{Checks, IsVerdictOf, pieces_task, verdict_line, Says}
use Rattle.detail_view.specs.Seen.{check_seen}
use Rattle.detail_view.specs.Words.{checks}
use Rattle.put_texts.proofs.Runs.{refused_answer}
use Rattle.detail_view.proofs.Endings.{said_answer, told_verdict, said_asked}
use Rattle.detail_view.proofs.Runs.{check_may, check_unwritten, lawful}
use Rattle.detail_view.proofs.check.check.Goals as goal

pub returns-in-Ok-clause-run : goal.returns-in-Ok-clause-run
returns-in-Ok-clause-run g c =
    let state = g.D.Desk.state in
    let asked = Some (checks (check_seen c.args.words.now)) in
    let took = c.in-Ok.ensures in
    let did = c.say_verdict.ensures in
    said_answer asked (state c.args.desk.now) (state c.judge.new.desk) (state c.say_verdict.new.desk) took.changes took.reads (ap (λ (s : DeskState). s.read_faults) did.changes) (g.met.D.Desk.steady_tells c.args.desk.now)
    (λ told. (_, (took.answer told).given)) refl tt c.say_verdict.result.fault did.fault did.writes did.steady

pub returns-in-Err-clause-run : goal.returns-in-Err-clause-run
returns-in-Err-clause-run g c =
    let state = g.D.Desk.state in
    let w = check_seen c.args.words.now in
    let asked = Some (checks w) in
    let took = c.in-Err.ensures in
    let e = c.in-Err.fault in
    refused_answer (pieces_task asked) (lawful asked) (state c.args.desk.now) (state c.judge.new.desk) (state c.judge.new.desk) e
    (record { refuses = took.answer; alone = λ none files. absurd none; may = check_may w e took.of_check; order = took.order; reads = took.reads; missing = took.missing; no_write = check_unwritten w e took.of_check; read = took.changes }) refl
    c.ended.result.fault (inl c.ended.ensures.fault) (λ unread. c.ended.ensures.fault) (g.met.D.Desk.steady_tells c.args.desk.now)

pub returns-in-Ok-clause-verdict : goal.returns-in-Ok-clause-verdict
returns-in-Ok-clause-verdict g c = λ told.
    let steps = Checks (g.D.Desk.state c.args.desk.now).files (check_seen c.args.words.now) in
    let end = c.say_verdict.result in
    told_verdict (IsVerdictOf steps) c.in-Ok.verdict (c.in-Ok.ensures.answer told) end.fault end.verdict c.say_verdict.ensures.told

pub returns-in-Ok-clause-said : goal.returns-in-Ok-clause-said
returns-in-Ok-clause-said g c = λ told.
    let old = g.D.Desk.state c.args.desk.now in
    let end = c.say_verdict.result in
    let new = (g.D.Desk.state c.say_verdict.new.desk).said in
    let tells = ap (λ (s : DeskState). s.tells_said) c.in-Ok.ensures.changes ∙ told in
    let P : List ℕ → Type 0 = λ said. Says end.fault said new (verdict_line c.in-Ok.verdict) in
    said_asked old.tells (check_seen c.args.words.now) old.files c.in-Ok.verdict end.fault end.verdict old.said new c.say_verdict.ensures.fault c.say_verdict.ensures.told c.in-Ok.ensures.answer
    (subst P (ap (λ (s : DeskState). s.said) c.in-Ok.ensures.changes) (c.say_verdict.ensures.said tells))

pub returns-in-Ok-clause-taken : goal.returns-in-Ok-clause-taken
returns-in-Ok-clause-taken g c =
    let asked = Some (checks (check_seen c.args.words.now)) in
    let end = c.say_verdict.result in
    told_verdict (IsVerdictTaken g.D.Desk.fetches g.D.Desk.state asked c.args.desk.now c.say_verdict.new.desk) c.in-Ok.verdict (c.judge.new.desk, c.in-Ok.ensures.taken, c.say_verdict.ensures.changes)
    end.fault end.verdict c.say_verdict.ensures.told
