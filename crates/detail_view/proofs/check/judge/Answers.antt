use Rattle.std.proofs.Common.{Some, ap, subst, ◌∙◌}
use Rattle.std.specs.Prelude.{IfErr}
use Rattle.desk.specs.Files.{Files, DeskState}
use Rattle.job_file.specs.Seen.{job_seen}
use Rattle.part_input.specs.Jobs.{TakesReadJob}
use Rattle.detail_view.specs.Run.{ChecksBy}
use Rattle.detail_view.specs.Seen.{check_seen}
use Rattle.detail_view.specs.Steps.{Lifted}
use Rattle.detail_view.specs.inner.Steps.{IsMissing}
use Rattle.detail_view.specs.inner.Judging.{Judges, ComesAfterJob}
use Rattle.detail_view.proofs.Chains.{judges_next, missing_next, after_job}
use Rattle.detail_view.proofs.Takings.{checks_taken}
use Rattle.detail_view.proofs.check.judge.Goals as goal

pub returns-in-Ok-clause-answer : goal.returns-in-Ok-clause-answer
returns-in-Ok-clause-answer g c = λ told.
    let files = (g.D.Desk.state c.args.desk.now).files in
    let w = check_seen c.args.words.now in
    let job = job_seen c.in-Ok.job in
    let tells = ap (λ (s : DeskState). s.tells) c.in-Ok.ensures.changes ∙ told in
    let P : Files → Type 0 = λ f. Judges (ChecksBy f w job) c.judge_part.result in
    let judged : P files = subst P (ap (λ (s : DeskState). s.files) c.in-Ok.ensures.changes) (c.judge_part.ensures.answer tells) in
    judges_next (Lifted (TakesReadJob files (Some w.job))) (ChecksBy files w) job (c.in-Ok.ensures.answer told) c.judge_part.result judged

pub returns-in-Ok-clause-order : goal.returns-in-Ok-clause-order
returns-in-Ok-clause-order g c = λ told.
    let files = (g.D.Desk.state c.args.desk.now).files in
    let w = check_seen c.args.words.now in
    let job = job_seen c.in-Ok.job in
    let tells = ap (λ (s : DeskState). s.tells) c.in-Ok.ensures.changes ∙ told in
    let P : Files → Type 0 = λ f. IfErr c.judge_part.result (ComesAfterJob f w job) in
    after_job files w job (c.in-Ok.ensures.answer told) c.judge_part.result (subst P (ap (λ (s : DeskState). s.files) c.in-Ok.ensures.changes) (c.judge_part.ensures.order tells))

pub returns-in-Ok-clause-missing : goal.returns-in-Ok-clause-missing
returns-in-Ok-clause-missing g c = λ steady.
    let files = (g.D.Desk.state c.args.desk.now).files in
    let w = check_seen c.args.words.now in
    let job = job_seen c.in-Ok.job in
    let told = g.met.D.Desk.steady_tells c.args.desk.now steady in
    let still = ap (λ (s : DeskState). s.steady) c.in-Ok.ensures.changes ∙ steady in
    let P : Files → Type 0 = λ f. IfErr c.judge_part.result (IsMissing (ChecksBy f w job)) in
    missing_next (Lifted (TakesReadJob files (Some w.job))) (ChecksBy files w) job (c.in-Ok.ensures.answer told) c.judge_part.result
    (subst P (ap (λ (s : DeskState). s.files) c.in-Ok.ensures.changes) (c.judge_part.ensures.missing still))

pub returns-in-Ok-clause-taken : goal.returns-in-Ok-clause-taken
returns-in-Ok-clause-taken g c =
    checks_taken g.D.Desk.fetches (check_seen c.args.words.now) (job_seen c.in-Ok.job) c.args.desk.now c.take_job.new.desk c.judge_part.new.desk
    c.in-Ok.ensures.taken.0 c.in-Ok.ensures.taken.1 c.judge_part.result c.judge_part.ensures.taken
