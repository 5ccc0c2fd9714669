use Rattle.std.proofs.Common.{ap, subst, ◌∙◌}
use Rattle.desk.specs.Files.{Files, DeskState}
use Rattle.job_file.specs.Seen.{job_seen}
use Rattle.solid_mesh.specs.Solids.{solid_part}
use Rattle.detail_view.specs.Run.{listed, TakesPart, TakesReadList}
use Rattle.detail_view.specs.Seen.{check_seen}
use Rattle.detail_view.specs.Steps.{Yields}
use Rattle.detail_view.specs.inner.Judging.{Judges}
use Rattle.detail_view.proofs.Chains.{judges_next, part_after}
use Rattle.detail_view.proofs.Takings.{part_judged}
use Rattle.detail_view.proofs.check.judge_part.Goals as goal

pub returns-in-Ok-clause-answer : goal.returns-in-Ok-clause-answer
returns-in-Ok-clause-answer g c = λ told.
    let files = (g.D.Desk.state c.args.desk.now).files in
    let w = check_seen c.args.words.now in
    let job = job_seen c.args.job.now in
    let part = solid_part c.in-Ok.solid in
    let tells = ap (λ (s : DeskState). s.tells) c.in-Ok.ensures.changes ∙ told in
    let P : Files → Type 0 = λ f. Judges (Yields (listed job part) (TakesReadList f w.list)) c.judge_list.result in
    let judged : P files = subst P (ap (λ (s : DeskState). s.files) c.in-Ok.ensures.changes) (c.judge_list.ensures.answer tells) in
    judges_next (TakesPart files w.part job) (λ part. Yields (listed job part) (TakesReadList files w.list)) part (c.in-Ok.ensures.answer told) c.judge_list.result judged

pub returns-in-Err-clause-order : goal.returns-in-Err-clause-order
returns-in-Err-clause-order g c = λ told.
    part_after (g.D.Desk.state c.args.desk.now).files (check_seen c.args.words.now) (job_seen c.args.job.now) c.in-Err.fault c.in-Err.ensures.of_part

pub returns-in-Ok-clause-taken : goal.returns-in-Ok-clause-taken
returns-in-Ok-clause-taken g c =
    part_judged g.D.Desk.fetches (check_seen c.args.words.now) (job_seen c.args.job.now) c.args.desk.now c.take_solid.new.desk c.judge_list.new.desk
    c.in-Ok.ensures.taken.0 (solid_part c.in-Ok.solid) c.in-Ok.ensures.taken.1 c.judge_list.result c.judge_list.ensures.taken
