use Rattle.std.proofs.Common.{Some}
use Rattle.job_file.specs.Seen.{job_seen}
use Rattle.part_input.specs.Jobs.{TakesReadJob}
use Rattle.detail_view.specs.Run.{HasView}
use Rattle.detail_view.specs.Seen.{detail_seen}
use Rattle.detail_view.specs.Steps.{Lifted}
use Rattle.detail_view.proofs.Showings.{gives_next}
use Rattle.detail_view.proofs.Takings.{viewed_taken}
use Rattle.detail_view.proofs.detail.take_viewed.Goals as goal

pub returns-in-Ok-clause-answer : goal.returns-in-Ok-clause-answer
returns-in-Ok-clause-answer g c = λ told.
    let w = detail_seen c.args.words.now in
    gives_next (Lifted (TakesReadJob (g.D.Desk.state c.args.desk.now).files (Some w.job))) (HasView w.view) (job_seen c.in-Ok.job) (c.in-Ok.ensures.answer told) job_seen c.with_view.result c.with_view.ensures.answer

pub returns-in-Ok-clause-taken : goal.returns-in-Ok-clause-taken
returns-in-Ok-clause-taken g c =
    viewed_taken g.D.Desk.fetches (detail_seen c.args.words.now) c.args.desk.now c.take_job.new.desk c.in-Ok.ensures.taken.0 (job_seen c.in-Ok.job) c.in-Ok.ensures.taken.1 c.with_view.result c.with_view.ensures.answer
