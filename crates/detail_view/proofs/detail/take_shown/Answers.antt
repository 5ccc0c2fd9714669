use Rattle.std.proofs.Common.{ap, subst, refl, inr, ◌∙◌}
use Rattle.desk.specs.Files.{Files, DeskState}
use Rattle.job_file.specs.Seen.{job_seen}
use Rattle.solid_mesh.specs.Solids.{solid_part}
use Rattle.std.specs.Prelude.{Ok}
use Rattle.detail_view.specs.Run.{TakesPart, Details}
use Rattle.detail_view.specs.Seen.{detail_seen}
use Rattle.detail_view.specs.inner.Steps.{Refuses, IsMissing}
use Rattle.detail_view.proofs.Chains.{refuses_as, missing_as}
use Rattle.detail_view.proofs.Showings.{viewed_in_order, part_in_order}
use Rattle.detail_view.proofs.Takings.{shown_taken}
use Rattle.detail_view.proofs.detail.take_shown.Goals as goal

pub returns-in-Err-clause-order : goal.returns-in-Err-clause-order
returns-in-Err-clause-order g c = λ told. viewed_in_order (g.D.Desk.state c.args.desk.now).files (detail_seen c.args.words.now) c.in-Err.fault c.in-Err.ensures.of_job

pub returns-in-Ok-take_solid-clause-answer : goal.returns-in-Ok-take_solid-clause-answer
returns-in-Ok-take_solid-clause-answer g c = λ told.
    let files = (g.D.Desk.state c.args.desk.now).files in
    let w = detail_seen c.args.words.now in
    let job = job_seen c.in-Ok.job in
    let part = solid_part c.in-Ok-take_solid.solid in
    let tells = ap (λ (s : DeskState). s.tells) c.in-Ok.ensures.changes ∙ told in
    let P : Files → Type 0 = λ f. TakesPart f w.part job (Ok part) in
    let taken : P files = subst P (ap (λ (s : DeskState). s.files) c.in-Ok.ensures.changes) (c.in-Ok-take_solid.ensures.answer tells) in
    (job, c.in-Ok.ensures.answer told, (part, taken, refl))

pub returns-in-Err-take_solid-clause-answer : goal.returns-in-Err-take_solid-clause-answer
returns-in-Err-take_solid-clause-answer g c = λ told.
    let files = (g.D.Desk.state c.args.desk.now).files in
    let w = detail_seen c.args.words.now in
    let job = job_seen c.in-Ok.job in
    let fault = c.in-Err-take_solid.fault in
    let tells = ap (λ (s : DeskState). s.tells) c.in-Ok.ensures.changes ∙ told in
    let P : Files → Type 0 = λ f. Refuses (TakesPart f w.part job) fault in
    let refused : P files = subst P (ap (λ (s : DeskState). s.files) c.in-Ok.ensures.changes) (c.in-Err-take_solid.ensures.answer tells) in
    refuses_as (TakesPart files w.part job) (Details files w) (λ e h. inr (job, c.in-Ok.ensures.answer told, h)) fault refused

pub returns-in-Err-take_solid-clause-order : goal.returns-in-Err-take_solid-clause-order
returns-in-Err-take_solid-clause-order g c = λ told.
    part_in_order (g.D.Desk.state c.args.desk.now).files (detail_seen c.args.words.now) (job_seen c.in-Ok.job) (c.in-Ok.ensures.answer told) c.in-Err-take_solid.fault c.in-Err-take_solid.ensures.of_part

pub returns-in-Err-take_solid-clause-missing : goal.returns-in-Err-take_solid-clause-missing
returns-in-Err-take_solid-clause-missing g c = λ steady.
    let files = (g.D.Desk.state c.args.desk.now).files in
    let w = detail_seen c.args.words.now in
    let job = job_seen c.in-Ok.job in
    let fault = c.in-Err-take_solid.fault in
    let told = g.met.D.Desk.steady_tells c.args.desk.now steady in
    let still = ap (λ (s : DeskState). s.steady) c.in-Ok.ensures.changes ∙ steady in
    let P : Files → Type 0 = λ f. IsMissing (TakesPart f w.part job) fault in
    let missing : P files = subst P (ap (λ (s : DeskState). s.files) c.in-Ok.ensures.changes) (c.in-Err-take_solid.ensures.missing still) in
    missing_as (TakesPart files w.part job) (Details files w) (λ e h. inr (job, c.in-Ok.ensures.answer told, h)) fault missing

pub returns-in-Ok-take_solid-clause-taken : goal.returns-in-Ok-take_solid-clause-taken
returns-in-Ok-take_solid-clause-taken g c =
    shown_taken g.D.Desk.fetches (detail_seen c.args.words.now) c.args.desk.now c.take_viewed.new.desk c.take_solid.new.desk _ c.in-Ok-take_solid.ensures.taken.0 c.in-Ok.ensures.taken c.in-Ok-take_solid.ensures.taken.1
