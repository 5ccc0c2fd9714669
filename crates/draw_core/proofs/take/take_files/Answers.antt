use Rattle.std.proofs.Common.{ap, map, subst, inl, inr, ◌∙◌}
use Rattle.desk.specs.Files.{Files, DeskState}
use Rattle.draw_words.specs.Seen.{named_seen}
use Rattle.job_file.specs.Seen.{job_seen}
use Rattle.solid_mesh.specs.Solids.{solid_part}
use Rattle.std.specs.Prelude.{Ok, Err}
use Rattle.part_input.specs.Jobs.{TakesReadJob}
use Rattle.part_input.specs.Parts.{TakesSolid}
use Rattle.part_input.specs.Steps.{◌and_then◌, Refuses, IsMissing}
use Rattle.draw_core.specs.Run.{DrawsFiles, HasPlotters, TakesMetJob}
use Rattle.part_input.specs.Sheets.{PlansSheet}
use Rattle.draw_core.specs.inner.Taken.{drawn_of}
use Rattle.part_input.proofs.Chains.{refuses_as, missing_as, gives_next}
use Rattle.part_input.proofs.Missing.{solid_missing}
use Rattle.part_input.proofs.NoFile.{drawn_by_words}
use Rattle.draw_core.proofs.Orders.{job_in_order, part_in_order}
use Rattle.draw_core.proofs.Unmet.{of_rack}
use Rattle.draw_core.proofs.take.take_files.Goals as goal

-- the job is refused
pub returns-in-Err-clause-answer : goal.returns-in-Err-clause-answer
returns-in-Err-clause-answer g c = λ told.
    let files = (g.D.Desk.state c.args.desk.now).files in
    let named = named_seen c.args.named in
    let suffixes = (map (λ b. ((goal.Plotter-dyn g (b.vtable, b.value)).plot b.value).suffix) c.args.extras.items) in
    refuses_as (TakesReadJob files named.job) (DrawsFiles suffixes files named) (λ e h. inl (inl h)) c.in-Err.fault (c.in-Err.ensures.answer told)

pub returns-in-Err-clause-missing : goal.returns-in-Err-clause-missing
returns-in-Err-clause-missing g c = λ steady.
    let files = (g.D.Desk.state c.args.desk.now).files in
    let named = named_seen c.args.named in
    let suffixes = (map (λ b. ((goal.Plotter-dyn g (b.vtable, b.value)).plot b.value).suffix) c.args.extras.items) in
    missing_as (TakesReadJob files named.job) (DrawsFiles suffixes files named) (λ e h. inl (inl h)) c.in-Err.fault (c.in-Err.ensures.missing steady)

-- an output of it has no plotter
pub returns-in-Err-rack_of-clause-answer : goal.returns-in-Err-rack_of-clause-answer
returns-in-Err-rack_of-clause-answer g c = λ told.
    let files = (g.D.Desk.state c.args.desk.now).files in
    let named = named_seen c.args.named in
    let suffixes = (map (λ b. ((goal.Plotter-dyn g (b.vtable, b.value)).plot b.value).suffix) c.args.extras.items) in
    let job = job_seen c.in-Ok.job in
    refuses_as (HasPlotters suffixes job) (DrawsFiles suffixes files named) (λ e h. inl (inr (job, c.in-Ok.ensures.answer told, h))) c.in-Err-rack_of.fault c.in-Err-rack_of.ensures.answer

pub returns-in-Err-rack_of-clause-of_files : goal.returns-in-Err-rack_of-clause-of_files
returns-in-Err-rack_of-clause-of_files g c =
    inl (of_rack (named_seen c.args.named).job c.in-Err-rack_of.fault c.in-Err-rack_of.ensures.of_outputs (λ none. c.in-Err-rack_of.ensures.usual (c.in-Ok.ensures.outputs none)))

-- the job was taken, and the part of the same files is refused
pub returns-in-Err-fetch_solid-clause-answer : goal.returns-in-Err-fetch_solid-clause-answer
returns-in-Err-fetch_solid-clause-answer g c =
    λ told.
    let old = g.D.Desk.state c.args.desk.now in
    let named = named_seen c.args.named in
    let job = job_seen c.in-Ok.job in
    let suffixes = (map (λ b. ((goal.Plotter-dyn g (b.vtable, b.value)).plot b.value).suffix) c.args.extras.items) in
    let fault = c.in-Err-fetch_solid.fault in
    let tells = ap (λ (s : DeskState). s.tells) c.in-Ok.ensures.changes ∙ told in
    let P : Files → Type 0 = λ files. Refuses (TakesSolid files named.part job.decimals job.unit) fault in
    let refused : P old.files = subst P (ap (λ (s : DeskState). s.files) c.in-Ok.ensures.changes) (c.in-Err-fetch_solid.ensures.answer tells) in
    let met : TakesMetJob suffixes old.files named.job (Ok job) = (job, c.in-Ok.ensures.answer told, c.in-Ok-rack_of.ensures.answer) in
    refuses_as (TakesSolid old.files named.part job.decimals job.unit) (DrawsFiles suffixes old.files named) (λ e h. inr (job, met, inl h)) fault refused

-- both were taken, and the sheet is planned
pub returns-in-Ok-fetch_solid-clause-answer : goal.returns-in-Ok-fetch_solid-clause-answer
returns-in-Ok-fetch_solid-clause-answer g c =
    λ told.
    let old = g.D.Desk.state c.args.desk.now in
    let named = named_seen c.args.named in
    let job = job_seen c.in-Ok.job in
    let suffixes = (map (λ b. ((goal.Plotter-dyn g (b.vtable, b.value)).plot b.value).suffix) c.args.extras.items) in
    let part = solid_part c.in-Ok-fetch_solid.solid in
    let tells = ap (λ (s : DeskState). s.tells) c.in-Ok.ensures.changes ∙ told in
    let P : Files → Type 0 = λ files. TakesSolid files named.part job.decimals job.unit (Ok part) in
    let taken : P old.files = subst P (ap (λ (s : DeskState). s.files) c.in-Ok.ensures.changes) (c.in-Ok-fetch_solid.ensures.answer tells) in
    let met : TakesMetJob suffixes old.files named.job (Ok job) = (job, c.in-Ok.ensures.answer told, c.in-Ok-rack_of.ensures.answer) in
    let from_part = gives_next (TakesSolid old.files named.part job.decimals job.unit) (PlansSheet job) part taken drawn_of c.draw_solid.result c.draw_solid.ensures.answer in
    gives_next (TakesMetJob suffixes old.files named.job) (λ job. TakesSolid old.files named.part job.decimals job.unit and_then PlansSheet job) job met drawn_of c.draw_solid.result from_part

pub returns-in-Err-clause-order : goal.returns-in-Err-clause-order
returns-in-Err-clause-order g c = λ told.
    job_in_order (map (λ b. ((goal.Plotter-dyn g (b.vtable, b.value)).plot b.value).suffix) c.args.extras.items) (g.D.Desk.state c.args.desk.now).files (named_seen c.args.named) c.in-Err.fault c.in-Err.ensures.of_job

pub returns-in-Err-fetch_solid-clause-order : goal.returns-in-Err-fetch_solid-clause-order
returns-in-Err-fetch_solid-clause-order g c = λ told.
    let old = g.D.Desk.state c.args.desk.now in
    let job = job_seen c.in-Ok.job in
    part_in_order (map (λ b. ((goal.Plotter-dyn g (b.vtable, b.value)).plot b.value).suffix) c.args.extras.items) old.files (named_seen c.args.named) job (job, c.in-Ok.ensures.answer told, c.in-Ok-rack_of.ensures.answer) c.in-Err-fetch_solid.fault c.in-Err-fetch_solid.ensures.of_part

pub returns-in-Err-fetch_solid-clause-missing : goal.returns-in-Err-fetch_solid-clause-missing
returns-in-Err-fetch_solid-clause-missing g c = λ steady.
    let old = g.D.Desk.state c.args.desk.now in
    let named = named_seen c.args.named in
    let job = job_seen c.in-Ok.job in
    let suffixes = (map (λ b. ((goal.Plotter-dyn g (b.vtable, b.value)).plot b.value).suffix) c.args.extras.items) in
    let fault = c.in-Err-fetch_solid.fault in
    let told = g.met.D.Desk.steady_tells c.args.desk.now steady in
    let still = ap (λ (s : DeskState). s.steady) c.in-Ok.ensures.changes ∙ steady in
    let between = (g.D.Desk.state c.take_job.new.desk).files in
    let P : Files → Type 0 = λ files. IsMissing (TakesSolid files named.part job.decimals job.unit) fault in
    let missing : P old.files = subst P (ap (λ (s : DeskState). s.files) c.in-Ok.ensures.changes)
    (solid_missing between named.part job.decimals job.unit (Err fault) c.in-Err-fetch_solid.ensures.of_part (c.in-Err-fetch_solid.ensures.missing still)) in
    let met : TakesMetJob suffixes old.files named.job (Ok job) = (job, c.in-Ok.ensures.answer told, c.in-Ok-rack_of.ensures.answer) in
    missing_as (TakesSolid old.files named.part job.decimals job.unit) (DrawsFiles suffixes old.files named) (λ e h. inr (job, met, inl h)) fault missing

-- ---- where no file is named to be read
pub returns-in-Err-clause-no_file : goal.returns-in-Err-clause-no_file
returns-in-Err-clause-no_file g c = λ alone files.
    let named = named_seen c.args.named in
    let suffixes = (map (λ b. ((goal.Plotter-dyn g (b.vtable, b.value)).plot b.value).suffix) c.args.extras.items) in
    refuses_as (TakesReadJob files named.job) (DrawsFiles suffixes files named) (λ e h. inl (inl h)) c.in-Err.fault (c.in-Err.ensures.usual alone.no_job files)

pub returns-in-Err-rack_of-clause-no_file : goal.returns-in-Err-rack_of-clause-no_file
returns-in-Err-rack_of-clause-no_file g c = λ alone files.
    let named = named_seen c.args.named in
    let suffixes = (map (λ b. ((goal.Plotter-dyn g (b.vtable, b.value)).plot b.value).suffix) c.args.extras.items) in
    let job = job_seen c.in-Ok.job in
    refuses_as (HasPlotters suffixes job) (DrawsFiles suffixes files named) (λ e h. inl (inr (job, c.in-Ok.ensures.usual alone.no_job files, h))) c.in-Err-rack_of.fault c.in-Err-rack_of.ensures.answer

pub returns-in-Err-fetch_solid-clause-no_file : goal.returns-in-Err-fetch_solid-clause-no_file
returns-in-Err-fetch_solid-clause-no_file g c =
    λ alone files.
    let named = named_seen c.args.named in
    let job = job_seen c.in-Ok.job in
    let suffixes = (map (λ b. ((goal.Plotter-dyn g (b.vtable, b.value)).plot b.value).suffix) c.args.extras.items) in
    let met : TakesMetJob suffixes files named.job (Ok job) = (job, c.in-Ok.ensures.usual alone.no_job files, c.in-Ok-rack_of.ensures.answer) in
    refuses_as (TakesSolid files named.part job.decimals job.unit) (DrawsFiles suffixes files named) (λ e h. inr (job, met, inl h)) c.in-Err-fetch_solid.fault
    (c.in-Err-fetch_solid.ensures.sample alone.sample files)

pub returns-in-Ok-fetch_solid-clause-no_file : goal.returns-in-Ok-fetch_solid-clause-no_file
returns-in-Ok-fetch_solid-clause-no_file g c =
    λ alone files.
    let named = named_seen c.args.named in
    let job = job_seen c.in-Ok.job in
    let suffixes = (map (λ b. ((goal.Plotter-dyn g (b.vtable, b.value)).plot b.value).suffix) c.args.extras.items) in
    let part = solid_part c.in-Ok-fetch_solid.solid in
    let met : TakesMetJob suffixes files named.job (Ok job) = (job, c.in-Ok.ensures.usual alone.no_job files, c.in-Ok-rack_of.ensures.answer) in
    let from_part = gives_next (TakesSolid files named.part job.decimals job.unit) (PlansSheet job) part (c.in-Ok-fetch_solid.ensures.sample alone.sample files) drawn_of c.draw_solid.result c.draw_solid.ensures.answer in
    gives_next (TakesMetJob suffixes files named.job) (λ job. TakesSolid files named.part job.decimals job.unit and_then PlansSheet job) job met drawn_of c.draw_solid.result from_part

pub returns-in-Ok-fetch_solid-clause-by_words : goal.returns-in-Ok-fetch_solid-clause-by_words
returns-in-Ok-fetch_solid-clause-by_words g c =
    drawn_by_words drawn_of c.draw_solid.result (named_seen c.args.named).job (named_seen c.args.named).part (job_seen c.in-Ok.job) (solid_part c.in-Ok-fetch_solid.solid) c.in-Ok.ensures.usual c.in-Ok-fetch_solid.ensures.sample c.draw_solid.ensures.answer
