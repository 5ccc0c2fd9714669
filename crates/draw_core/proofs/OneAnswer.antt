-- A run has one answer: each of its steps has, and so have steps in order.
use Rattle.std.proofs.Common.{◌≡◌, ℕ, List, Option, Result, Ok, Err, sym, ap, ◌∙◌}
use Rattle.desk.specs.Files.{Files}
use Rattle.draw_words.specs.Names.{Named, named_by}
use Rattle.job_file.specs.Documents.{JobValues}
use Rattle.part_input.specs.Jobs.{TakesReadJob}
use Rattle.part_input.specs.Parts.{TakesSolid}
use Rattle.part_input.specs.Steps.{◌and_then◌}
use Rattle.part_input.specs.declared.fault.Fault.{Fault}
use Rattle.part_input.specs.declared.fault.Fault.TheVariants.{NoPlotter}
use Rattle.part_input.proofs.OneSheet.{plan_single}
use Rattle.part_input.proofs.Singles.{IsSingle, single_then, none_some, same_some, named_job_single, solid_single}
use Rattle.draw_core.specs.Outputs.{first_unmet}
use Rattle.sheet_plan.specs.JobSheets.{Drawn}
use Rattle.draw_core.specs.Run.{NamesFiles, HasPlotters, TakesMetJob, DrawsFiles, RunsDraw}
use Rattle.part_input.specs.Sheets.{PlansSheet}

-- ---- the words
names_single : (words : List (List ℕ)) → IsSingle (NamesFiles words)
names_single words (Ok x) (Ok y) e h = ap Ok (same_some (named_by words) x y e h)
names_single words (Ok x) (Err d) e (_, h) = absurd (none_some (named_by words) x h e)
names_single words (Err d) (Ok y) (_, e) h = absurd (none_some (named_by words) y e h)
names_single words (Err d) (Err e) (p, _) (q, _) = ap Err (p ∙ sym q)

-- ---- the job
plotters_single : (suffixes : List (List ℕ)) (job : JobValues) → IsSingle (HasPlotters suffixes job)
plotters_single suffixes job (Ok x) (Ok y) (e, _) (h, _) = ap Ok (e ∙ sym h)
plotters_single suffixes job (Ok x) (Err d) (_, e) (name, _, h) = absurd (none_some (first_unmet suffixes job.outputs) name e h)
plotters_single suffixes job (Err d) (Ok y) (name, _, e) (_, h) = absurd (none_some (first_unmet suffixes job.outputs) name h e)
plotters_single suffixes job (Err d) (Err e) (name, p, a) (other, q, b) = ap Err (p ∙ ap NoPlotter (same_some (first_unmet suffixes job.outputs) name other a b) ∙ sym q)

met_job_single : (suffixes : List (List ℕ)) (files : Files) (name : Option (List ℕ)) → IsSingle (TakesMetJob suffixes files name)
met_job_single suffixes files name =
    single_then (TakesReadJob files name) (HasPlotters suffixes) (named_job_single files name) (plotters_single suffixes)

-- ---- the whole
draws_single : (suffixes : List (List ℕ)) (files : Files) (named : Named) → IsSingle (DrawsFiles suffixes files named)
draws_single suffixes files named =
    single_then (TakesMetJob suffixes files named.job) (λ job. TakesSolid files named.part job.decimals job.unit and_then PlansSheet job) (met_job_single suffixes files named.job)
    (λ job. single_then (TakesSolid files named.part job.decimals job.unit) (PlansSheet job) (solid_single files named.part job.decimals job.unit) (plan_single job))

pub one_answer : (suffixes words : List (List ℕ)) (files : Files) (r s : Result Drawn Fault) → RunsDraw suffixes words files r → RunsDraw suffixes words files s → r ≡ s
one_answer suffixes words files = single_then (NamesFiles words) (DrawsFiles suffixes files) (names_single words) (draws_single suffixes files)
