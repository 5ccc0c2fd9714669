-- A run has an answer, for all words and files.
use Rattle.std.proofs.Common.{List, Option, Ok, Err, ℕ, refl}
use Rattle.std.specs.Global.{Global}
use Rattle.desk.specs.Files.{Files}
use Rattle.answers_exist.proofs.Decided.{by_option}
use Rattle.draw_core.specs.Outputs.{first_unmet}
use Rattle.draw_core.specs.Run.{NamesFiles, HasPlotters, TakesMetJob, DrawsFiles, RunsDraw}
use Rattle.draw_words.specs.Names.{Named, named_by}
use Rattle.job_file.specs.Documents.{JobValues}
use Rattle.part_input.specs.Jobs.{TakesReadJob}
use Rattle.part_input.specs.Parts.{TakesSolid}
use Rattle.part_input.specs.Sheets.{PlansSheet}
use Rattle.part_input.specs.Steps.{◌and_then◌, HasAnswer}
use Rattle.part_input.specs.declared.fault.Fault.TheVariants.{Usage, NoPlotter}
use Rattle.part_input.proofs.SomeSteps.{HasAnswerSuch, Any, AreValues, some_and_then, some_answer, some_read_job, some_drawn_by}

some_names : (words : List (List ℕ)) → HasAnswerSuch Any (NamesFiles words)
some_names words = by_option (named_by words) (λ e. (Err Usage, ((refl, e), tt))) (λ named e. (Ok named, (e, tt)))

some_plotters : (suffixes : List (List ℕ)) (values : JobValues) → AreValues values → HasAnswerSuch AreValues (HasPlotters suffixes values)
some_plotters suffixes values are =
    by_option (first_unmet suffixes values.outputs) (λ e. (Ok values, ((refl, e), are))) (λ name e. (Err (NoPlotter name), ((name, refl, e), tt)))

module _ (alloc : Global) (suffixes : List (List ℕ)) (files : Files) where
  some_met_job : (name : Option (List ℕ)) → HasAnswerSuch AreValues (TakesMetJob suffixes files name)
  some_met_job name = some_and_then AreValues AreValues (TakesReadJob files name) (HasPlotters suffixes) (some_read_job alloc files name) (some_plotters suffixes)

  some_drawn : (named : Named) → HasAnswerSuch Any (DrawsFiles suffixes files named)
  some_drawn named =
      some_and_then AreValues Any (TakesMetJob suffixes files named.job) (λ job. (TakesSolid files named.part job.decimals job.unit and_then PlansSheet job)) (some_met_job named.job)
      (λ job are. some_drawn_by alloc files named.part job are)

  -- for all words and files a run gives something to draw, or a refusal
  pub some_run : (words : List (List ℕ)) → HasAnswer (RunsDraw suffixes words files)
  some_run words = some_answer Any (RunsDraw suffixes words files) (some_and_then Any Any (NamesFiles words) (DrawsFiles suffixes files) (some_names words) (λ named _. some_drawn named))
