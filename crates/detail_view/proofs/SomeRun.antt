-- A run has an answer, for all words and files.
use Rattle.std.proofs.Common.{◌≡◌, ◌⊎◌, inl, inr, ℕ, ◌<◌, ◌≤◌, List, length, Option, Some, None, IsSomeAnd, Result, Ok, Err, refl, sym, subst}
use Rattle.std.specs.Global.{Global}
use Rattle.std.proofs.lemmas.Bool.{cases_lt}
use Rattle.answers_exist.proofs.Decided.{by_option}
use Rattle.desk.specs.Files.{Files}
use Rattle.job_file.specs.Documents.{JobValues}
use Rattle.part_input.specs.Jobs.{TakesReadJob}
use Rattle.part_input.specs.Parts.{TakesSolid}
use Rattle.part_input.specs.Steps.{HasAnswer}
use Rattle.part_input.specs.declared.fault.Fault.{Fault}
use Rattle.part_input.proofs.SomeSteps.{HasAnswerSuch, Any, AreValues, IsProper, some_and_then, some_answer, some_read_job, some_solid}
use Rattle.piece_verify.specs.declared.list.ListFault.{ListFault}
use Rattle.piece_verify.proofs.SomeList.{some_list}
use Rattle.detail_view.specs.Run.{listed, viewed, TakesList, ReadsList, TakesReadList, HasView, TakesPart, ChecksBy, Checks, TakesViewed, Details, RunsPieces}
use Rattle.detail_view.specs.Steps.{Lifted, Yields}
use Rattle.detail_view.specs.Words.{Check, Detail, Asked, checks, details}
use Rattle.detail_view.specs.declared.fault.PiecesFault.{PiecesFault}
use Rattle.detail_view.specs.declared.fault.PiecesFault.TheVariants.{Usage, Input, NoView, ReadList, ListTooLong, List as Unlisted}

-- ---- steps of reading, and what is made of what steps give
lift : {A : Type 0} (P : A → Type 0) (steps : Result A Fault → Type 0) → HasAnswerSuch P steps → HasAnswerSuch P (Lifted steps)
lift P steps (Ok x, (is, such)) = (Ok x, (is, such))
lift P steps (Err fault, (is, such)) = (Err (Input fault), (is, such))

yield : {A B : Type 0} (P : A → Type 0) (f : A → B) (steps : Result A PiecesFault → Type 0) → HasAnswerSuch P steps → HasAnswerSuch Any (Yields f steps)
yield P f steps (Ok x, (is, such)) = (Ok (f x), ((x, is, refl), tt))
yield P f steps (Err fault, (is, such)) = (Err fault, (is, tt))

-- ---- lists and views
some_bytes : (files : Files) (name : List ℕ) → HasAnswerSuch Any (TakesList files name)
some_bytes files name = by_option (files name) (λ e. (Err ReadList, (inl (refl, e), tt))) there
  where
    there : (bytes : List ℕ) → files name ≡ Some bytes → HasAnswerSuch Any (TakesList files name)
    there bytes e = by (cases_lt 16777216 (length bytes))
      where
        by : (16777216 < length bytes) ⊎ (length bytes ≤ 16777216) → HasAnswerSuch Any (TakesList files name)
        by (inl long) = (Err ListTooLong, (inr (refl, subst (λ (o : Option (List ℕ)). IsSomeAnd o (λ bytes. 16777216 < length bytes)) (sym e) long), tt))
        by (inr short) = (Ok bytes, ((e, short), tt))

-- a text is a list, or has a first line at which it is none
some_strokes : (bytes : List ℕ) → HasAnswerSuch Any (ReadsList bytes)
some_strokes bytes = elim (some_list bytes) [
  | inl (strokes, is) ↦ (Ok strokes, (is, tt))
  | inr (n, is) ↦ (let fault : ListFault = record { line = n } in (Err (Unlisted fault), ((fault, refl, is), tt)))
]

some_read_list : (files : Files) (name : List ℕ) → HasAnswerSuch Any (TakesReadList files name)
some_read_list files name = some_and_then Any Any (TakesList files name) ReadsList (some_bytes files name) (λ bytes any. some_strokes bytes)

some_view : (view : ℕ) (job : JobValues) → AreValues job → HasAnswerSuch AreValues (HasView view job)
some_view view job are = by (cases_lt view (length job.views))
  where
    by : (view < length job.views) ⊎ (length job.views ≤ view) → HasAnswerSuch AreValues (HasView view job)
    by (inl within) = (Ok job, ((refl, within), are))
    by (inr beyond) = (Err (NoView view), ((refl, beyond), tt))

-- ---- runs
module _ (alloc : Global) (files : Files) where
  some_job : (name : List ℕ) → HasAnswerSuch AreValues (Lifted (TakesReadJob files (Some name)))
  some_job name = lift AreValues (TakesReadJob files (Some name)) (some_read_job alloc files (Some name))

  some_part : (name : List ℕ) (job : JobValues) → HasAnswerSuch IsProper (TakesPart files name job)
  some_part name job = lift IsProper (TakesSolid files name job.decimals job.unit) (some_solid files name job.decimals job.unit)

  some_detail : (d : Detail) → HasAnswerSuch Any (Details files d)
  some_detail d =
      some_and_then AreValues Any (TakesViewed files d) (λ job. Yields (viewed job) (TakesPart files d.part job))
      (some_and_then AreValues AreValues (Lifted (TakesReadJob files (Some d.job))) (HasView d.view) (some_job d.job) (some_view d.view))
      (λ job are. yield IsProper (viewed job) (TakesPart files d.part job) (some_part d.part job))

  some_check : (c : Check) → HasAnswerSuch Any (Checks files c)
  some_check c =
      some_and_then AreValues Any (Lifted (TakesReadJob files (Some c.job))) (ChecksBy files c) (some_job c.job)
      (λ job are. some_and_then IsProper Any (TakesPart files c.part job) (λ part. Yields (listed job part) (TakesReadList files c.list)) (some_part c.part job)
      (λ part proper. yield Any (listed job part) (TakesReadList files c.list) (some_read_list files c.list)))

  pub some_run : (asked : Option Asked) → HasAnswer (RunsPieces asked files)
  some_run None = (Err Usage, refl)
  some_run (Some (checks c)) = some_answer Any (Checks files c) (some_check c)
  some_run (Some (details d)) = some_answer Any (Details files d) (some_detail d)
