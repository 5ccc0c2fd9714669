-- What is asked of a run of `draw`: its steps have one answer, and they miss no file that is there. And what it answers once its drawing is made.
use Rattle.std.proofs.Common.{◌≡◌, inl, inr, ℕ, List, Option, Some, None, IfSome, is_some, true≢false, Result, Ok, Err, refl, sym, subst}
use Rattle.std.specs.Prelude.{IfNone, IsSome, IsSomeAnd}
use Rattle.desk.specs.Files.{Files}
use Rattle.draw_words.specs.Names.{Named, named_by}
use Rattle.part_input.specs.Faults.{CountsReads}
use Rattle.part_input.specs.Jobs.{TakesJob, ReadsJob, TakesReadJob, HasJobFile}
use Rattle.part_input.specs.Parts.{TakesSolid}
use Rattle.part_input.specs.Steps.{◌and_then◌, EndsOf, IsMissing}
use Rattle.part_input.specs.Causes.{common}
use Rattle.part_input.specs.declared.fault.Input.{Input}
use Rattle.part_input.specs.declared.fault.Fault.{Fault}
use Rattle.part_input.specs.declared.fault.Fault.TheVariants.{Usage, ReadFault, Job as JobUnread, NoPlotter, WriteFault, Memory}
use Rattle.part_input.proofs.Causes.{memory_alone, read_only}
use Rattle.part_input.proofs.There.{never_then, not_read, job_there, part_there}
use Rattle.draw_core.specs.Run.{AnswersDrawWords, HasPlotters, TakesMetJob, DrawsFiles, RunsDraw, RunsInOrder, HasFiles, draw_task}
use Rattle.sheet_plan.specs.JobSheets.{Drawn}
use Rattle.part_input.specs.Sheets.{PlansSheet}
use Rattle.draw_core.specs.inner.Faults.{IsWriteOutcome}
use Rattle.draw_core.proofs.NoFile.{no_reading}
use Rattle.draw_core.proofs.OneAnswer.{one_answer}
use Rattle.put_texts.specs.Faults.{IsThereOf}
use Rattle.put_texts.proofs.Runs.{IsLawful, settled_steps}

-- ---- files that are there
module _ (suffixes : List (List ℕ)) (files : Files) (input : Input) where
  met_job_there : (name : Option (List ℕ)) → HasJobFile files name → TakesMetJob suffixes files name (Err (ReadFault input)) → ⊥
  met_job_there name there =
      never_then (TakesReadJob files name) (HasPlotters suffixes) (ReadFault input)
      (never_then (TakesJob files name) ReadsJob (ReadFault input) (job_there files input name there) (λ bytes h. not_read input (JobUnread h.0) refl h.1))
      (λ job h. not_read input (NoPlotter h.0) refl h.1)

  files_there : (named : Named) → HasFiles files named → DrawsFiles suffixes files named (Err (ReadFault input)) → ⊥
  files_there named (job, part) =
      never_then (TakesMetJob suffixes files named.job) (λ job. TakesSolid files named.part job.decimals job.unit and_then PlansSheet job) (ReadFault input) (met_job_there named.job job)
      (λ job. never_then (TakesSolid files named.part job.decimals job.unit) (PlansSheet job) (ReadFault input) (part_there files input named.part job.decimals job.unit part) (λ part h. h))

  never_missing : (words : List (List ℕ)) → IfSome (named_by words) (HasFiles files) → RunsDraw suffixes words files (Err (ReadFault input)) → ⊥
  never_missing words there (inl (e, none)) = not_read input Usage refl e
  never_missing words there (inr (named, is, h)) = files_there named (subst (λ (o : Option Named). IfSome o (HasFiles files)) is there) h

pub lawful : (suffixes words : List (List ℕ)) → IsLawful (draw_task suffixes words)
lawful suffixes words = record {
  is_wanting = refl;
  alone = memory_alone;
  may_want = tt;
  want_in_order = λ files. tt;
  settled = λ files fault is. settled_steps (draw_task suffixes words) files (one_answer suffixes words files) fault is;
  no_reading = no_reading (named_by words);
  there = λ files there f unread h. read_only (λ (f : Fault). RunsDraw suffixes words files (Err f) → ⊥) (λ input. never_missing suffixes files input words there) f unread h;
}

pub some_named : (named : Option Named) (P : Named → Type 0) → IsSomeAnd named P → IsSome named
some_named None P h = absurd (h)
some_named (Some names) P h = refl

-- what is left once the drawing is made
pub drawn_ends : (suffixes words : List (List ℕ)) (files : Files) (drawn : Drawn) → RunsDraw suffixes words files (Ok drawn) → (fault : Option Fault) → IfSome fault IsWriteOutcome → EndsOf common (RunsDraw suffixes words files) fault
drawn_ends suffixes words files drawn is None h = (drawn, is)
drawn_ends suffixes words files drawn is (Some (WriteFault target)) h = (drawn, is)
drawn_ends suffixes words files drawn is (Some Memory) h = tt
drawn_ends suffixes words files drawn is (Some e) h = elim h [ ]

pub drawn_may : (named : Option Named) → IsSome named → (fault : Option Fault) → IfSome fault IsWriteOutcome → AnswersDrawWords named fault
drawn_may named some None h = some
drawn_may named some (Some (WriteFault target)) h = some
drawn_may named some (Some Memory) h = tt
drawn_may named some (Some e) h = elim h [ ]

pub drawn_in_order : (suffixes words : List (List ℕ)) (files : Files) (fault : Option Fault) → IfSome fault IsWriteOutcome → IfSome fault (RunsInOrder suffixes words files)
drawn_in_order suffixes words files None h = tt
drawn_in_order suffixes words files (Some (WriteFault target)) h = tt
drawn_in_order suffixes words files (Some Memory) h = tt
drawn_in_order suffixes words files (Some e) h = elim h [ ]

pub drawn_reads : (fault : Option Fault) (old new : ℕ) → IfSome fault IsWriteOutcome → new ≡ old → CountsReads fault old new
drawn_reads None old new h same = same
drawn_reads (Some (WriteFault target)) old new h same = same
drawn_reads (Some Memory) old new h same = same
drawn_reads (Some e) old new h same = elim h [ ]

pub drawn_misses_none : {A : Type 0} (steps : Result A Fault → Type 0) (fault : Option Fault) → IfSome fault IsWriteOutcome → IfSome fault (IsMissing steps)
drawn_misses_none steps None h = tt
drawn_misses_none steps (Some (WriteFault target)) h = tt
drawn_misses_none steps (Some Memory) h = tt
drawn_misses_none steps (Some e) h = elim h [ ]

-- a run without a fault has a drawing
pub none_undrawn : {T : Type 0} (fault : Option Fault) (made : Option T) (Q : Type 0) → IsThereOf common fault (is_some made) → IfNone fault (IfNone made Q)
none_undrawn None None Q there = absurd (true≢false (sym there))
none_undrawn None (Some d) Q there = tt
none_undrawn (Some f) made Q there = tt
