-- Faults of reading come in their order: of the job where it is named, of the part once the job was taken.
use Rattle.std.proofs.Common.{◌≡◌, ℕ, List, Option, Some, None, refl, sym, subst}
use Rattle.std.specs.Prelude.{Result, Ok, Err, IfErr, IsSome, IsSomeAnd}
use Rattle.desk.specs.Files.{Files}
use Rattle.draw_words.specs.Names.{Named, named_by}
use Rattle.job_file.specs.Documents.{JobValues}
use Rattle.part_input.specs.Jobs.{IsOfJobFile}
use Rattle.part_input.specs.Parts.{sample_size, IsOfPart}
use Rattle.part_input.proofs.Missing.{no_job, no_size}
use Rattle.draw_core.specs.Run.{TakesMetJob, IsOfNamedJob, IsOfJob, ComesTo, RunsInOrder}
use Rattle.part_input.specs.Sheets.{IsOfSheet}
use Rattle.draw_core.specs.inner.Faults.{ReadsInOrder}
use Rattle.part_input.specs.declared.fault.Fault.{Fault}
use Rattle.part_input.specs.declared.fault.Fault.TheVariants.{ReadFault, JobTooLong, Job as JobUnread, Memory}
use Rattle.part_input.specs.declared.fault.Input.TheVariants.{Job as TheJob, Part as ThePart}

-- a fault of the file of a job is one of a named job
pub named_job : {X : Type 0} (r : Result X Fault) → IfErr r IsOfJobFile → IfErr r IsOfNamedJob
named_job (Ok x) h = tt
named_job (Err (ReadFault TheJob)) h = tt
named_job (Err (ReadFault ThePart)) h = absurd h
named_job (Err JobTooLong) h = tt
named_job (Err (JobUnread cause)) h = tt
named_job (Err Memory) h = tt
named_job (Err e) h = absurd h

is_named : (name : Option (List ℕ)) → IsOfJob name (ReadFault TheJob) → IsSome name
is_named None h = absurd h
is_named (Some text) h = refl

no_part : (name : Option (List ℕ)) → IsOfJob name (ReadFault ThePart) → ⊥
no_part None h = h
no_part (Some text) h = h

pub job_in_order : (suffixes : List (List ℕ)) (files : Files) (named : Named) (e : Fault) → IsOfJob named.job e → ReadsInOrder suffixes files named e
job_in_order suffixes files named (ReadFault TheJob) h = is_named named.job h
job_in_order suffixes files named (ReadFault ThePart) h = absurd (no_part named.job h)
job_in_order suffixes files named e h = tt

pub part_in_order : (suffixes : List (List ℕ)) (files : Files) (named : Named) (job : JobValues) → TakesMetJob suffixes files named.job (Ok job) → (e : Fault) → IsOfPart named.part e → ReadsInOrder suffixes files named e
part_in_order suffixes files named job taken (ReadFault TheJob) h = absurd (no_job (sample_size named.part) h)
part_in_order suffixes files named job taken (ReadFault ThePart) h = (no_size (sample_size named.part) ThePart h, job, taken)
part_in_order suffixes files named job taken e h = tt

pub sheet_in_order : (suffixes : List (List ℕ)) (files : Files) (named : Named) (e : Fault) → IsOfSheet e → ReadsInOrder suffixes files named e
sheet_in_order suffixes files named (ReadFault input) h = absurd h
sheet_in_order suffixes files named e h = tt

pub run_in_order : (suffixes words : List (List ℕ)) (files : Files) (named : Named) → named_by words ≡ Some named → (e : Fault) → ReadsInOrder suffixes files named e → RunsInOrder suffixes words files e
run_in_order suffixes words files named is (ReadFault input) h = subst (λ (o : Option Named). IsSomeAnd o (λ n. ComesTo suffixes files n input)) (sym is) h
run_in_order suffixes words files named is e h = tt
