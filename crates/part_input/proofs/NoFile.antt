-- Words that name no file to be read: what they say of a drawing, on every desk, and that a sample has no fault of reading.
use Rattle.std.proofs.Common.{◌≡◌, ℕ, List, Option, Some, None, IsSome, Result, Ok, Err, refl, sym, subst}
use Rattle.std.specs.Prelude.{IfOk}
use Rattle.dec_text.specs.declared.number.Length.{Length}
use Rattle.desk.specs.Files.{Files}
use Rattle.geometry.specs.Parts.{Part}
use Rattle.job_file.specs.Documents.{JobValues}
use Rattle.part_input.specs.Jobs.{ReadsJob, TakesReadJob}
use Rattle.part_input.specs.Parts.{sample_size, MakesSample, ChecksPart, TakesSoupOr, TakesSolid, IsOfSampleOr}
use Rattle.part_input.specs.Steps.{◌and_then◌, GivesInput}
use Rattle.part_input.specs.declared.fault.Input.{Input}
use Rattle.part_input.specs.declared.fault.Fault.{Fault}
use Rattle.part_input.specs.declared.fault.Fault.TheVariants.{ReadFault}
use Rattle.sheet_plan.specs.JobSheets.{Drawn}
use Rattle.part_input.specs.Sheets.{PlansSheet, IsJobOf, IsPartOf, IsOfWords}

-- ---- what they say
abbrev no_files : Files
no_files name = None

-- where no job is named the usual one is taken
job_by_words : (name : Option (List ℕ)) (job : JobValues) → (name ≡ None → (files : Files) → TakesReadJob files name (Ok job)) → IsJobOf name job
job_by_words None job usual = let (bytes, none, reads) = usual refl no_files in subst (λ (text : List ℕ). ReadsJob text (Ok job)) none reads
job_by_words (Some text) job usual = tt

-- a sample is made
part_by_words : (name : List ℕ) (decimals : ℕ) (unit : Length) (part : Part) → (IsSome (sample_size name) → (files : Files) → TakesSolid files name decimals unit (Ok part)) → IsPartOf (sample_size name) part
part_by_words name decimals unit part sample = go (sample_size name) (λ is. sample is no_files)
  where
    go : (size : Option (List ℕ)) → (IsSome size → (TakesSoupOr size no_files name decimals unit and_then ChecksPart) (Ok part)) → IsPartOf size part
    go None made = tt
    go (Some size) made = let (soup, is_sample, checked) = made refl in subst (λ (p : Part). MakesSample size (Ok p)) (sym checked.0) is_sample

-- so it is of the drawing of that job and that part
pub drawn_by_words : {X : Type 0} (view : X → Drawn) (r : Result X Fault) (job_name : Option (List ℕ)) (part_name : List ℕ) (job : JobValues) (part : Part)
    → (job_name ≡ None → (files : Files) → TakesReadJob files job_name (Ok job)) → (IsSome (sample_size part_name) → (files : Files) → TakesSolid files part_name job.decimals job.unit (Ok part))
    → GivesInput view (PlansSheet job part) r → IfOk r (λ x. IsOfWords job_name part_name (view x))
drawn_by_words view (Ok x) job_name part_name job part usual sample (same, has) =
    let is : IsOfWords job_name part_name (record { job = job; part = part }) = record {
      job = job_by_words job_name job usual;
      part = part_by_words part_name job.decimals job.unit part sample;
    } in
    subst (IsOfWords job_name part_name) (sym same) is
drawn_by_words view (Err e) job_name part_name job part usual sample given = tt

-- ---- faults
pub sample_not_read : (size : Option (List ℕ)) → IsSome size → (input : Input) → IsOfSampleOr size (ReadFault input) → ⊥
sample_not_read None is input h = absurd (cc)
sample_not_read (Some size) is input h = h
