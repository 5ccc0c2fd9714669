-- The usual job is that of the empty text, which is an older one.
use Rattle.std.proofs.Common.{◌≡◌, ℕ, List, [], Some, None, refl, sym, ap, subst, ◌∙◌}
use Rattle.std.specs.Prelude.{Ok}
use Rattle.std.specs.Str.{is_utf8, chars}
use Rattle.desk.specs.Files.{Files, DeskState}
use Rattle.job_file.specs.Documents.{table_of, job_of_bytes}
use Rattle.job_file.specs.Seen.{job_seen}
use Rattle.job_file.specs.declared.job.Job.{Job}
use Rattle.part_input.specs.Jobs.{TakesReadJob}
use Rattle.sheet_job.specs.AnyJobs.{older, own, any_job_of_bytes}
use Rattle.sheet_job.specs.SheetJobs.{SheetJobValues}
use Rattle.sheet_job.specs.declared.any.AnyJob.TheVariants as job
use Rattle.toml.proofs.OnLiterals.{toml_on_literals}
use Rattle.toml.specs.Data.{no_members}
use Rattle.sheet_input.specs.Jobs.{AnyValues, ReadsAnyJob, TakesAnyJob, read_of}
use Rattle.sheet_input.specs.Seen.{any_seen}
use Rattle.sheet_input.specs.inner.Taking.{IsJobTaken}

empty_table : table_of [] ≡ Some no_members
unfolding toml_on_literals is_utf8 chars
empty_table = refl

empty_any : any_job_of_bytes [] ≡ older (job_of_bytes [])
empty_any = rw empty_table refl

module _ (j : Job) (usual : (files : Files) → TakesReadJob files None (Ok (job_seen j))) where
  is_read : ReadsAnyJob [] (Ok (any_seen (job.Older j)))
  is_read =
      let (bytes, none, reads) = usual (λ name. None) in
      empty_any ∙ ap older (subst (λ (text : List ℕ). job_of_bytes text ≡ Ok (job_seen j)) none reads)

  pub usual_answer : (files : Files) → TakesAnyJob files None (Ok (any_seen (job.Older j)))
  usual_answer files = ([], refl, is_read)

  pub usual_taken : (old : DeskState) → IsJobTaken old None (job.Older j)
  usual_taken old = λ told. ([], refl, record { reads = is_read; placed = tt })

-- what is taken where no job is named
abbrev pub no_files : Files
no_files name = None

pub usual_read : (values : AnyValues) → TakesAnyJob no_files None (Ok values) → older (job_of_bytes []) ≡ read_of values
usual_read values (bytes, none, reads) = sym empty_any ∙ subst (λ (text : List ℕ). any_job_of_bytes text ≡ read_of values) none reads

-- it is none of version 3
pub not_own : (values : SheetJobValues) → older (job_of_bytes []) ≡ own (Ok values) → ⊥
not_own values h = cc
