-- What the words alone say of what is drawn: the usual job, and a sample.
use Rattle.std.proofs.Common.{◌≡◌, inl, inr, ℕ, List, [], ◌∷◌, Option, Some, None, refl, sym, ap, subst, ◌∙◌}
use Rattle.std.specs.Prelude.{Result, Ok, Err, IfOk, unwrap_or}
use Rattle.desk.specs.Files.{Files}
use Rattle.geometry.specs.Parts.{Part}
use Rattle.job_file.specs.Documents.{JobValues}
use Rattle.job_file.specs.declared.fault.JobFault.{JobFault}
use Rattle.part_input.proofs.Singles.{same_value}
use Rattle.part_input.specs.Parts.{MakesSample, sample_size}
use Rattle.part_input.specs.Sheets.{IsPartOf}
use Rattle.sheet_job.specs.AnyJobs.{AnyRead, older, own, no_toml}
use Rattle.sheet_words.specs.Names.{Named}
use Rattle.sheet_input.specs.Answers.{IsOfNames, IsUsualIfNone}
use Rattle.sheet_input.specs.Fits.{Settled, Attempts, Fits, first_by, others_by, decimals_of}
use Rattle.sheet_input.specs.Jobs.{AnyValues, Lifted, SettlesJob, TakesAnyJob, older_job, own_job}
use Rattle.sheet_input.specs.Sheets.{job_on, wish_of}
use Rattle.sheet_input.specs.Steps.{DrawnSheet, DrawsText}
use Rattle.sheet_input.specs.Texts.{PartText, ReadsSolid, file, sample}
use Rattle.sheet_input.specs.Titles.{title_of}
use Rattle.sheet_input.specs.declared.fault.SheetFault.{SheetFault}
use Rattle.sheet_input.specs.inner.Taking.{IsDrawnOf, size_in}
use Rattle.sheet_input.proofs.UsualJob.{no_files, not_own, usual_read}

-- ---- the job
-- what an older job is read as
abbrev said_or : Result JobValues JobFault → AnyRead → Result JobValues JobFault
said_or other (older said) = said
said_or other (own said) = other
said_or other no_toml = other

usual_is : (values : AnyValues) → TakesAnyJob no_files None (Ok values) → IsUsualIfNone None values
usual_is (older_job usual) taken = (usual, ap (said_or (Ok usual)) (usual_read (older_job usual) taken), refl)
usual_is (own_job values) taken = absurd (not_own values (usual_read (own_job values) taken))

usual_by : (name : Option (List ℕ)) (values : AnyValues) → (name ≡ None → (files : Files) → TakesAnyJob files name (Ok values)) → IsUsualIfNone name values
usual_by (Some name) values usual = tt
usual_by None values usual = usual_is values (usual refl no_files)

-- ---- the part
-- what fits is so at some number
fits_some : {A : Type 0} (try : ℕ → Result A SheetFault → Type 0) (n : ℕ) (ns : List ℕ) (x : A) → Fits try n ns (Ok x) → (m : ℕ) × try m (Ok x)
fits_some try n [] x h = (n, h)
fits_some try n (m ∷ ns) x (inl h) = (n, h)
fits_some try n (m ∷ ns) x (inr (e, _, h)) = fits_some try m ns x h

-- the job there, and the part
fits_at : (title : List ℕ) (values : AnyValues) (text : PartText) (n : ℕ) (ns : List ℕ) (settled : Settled) → Fits (Attempts title values text) n ns (Ok settled)
    → (m : ℕ) × (job : JobValues) × SettlesJob title values m (Ok job) × (part : Part) × Lifted (ReadsSolid text m job.unit) (Ok part) × (settled ≡ record { job = job; part = part })
fits_at title values text n ns settled fits =
    let (m, (job, settles, (part, reads, both))) = fits_some (Attempts title values text) n ns settled fits in
    (m, job, settles, part, reads, same_value settled _ both)

sample_made : (title : List ℕ) (values : AnyValues) (size : List ℕ) (n : ℕ) (settled : Settled) → Attempts title values (sample size) n (Ok settled) → MakesSample size (Ok settled.part)
sample_made title values size n settled (job, _, (part, (soup, made, checked), fits)) =
    subst (λ (p : Part). MakesSample size (Ok p)) (sym (ap (λ (s : Settled). s.part) (same_value settled _ fits) ∙ checked.0)) made

sample_drawn : (named : Named) (values : AnyValues) (size : List ℕ) (made : DrawnSheet) → DrawsText named values (sample size) (Ok made) → MakesSample size (Ok made.drawn.part)
sample_drawn named values size made (settled, fits, (drawn, plans, draws)) =
    let title = title_of named.said.title values named.part in
    let (n, tried) = fits_some (Attempts title values (sample size)) (first_by (decimals_of values) (sample_size named.part)) (others_by (decimals_of values) (sample_size named.part)) settled fits in
    subst (λ (p : Part). MakesSample size (Ok p)) (sym (ap (λ (m : DrawnSheet). m.drawn.part) (same_value made _ draws) ∙ ap (λ d. d.part) plans.drawn_is)) (sample_made title values size n settled tried)

part_by_words : (named : Named) (values : AnyValues) (text : PartText) (made : DrawnSheet) → DrawsText named values text (Ok made) → (size : Option (List ℕ)) → size_in text ≡ size → IsPartOf size made.drawn.part
part_by_words named values text made draws None same = tt
part_by_words named values (file bytes) made draws (Some size) same = absurd (cc)
part_by_words named values (sample other) made draws (Some size) same =
    subst (λ (s : List ℕ). MakesSample s (Ok made.drawn.part)) (ap (λ o. unwrap_or o size) same) (sample_drawn named values other made draws)

-- ---- all of it
-- the job is that of some number of decimals, and the sheet looks by it
module _ (named : Named) (values : AnyValues) (usual : named.job ≡ None → (files : Files) → TakesAnyJob files named.job (Ok values)) (made : DrawnSheet) (is : IsDrawnOf named values made) where
  pub of_names : IsOfNames named made
  of_names =
      let (settled, fits, (drawn, plans, draws)) = is.draws in
      let title = title_of named.said.title values named.part in
      let (n, job, settles, part, reads, both) =
      fits_at title values is.text (first_by (decimals_of values) (sample_size named.part)) (others_by (decimals_of values) (sample_size named.part)) settled fits in
      let sheet = same_value made _ draws in
      let same : made.drawn.job ≡ job_on (wish_of values) plans.paper job =
      ap (λ (m : DrawnSheet). m.drawn.job) sheet ∙ ap (λ d. d.job) plans.drawn_is ∙ ap (λ (s : Settled). job_on (wish_of values) plans.paper s.job) both in
      record {
        values = values;
        decimals = n;
        settled = job;
        settles = settles;
        paper = plans.paper;
        job = same;
        look = ap (λ (m : DrawnSheet). m.look) sheet;
        wish = ap (λ (m : DrawnSheet). m.wish) sheet;
        usual = usual_by named.job values usual;
        part = part_by_words named values is.text made is.draws (sample_size named.part) is.size;
      }

pub drawn_by_words : {X E : Type 0} (view : X → DrawnSheet) (named : Named) (values : AnyValues) → (named.job ≡ None → (files : Files) → TakesAnyJob files named.job (Ok values))
    → (r : Result X E) → IfOk r (λ x. IsDrawnOf named values (view x)) → IfOk r (λ x. IsOfNames named (view x))
drawn_by_words view named values usual (Ok x) is = of_names named values usual (view x) is
drawn_by_words view named values usual (Err e) is = tt
