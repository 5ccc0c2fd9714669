-- A sheet has one drawing: each step of taking it has one answer.
use Rattle.std.proofs.Common.{◌≡◌, inl, inr, ℕ, Bool, true, false, List, [], ◌∷◌, Option, Some, None, Result, Ok, Err, refl, sym, ap, subst, ◌∙◌}
use Rattle.dec_text.specs.declared.number.Length.{Length}
use Rattle.desk.specs.Files.{Files}
use Rattle.part_input.proofs.Singles.{IsSingle, same_value, same_fault, not_both, single_then, file_single, job_bytes_single, text_single, weld_single, check_single, sample_single}
use Rattle.part_input.specs.Jobs.{TakesFile, TakesJob}
use Rattle.part_input.specs.Parts.{ReadsText, WeldsPart, ChecksPart, sample_size}
use Rattle.part_input.specs.Steps.{◌and_then◌}
use Rattle.part_input.specs.declared.fault.Fault.{Fault}
use Rattle.part_input.specs.declared.fault.Fault.TheVariants.{Job as JobUnread}
use Rattle.part_input.specs.declared.fault.Input.TheVariants.{Part as ThePart}
use Rattle.job_file.specs.Documents.{JobValues}
use Rattle.sheet_job.proofs.JobAtOnce.{job_at_one, job_at_near}
use Rattle.sheet_job.specs.AnyJobs.{AnyRead, older, own, no_toml, any_job_of_bytes}
use Rattle.sheet_job.specs.JobsAt.{IsTooFarIn}
use Rattle.sheet_job.specs.SheetJobs.{SheetJobValues}
use Rattle.sheet_words.specs.Names.{Named}
use Rattle.sheet_input.specs.Fits.{Attempts, IsFaultFrom, is_range, Fits, first_by, others_by, decimals_of, FitsBy, SettlesBy, last_by}
use Rattle.sheet_input.specs.Jobs.{AnyValues, older_job, own_job, Lifted, IsRefusedRead, ReadsAnyJob, TakesAnyJob, SettlesJob}
use Rattle.sheet_input.specs.Looks.{look_of}
use Rattle.sheet_input.specs.Sheets.{LaysSheet, wish_of}
use Rattle.sheet_input.specs.Steps.{DrawsText, DrawsBy, DrawsSheet}
use Rattle.sheet_input.specs.Texts.{PartText, sample, file, TakesTextOr, TakesText, ReadsSoup, ReadsSolid}
use Rattle.sheet_input.specs.Titles.{title_of}
use Rattle.sheet_input.specs.declared.fault.SheetFault.{SheetFault}
use Rattle.sheet_input.specs.declared.fault.SheetFault.TheVariants.{Common, OwnJob}
use Rattle.sheet_input.proofs.OneLayout.{lays_single}

-- ---- with the faults of `sheet`
module _ {A : Type 0} (steps : Result A Fault → Type 0) (single : IsSingle steps) where
  for_common : (e : SheetFault) → Lifted steps (Err e) → (f : Fault) × (e ≡ Common f) × steps (Err f)
  for_common (Common f) p = (f, refl, p)
  for_common e p = elim p [ ]

  pub lifted_single : IsSingle (Lifted steps)
  lifted_single (Ok x) (Ok y) p q = ap Ok (same_value x y (single (Ok x) (Ok y) p q))
  lifted_single (Ok x) (Err d) p q = let t = for_common d q in absurd (not_both x t.0 (single (Ok x) (Err t.0) p t.2))
  lifted_single (Err d) (Ok y) p q = let t = for_common d p in absurd (not_both y t.0 (single (Ok y) (Err t.0) q t.2))
  lifted_single (Err d) (Err e) p q =
      let t = for_common d p in
      let u = for_common e q in
      ap Err (t.1 ∙ ap Common (same_fault t.0 u.0 (single (Err t.0) (Err u.0) t.2 u.2)) ∙ sym u.1)

-- ---- the job
abbrev answer_of : AnyRead → Result AnyValues SheetFault
answer_of (older (Ok values)) = Ok (older_job values)
answer_of (older (Err cause)) = Err (Common (JobUnread cause))
answer_of (own (Ok values)) = Ok (own_job values)
answer_of (own (Err fault)) = Err OwnJob
answer_of no_toml = Err OwnJob

refused_is : (said : AnyRead) → IsRefusedRead said → answer_of said ≡ Err OwnJob
refused_is (older said) h = absurd h
refused_is (own (Ok values)) h = absurd h
refused_is (own (Err fault)) h = refl
refused_is no_toml h = refl

read_is : (bytes : List ℕ) (r : Result AnyValues SheetFault) → ReadsAnyJob bytes r → answer_of (any_job_of_bytes bytes) ≡ r
read_is bytes (Ok (older_job values)) h = ap answer_of h
read_is bytes (Ok (own_job values)) h = ap answer_of h
read_is bytes (Err (Common (JobUnread cause))) h = ap answer_of h
read_is bytes (Err OwnJob) h = refused_is (any_job_of_bytes bytes) h
read_is bytes (Err other) h = elim h [ ]

reads_single : (bytes : List ℕ) → IsSingle (ReadsAnyJob bytes)
reads_single bytes r s p q = sym (read_is bytes r p) ∙ read_is bytes s q

any_job_single : (files : Files) (name : Option (List ℕ)) → IsSingle (TakesAnyJob files name)
any_job_single files name = single_then (Lifted (TakesJob files name)) ReadsAnyJob (lifted_single (TakesJob files name) (job_bytes_single files name)) reads_single

-- ---- at a number of decimals
never_older : (title : List ℕ) (values : JobValues) (n : ℕ) (e : SheetFault) → SettlesJob title (older_job values) n (Err e) → ⊥
never_older title values n OwnJob h = h
never_older title values n e h = elim h [ ]

own_refused : (title : List ℕ) (values : SheetJobValues) (n : ℕ) (e : SheetFault) → SettlesJob title (own_job values) n (Err e) → (e ≡ OwnJob) × IsTooFarIn n values
own_refused title values n OwnJob h = (refl, h)
own_refused title values n e h = elim h [ ]

settles_single : (title : List ℕ) (values : AnyValues) (n : ℕ) → IsSingle (SettlesJob title values n)
settles_single title (older_job values) n (Ok x) (Ok y) p q = ap Ok (p ∙ sym q)
settles_single title (older_job values) n (Ok x) (Err e) p q = absurd (never_older title values n e q)
settles_single title (older_job values) n (Err d) s p q = absurd (never_older title values n d p)
settles_single title (own_job values) n (Ok x) (Ok y) p q = ap Ok (job_at_one n title values x y p q)
settles_single title (own_job values) n (Ok x) (Err e) p q = let u = own_refused title values n e q in absurd (job_at_near n title values x p u.1)
settles_single title (own_job values) n (Err d) (Ok y) p q = let t = own_refused title values n d p in absurd (job_at_near n title values y q t.1)
settles_single title (own_job values) n (Err d) (Err e) p q =
    let t = own_refused title values n d p in
    let u = own_refused title values n e q in
    ap Err (t.0 ∙ sym u.0)

-- ---- the part
text_or_single : (size : Option (List ℕ)) (files : Files) (name : List ℕ) → IsSingle (TakesTextOr size files name)
text_or_single (Some size) files name = λ r s p q. p ∙ sym q
text_or_single None files name =
    single_then (TakesFile ThePart files name) (λ bytes answer. answer ≡ Ok (file bytes)) (file_single ThePart files name) (λ bytes r s p q. p ∙ sym q)

soup_single : (text : PartText) (n : ℕ) (unit : Length) → IsSingle (ReadsSoup text n unit)
soup_single (sample size) n unit = sample_single size
soup_single (file bytes) n unit = single_then (ReadsText n unit bytes) WeldsPart (text_single n unit bytes) weld_single

solid_single : (text : PartText) (n : ℕ) (unit : Length) → IsSingle (ReadsSolid text n unit)
solid_single text n unit = single_then (ReadsSoup text n unit) ChecksPart (soup_single text n unit) check_single

attempts_single : (title : List ℕ) (values : AnyValues) (text : PartText) (n : ℕ) → IsSingle (Attempts title values text n)
attempts_single title values text n =
    single_then (SettlesJob title values n) (λ job. Lifted (ReadsSolid text n job.unit) and_then λ part r. r ≡ Ok (record { job = job; part = part }))
    (settles_single title values n)
    (λ job. single_then (Lifted (ReadsSolid text n job.unit)) (λ part r. r ≡ Ok (record { job = job; part = part }))
    (lifted_single (ReadsSolid text n job.unit) (solid_single text n job.unit)) (λ part r s p q. p ∙ sym q))

-- ---- several numbers
same_from : (b : Bool) (here later f g : SheetFault) → IsFaultFrom b here later f → IsFaultFrom b here later g → f ≡ g
same_from true here later f g p q = p ∙ sym q
same_from false here later f g p q = p ∙ sym q

module _ {A : Type 0} (try : ℕ → Result A SheetFault → Type 0) (single : (n : ℕ) → IsSingle (try n)) where
  pub fits_single : (n : ℕ) (ns : List ℕ) → IsSingle (Fits try n ns)
  fits_single n [] r s p q = single n r s p q
  fits_single n (m ∷ ns) (Ok x) (Ok y) (inl a) (inl b) = single n (Ok x) (Ok y) a b
  fits_single n (m ∷ ns) (Ok x) (Ok y) (inl a) (inr (e, b, q)) = absurd (not_both x e (single n (Ok x) (Err e) a b))
  fits_single n (m ∷ ns) (Ok x) (Ok y) (inr (e, a, p)) (inl b) = absurd (not_both y e (single n (Ok y) (Err e) b a))
  fits_single n (m ∷ ns) (Ok x) (Ok y) (inr (e, a, p)) (inr (d, b, q)) = fits_single m ns (Ok x) (Ok y) p q
  fits_single n (m ∷ ns) (Ok x) (Err f) (inl a) (here, later, b, q, is) = absurd (not_both x here (single n (Ok x) (Err here) a b))
  fits_single n (m ∷ ns) (Ok x) (Err f) (inr (e, a, p)) (here, later, b, q, is) = absurd (not_both x later (fits_single m ns (Ok x) (Err later) p q))
  fits_single n (m ∷ ns) (Err f) (Ok y) (here, later, a, p, is) (inl b) = absurd (not_both y here (single n (Ok y) (Err here) b a))
  fits_single n (m ∷ ns) (Err f) (Ok y) (here, later, a, p, is) (inr (e, b, q)) = absurd (not_both y later (fits_single m ns (Ok y) (Err later) q p))
  fits_single n (m ∷ ns) (Err f) (Err g) (here, later, a, p, is) (other, last, b, q, so) =
      let at_first : here ≡ other = same_fault here other (single n (Err here) (Err other) a b) in
      let at_last : later ≡ last = same_fault later last (fits_single m ns (Err later) (Err last) p q) in
      let said : IsFaultFrom (is_range here) here last g = subst (λ (e : SheetFault). IsFaultFrom (is_range e) e last g) (sym at_first) so in
      ap Err (same_from (is_range here) here later f g is (subst (λ (e : SheetFault). IsFaultFrom (is_range here) here e g) (sym at_last) said))

fits_by_single : (title : List ℕ) (values : AnyValues) (size : Option (List ℕ)) (text : PartText) → IsSingle (FitsBy title values size text)
fits_by_single title values size text =
    fits_single (Attempts title values text) (attempts_single title values text) (first_by (decimals_of values) size) (others_by (decimals_of values) size)

-- ---- the sheet
draws_text_single : (named : Named) (values : AnyValues) (text : PartText) → IsSingle (DrawsText named values text)
draws_text_single named values text =
    single_then (FitsBy (title_of named.said.title values named.part) values (sample_size named.part) text)
    (λ settled. LaysSheet (wish_of values) settled.job settled.part and_then λ drawn r. r ≡ Ok (record { drawn = drawn; look = look_of named values; wish = wish_of values }))
    (fits_by_single (title_of named.said.title values named.part) values (sample_size named.part) text)
    (λ settled. single_then (LaysSheet (wish_of values) settled.job settled.part) (λ drawn r. r ≡ Ok (record { drawn = drawn; look = look_of named values; wish = wish_of values }))
    (lays_single (wish_of values) settled.job settled.part) (λ drawn r s p q. p ∙ sym q))

draws_by_single : (files : Files) (named : Named) (values : AnyValues) → IsSingle (DrawsBy files named values)
draws_by_single files named values =
    single_then (SettlesBy (title_of named.said.title values named.part) values (sample_size named.part))
    (λ job. Lifted (TakesText files named.part) and_then λ text. DrawsText named values text)
    (settles_single (title_of named.said.title values named.part) values (last_by (decimals_of values) (sample_size named.part)))
    (λ job. single_then (Lifted (TakesText files named.part)) (λ text. DrawsText named values text)
    (lifted_single (TakesText files named.part) (text_or_single (sample_size named.part) files named.part)) (draws_text_single named values))

pub draws_sheet_single : (files : Files) (named : Named) → IsSingle (DrawsSheet files named)
draws_sheet_single files named = single_then (TakesAnyJob files named.job) (DrawsBy files named) (any_job_single files named.job) (draws_by_single files named)
