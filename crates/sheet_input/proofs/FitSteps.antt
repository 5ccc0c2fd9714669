-- What a job and a part's text give at a number of decimals, and at the first number that fits, what they refuse, and what is told beside it.
use Rattle.std.proofs.Common.{◌≡◌, ◌⊎◌, inl, inr, ℕ, suc, ◌-◌, ◌<◌, ◌≤◌, nat_lt, Bool, true, false, true≢false, List, [], ◌∷◌, length, take, drop, slice_index_or, Option, Some, None, refl, sym, ap, subst, arith}
use Rattle.std.proofs.lemmas.List.{take_all}
use Rattle.std.specs.List.{All}
use Rattle.std.specs.Prelude.{Result, Ok, Err, IfErr}
use Rattle.answers_unique.proofs.OneFault.{none_sound}
use Rattle.dec_text.specs.declared.number.Length.{Length}
use Rattle.geometry.specs.Parts.{Part}
use Rattle.job_file.specs.Documents.{JobValues}
use Rattle.job_file.specs.Seen.{job_seen}
use Rattle.job_file.specs.declared.job.Job.{Job}
use Rattle.part_input.proofs.SoundSamples.{sample_is_sound}
use Rattle.part_input.specs.Parts.{ChecksPart, IsOfSampleOr}
use Rattle.part_input.specs.Steps.{RefusesOf}
use Rattle.part_input.specs.declared.fault.Fault.TheVariants.{ReadFault, Part as PartUnread, Mesh, WriteFault, Memory}
use Rattle.sheet_job.specs.JobsAt.{IsJobAt}
use Rattle.sheet_job.specs.SheetSeen.{sheet_job_seen}
use Rattle.sheet_job.specs.declared.any.AnyJob.{AnyJob}
use Rattle.sheet_job.specs.declared.any.AnyJob.TheVariants as job
use Rattle.sheet_job.specs.declared.job.SheetJob.{SheetJob}
use Rattle.sheet_input.specs.Answers.{GivesSheet}
use Rattle.sheet_input.specs.Faults.{sheet_faults}
use Rattle.sheet_input.specs.Fits.{Settled, Attempts, Fits, IsFaultAt, IsFaultFrom, IsHereOr, SettlesBy, first_by, is_range, last_by, others_by}
use Rattle.sheet_input.specs.Jobs.{Lifted, older_job, titled}
use Rattle.sheet_input.specs.Seen.{any_seen}
use Rattle.sheet_input.specs.Texts.{PartText, ReadsSoup, file, sample}
use Rattle.sheet_input.specs.declared.fault.SheetFault.{SheetFault}
use Rattle.sheet_input.specs.declared.fault.SheetFault.TheVariants.{Common, OwnJob, NoRoom}
use Rattle.sheet_input.specs.declared.refusal.Refusal.{Refusal}
use Rattle.sheet_input.specs.declared.refusal.Told.{Told}
use Rattle.sheet_input.specs.inner.Taking.{is_short, size_in, IsOfFit, IsOfMeshIn, IsOfSolidIn, IsToldAt, IsToldFit, IsToldText}

-- ---- a part, checked
want_of_part : (size : Option (List ℕ)) → IsOfSampleOr size Memory
want_of_part None = tt
want_of_part (Some size) = tt

-- the part of a sample is sound
sound_fault : (text : PartText) (decimals : ℕ) (unit : Length) (part : Part) → ReadsSoup text decimals unit (Ok part) → (e : SheetFault) → IsOfMeshIn e → RefusesOf sheet_faults (Lifted (ChecksPart part)) e → IsOfSolidIn text e
sound_fault (sample size) decimals unit part reads (Common (Mesh fault)) h (other, same, has) = absurd (none_sound part other has (sample_is_sound size part reads))
sound_fault (file bytes) decimals unit part reads (Common (Mesh fault)) h refused = (tt, tt)
sound_fault text decimals unit part reads (Common Memory) h refused = (want_of_part (size_in text), tt)
sound_fault text decimals unit part reads (Common fault) h refused = absurd h
sound_fault text decimals unit part reads e h refused = absurd h

pub sound_of_solid : {X : Type 0} (view : X → Part) (text : PartText) (decimals : ℕ) (unit : Length) (part : Part) → ReadsSoup text decimals unit (Ok part) → (r : Result X Refusal) → IfErr r (λ r. IsOfMeshIn r.fault)
    → GivesSheet view (Lifted (ChecksPart part)) r → IfErr r (λ r. IsOfSolidIn text r.fault)
sound_of_solid view text decimals unit part reads (Ok x) h given = tt
sound_of_solid view text decimals unit part reads (Err r) h given = sound_fault text decimals unit part reads r.fault h given

-- ---- of one number, or of several
module _ (title : List ℕ) (any : AnyJob) (text : PartText) where
  abbrev Tries : ℕ → Result Settled SheetFault → Type 0
  Tries n r = Attempts title (any_seen any) text n r

  -- of a number that is the last one
  pub told_last : (n : ℕ) (e : SheetFault) (told : Told) → RefusesOf sheet_faults (Tries n) e → IsToldAt any text n e told → IsToldFit title any text n [] e told
  told_last n OwnJob told refused h = record { number = n; tells = (refl, refused); there = h }
  told_last n (Common (PartUnread fault)) told refused h = record { number = n; tells = (refl, refused); there = h }
  told_last n (Common (Mesh fault)) told refused h = record { number = n; tells = (refl, refused); there = h }
  told_last n (Common fault) told refused h = h
  told_last n e told refused h = h

  module _ (n m : ℕ) (ns : List ℕ) (here : SheetFault) (refused : Tries n (Err here)) where
    later_at : (number : ℕ) (e : SheetFault) → is_range here ≡ true → IsFaultAt Tries m ns number e → IsFaultAt Tries n (m ∷ ns) number e
    later_at number e range at = (here, refused, subst (λ (b : Bool). IsHereOr b n number here e (IsFaultAt Tries m ns number e)) (sym range) at)

    -- where this one isn't in range, of a later one
    pub told_later : (e : SheetFault) (told : Told) → is_range here ≡ true → IsToldFit title any text m ns e told → IsToldFit title any text n (m ∷ ns) e told
    told_later OwnJob told range h = record { number = h.number; tells = later_at h.number OwnJob range h.tells; there = h.there }
    told_later (Common (PartUnread fault)) told range h = record { number = h.number; tells = later_at h.number (Common (PartUnread fault)) range h.tells; there = h.there }
    told_later (Common (Mesh fault)) told range h = record { number = h.number; tells = later_at h.number (Common (Mesh fault)) range h.tells; there = h.there }
    told_later (Common fault) told range h = h
    told_later e told range h = h

    here_at : is_range here ≡ false → IsFaultAt Tries n (m ∷ ns) n here
    here_at within = (here, refused, subst (λ (b : Bool). IsHereOr b n n here here (IsFaultAt Tries m ns n here)) (sym within) (refl, refl))

  -- where this one is in range, of it
  pub told_here : (n m : ℕ) (ns : List ℕ) (here : SheetFault) (told : Told) → Tries n (Err here) → is_range here ≡ false → IsToldAt any text n here told → IsToldFit title any text n (m ∷ ns) here told
  told_here n m ns OwnJob told refused within h = record { number = n; tells = here_at n m ns OwnJob refused within; there = h }
  told_here n m ns (Common (PartUnread fault)) told refused within h = record { number = n; tells = here_at n m ns (Common (PartUnread fault)) refused within; there = h }
  told_here n m ns (Common (Mesh fault)) told refused within h = record { number = n; tells = here_at n m ns (Common (Mesh fault)) refused within; there = h }
  told_here n m ns (Common fault) told refused within h = h
  told_here n m ns e told refused within h = h

  -- nothing is told of want of memory
  pub short_told : (first other : ℕ) (others rest : List ℕ) (e : SheetFault) (told : Told) → is_short e ≡ true → IsToldFit title any text first others e told → IsToldFit title any text other rest e told
  short_told first other others rest (Common Memory) told short h = h
  short_told first other others rest (Common fault) told short h = absurd (true≢false (sym short))
  short_told first other others rest e told short h = absurd (true≢false (sym short))

-- of an older job, at its own number
module _ (title : List ℕ) (j : Job) (made : JobValues) (is : made ≡ titled title (job_seen j)) (text : PartText) where
  older_at : (e : SheetFault) (told : Told) → IsToldText text j.decimals j.unit (nat_lt j.decimals 6) e told → IsToldAt (job.Older j) text j.decimals e told
  older_at OwnJob told h = absurd h
  older_at e told h = h

  pub older_told : (more : Bool) → more ≡ nat_lt made.decimals 6 → (e : SheetFault) (told : Told) → RefusesOf sheet_faults (Attempts title (older_job (job_seen j)) text j.decimals) e → IsToldText text made.decimals made.unit more e told
      → IsToldFit title (job.Older j) text j.decimals [] e told
  older_told more most e told refused h =
      let at : IsToldText text made.decimals made.unit (nat_lt made.decimals 6) e told = subst (λ (b : Bool). IsToldText text made.decimals made.unit b e told) most h in
      told_last title (job.Older j) text j.decimals e told refused (older_at e told (subst (λ (v : JobValues). IsToldText text v.decimals v.unit (nat_lt v.decimals 6) e told) is at))

pub none_left : (xs : List ℕ) → length xs < 1 → xs ≡ []
none_left [] h = refl
none_left (x ∷ xs) h = absurd (omega (arith, h))

-- ---- several numbers
-- a fault that isn't want of memory is that of the number
pub refused_there : {A : Type 0} (steps : Result A SheetFault → Type 0) (text : PartText) (e : SheetFault) → IsOfFit text e → is_short e ≡ false → RefusesOf sheet_faults steps e → steps (Err e)
refused_there steps text OwnJob of long h = h
refused_there steps text (Common (ReadFault input)) of long h = absurd of.1
refused_there steps text (Common (WriteFault target)) of long h = absurd of.1
refused_there steps text (Common Memory) of long h = absurd (true≢false long)
refused_there steps text (Common fault) of long h = h
refused_there steps text e of long h = absurd of

pub want_refused : {A : Type 0} (steps : Result A SheetFault → Type 0) (e : SheetFault) → is_short e ≡ true → RefusesOf sheet_faults steps e
want_refused steps (Common Memory) short = tt
want_refused steps (Common fault) short = absurd (true≢false (sym short))
want_refused steps e short = absurd (true≢false (sym short))

pub refused_of : {A : Type 0} (steps : Result A SheetFault → Type 0) (e : SheetFault) → steps (Err e) → RefusesOf sheet_faults steps e
refused_of steps OwnJob h = h
refused_of steps (NoRoom lack) h = h
refused_of steps (Common (ReadFault input)) h = tt
refused_of steps (Common (WriteFault target)) h = tt
refused_of steps (Common Memory) h = tt
refused_of steps (Common fault) h = h
refused_of steps e h = tt

module _ {A : Type 0} (try : ℕ → Result A SheetFault → Type 0) (n : ℕ) where
  pub fits_here : (others : List ℕ) (x : A) → try n (Ok x) → Fits try n others (Ok x)
  fits_here [] x h = h
  fits_here (m ∷ ns) x h = inl h

  module _ (here : SheetFault) (refused : try n (Err here)) (m : ℕ) (ns : List ℕ) where
    pub fits_after : (x : A) → Fits try m ns (Ok x) → Fits try n (m ∷ ns) (Ok x)
    fits_after x h = inr (here, refused, h)

    pub later_fault : is_range here ≡ true → (later : SheetFault) → Fits try m ns (Err later) → Fits try n (m ∷ ns) (Err later)
    later_fault range later h = (here, later, refused, h, subst (λ (b : Bool). IsFaultFrom b here later later) (sym range) refl)

    pub first_fault : is_range here ≡ false → (later : SheetFault) → Fits try m ns (Err later) → Fits try n (m ∷ ns) (Err here)
    first_fault within later h = (here, later, refused, h, subst (λ (b : Bool). IsFaultFrom b here later here) (sym within) refl)

-- ---- the last number
module _ (title : List ℕ) (size : Option (List ℕ)) (any : AnyJob) where
  pub older_passes : (j : Job) → any ≡ job.Older j → (values : JobValues) × SettlesBy title (any_seen any) size (Ok values)
  older_passes j is = subst (λ (a : AnyJob). (values : JobValues) × SettlesBy title (any_seen a) size (Ok values)) (sym is) (titled title (job_seen j), refl)

  pub own_passes : (j : SheetJob) → any ≡ job.Own j → (n : ℕ) → n ≡ last_by j.decimals size → (values : JobValues) → IsJobAt n title (sheet_job_seen j) values → (values : JobValues) × SettlesBy title (any_seen any) size (Ok values)
  own_passes j is n same values h =
      subst (λ (a : AnyJob). (values : JobValues) × SettlesBy title (any_seen a) size (Ok values)) (sym is) (values, subst (λ (m : ℕ). IsJobAt m title (sheet_job_seen j) values) same h)

-- ---- numbers that are tried in order
pub front : (xs : List ℕ) → 1 ≤ length xs → slice_index_or xs 0 0 ∷ take (length xs - 1) (drop 1 xs) ≡ xs
front [] some = absurd (omega arith)
front (x ∷ xs) some = ap (λ (l : List ℕ). x ∷ l) (take_all (suc (length xs) - 1) xs (omega arith))

pub few_rest : (P : ℕ → Type 0) (xs : List ℕ) → 1 ≤ length xs → All P xs → All P (take (length xs - 1) (drop 1 xs))
few_rest P [] some all = absurd (omega arith)
few_rest P (x ∷ xs) some all = subst (λ (l : List ℕ). All P l) (sym (take_all (suc (length xs) - 1) xs (omega arith))) (λ k d within. all (suc k) d (omega (arith, within)))

pub fewer : (xs : List ℕ) → 1 ≤ length xs → length (take (length xs - 1) (drop 1 xs)) < length xs
fewer [] some = absurd (omega arith)
fewer (x ∷ xs) some = omega (arith, ap length (take_all (suc (length xs) - 1) xs (omega arith)))

-- of the refusal here and the later one the answer is the later one, if memory ran out there, or the job or the part is out of range here
module _ {A : Type 0} (try : ℕ → Result A SheetFault → Type 0) (text : PartText) (n m : ℕ) (ns : List ℕ) (here later : SheetFault)
    (of_here : IsOfFit text here) (here_told : is_short here ≡ false) (refused_here : RefusesOf sheet_faults (try n) here) (refused_later : RefusesOf sheet_faults (Fits try m ns) later) where
  pub later_refused : (is_short later ≡ true) ⊎ (is_range here ≡ true) → IsOfFit text later → RefusesOf sheet_faults (Fits try n (m ∷ ns)) later
  later_refused (inl short) of_later = want_refused (Fits try n (m ∷ ns)) later short
  later_refused (inr range) of_later = by (is_short later) refl
    where
      by : (b : Bool) → is_short later ≡ b → RefusesOf sheet_faults (Fits try n (m ∷ ns)) later
      by true short = want_refused (Fits try n (m ∷ ns)) later short
      by false long =
          refused_of (Fits try n (m ∷ ns)) later
          (later_fault try n here (refused_there (try n) text here of_here here_told refused_here) m ns range later (refused_there (Fits try m ns) text later of_later long refused_later))

  pub here_refused : is_short later ≡ false → is_range here ≡ false → IsOfFit text later → RefusesOf sheet_faults (Fits try n (m ∷ ns)) here
  here_refused long within of_later =
      refused_of (Fits try n (m ∷ ns)) here
      (first_fault try n here (refused_there (try n) text here of_here here_told refused_here) m ns within later (refused_there (Fits try m ns) text later of_later long refused_later))

-- ---- by the number of the job, and the size of a sample
module _ (P : ℕ → List ℕ → Type 0) (decimals : Option ℕ) (size : Option (List ℕ)) where
  pub by_number : (n : ℕ) → decimals ≡ Some n → P n [] → P (first_by decimals size) (others_by decimals size)
  by_number n is h = subst (λ (d : Option ℕ). P (first_by d size) (others_by d size)) (sym is) h

  pub by_sample : (s : List ℕ) → decimals ≡ None → size ≡ Some s → P 3 [] → P (first_by decimals size) (others_by decimals size)
  by_sample s none is h =
      subst (λ (d : Option ℕ). P (first_by d size) (others_by d size)) (sym none) (subst (λ (o : Option (List ℕ)). P (first_by None o) (others_by None o)) (sym is) h)

  pub by_file : decimals ≡ None → size ≡ None → P 6 (5 ∷ 4 ∷ 3 ∷ 2 ∷ []) → P (first_by decimals size) (others_by decimals size)
  by_file none is h =
      subst (λ (d : Option ℕ). P (first_by d size) (others_by d size)) (sym none) (subst (λ (o : Option (List ℕ)). P (first_by None o) (others_by None o)) (sym is) h)
