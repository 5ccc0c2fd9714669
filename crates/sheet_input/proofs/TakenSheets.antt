-- What the taking of a sheet refuses and tells, by what its job and its part were taken from.
use Rattle.std.proofs.Common.{◌≡◌, inl, inr, ℕ, List, Option, Some, None, true, IsSome, refl, ap, subst, ◌∙◌}
use Rattle.std.specs.Prelude.{Result, Ok, Err, IfErr}
use Rattle.desk.specs.Files.{Files, DeskState, OnlyReads}
use Rattle.part_input.proofs.Missing.{no_job, no_size}
use Rattle.part_input.specs.Parts.{sample_size}
use Rattle.part_input.specs.declared.fault.Fault.TheVariants.{ReadFault, Part as PartUnread, Mesh}
use Rattle.part_input.specs.declared.fault.Input.TheVariants.{Job as TheJob, Part as ThePart}
use Rattle.sheet_job.specs.declared.any.AnyJob.{AnyJob}
use Rattle.sheet_job.specs.declared.any.AnyJob.TheVariants as job
use Rattle.sheet_words.specs.Names.{Named}
use Rattle.sheet_input.specs.Answers.{IsOfAnyJob, IsOfFiles, ReadsInOrder}
use Rattle.sheet_input.specs.Jobs.{AnyValues, TakesAnyJob, unit_of}
use Rattle.sheet_input.specs.Places.{IsPartAt, IsTextAt, IsToldFor}
use Rattle.sheet_input.specs.Seen.{any_seen}
use Rattle.sheet_input.specs.declared.fault.SheetFault.{SheetFault}
use Rattle.sheet_input.specs.declared.fault.SheetFault.TheVariants.{Common, OwnJob, NoRoom}
use Rattle.sheet_input.specs.declared.refusal.Refusal.{Refusal}
use Rattle.sheet_input.specs.declared.refusal.Told.{Told}
use Rattle.sheet_input.specs.declared.refusal.Told.TheVariants.{Text, Surface, Job as JobTold}
use Rattle.sheet_input.specs.inner.Taking.{IsJobTaken, IsOfDrawn, IsSettledIfRead, IsToldBy, IsToldTaken}
use Rattle.sheet_input.proofs.UsualJob.{no_files, not_own, usual_read}

-- ---- whose faults they are
any_of_files : (part : List ℕ) (name : Option (List ℕ)) (e : SheetFault) → IsOfAnyJob name e → IsOfFiles part name e
any_of_files part name (Common fault) h = inl h
any_of_files part (Some name) OwnJob h = refl
any_of_files part None OwnJob h = absurd h
any_of_files part None e h = absurd h
any_of_files part (Some name) e h = absurd h

pub job_of_files : {X : Type 0} (part : List ℕ) (name : Option (List ℕ)) (r : Result X Refusal) → IfErr r (λ r. IsOfAnyJob name r.fault) → IfErr r (λ r. IsOfFiles part name r.fault)
job_of_files part name (Ok x) h = tt
job_of_files part name (Err r) h = any_of_files part name r.fault h

-- a flaw is one of a job of version 3, which is named
module _ (old : DeskState) (named : Named) where
  named_own : (name : Option (List ℕ)) (any : AnyJob) → (name ≡ None → (files : Files) → TakesAnyJob files name (Ok (any_seen any))) → (told : Told) → IsToldBy old named any OwnJob told → IsSome name
  named_own (Some name) any usual told h = refl
  named_own None (job.Older j) usual told h = absurd h
  named_own None (job.Own j) usual told h = absurd (not_own _ (usual_read (any_seen (job.Own j)) (usual refl no_files)))

  drawn_of : (name : Option (List ℕ)) (any : AnyJob) → (name ≡ None → (files : Files) → TakesAnyJob files name (Ok (any_seen any))) → (e : SheetFault) (told : Told) → IsOfDrawn named.part e
      → IsToldBy old named any e told → IsOfFiles named.part name e
  drawn_of name any usual (Common fault) told of h = inr of
  drawn_of name any usual OwnJob told of h = named_own name any usual told h
  drawn_of name any usual (NoRoom lack) told of h = tt
  drawn_of name any usual e told of h = absurd of

  pub drawn_of_files : {X : Type 0} (name : Option (List ℕ)) (any : AnyJob) → (name ≡ None → (files : Files) → TakesAnyJob files name (Ok (any_seen any))) → (r : Result X Refusal)
      → IfErr r (λ r. IsOfDrawn named.part r.fault) → IfErr r (λ r. IsToldBy old named any r.fault r.told) → IfErr r (λ r. IsOfFiles named.part name r.fault)
  drawn_of_files name any usual (Ok x) of h = tt
  drawn_of_files name any usual (Err r) of h = drawn_of name any usual r.fault r.told of h

-- ---- the order of reading
is_named : (name : Option (List ℕ)) → IsOfAnyJob name (Common (ReadFault TheJob)) → IsSome name
is_named None h = absurd h
is_named (Some name) h = refl

no_part : (name : Option (List ℕ)) → IsOfAnyJob name (Common (ReadFault ThePart)) → ⊥
no_part None h = h
no_part (Some name) h = h

module _ (files : Files) (named : Named) where
  any_in_order : (e : SheetFault) → IsOfAnyJob named.job e → ReadsInOrder files named e
  any_in_order (Common (ReadFault TheJob)) h = is_named named.job h
  any_in_order (Common (ReadFault ThePart)) h = absurd (no_part named.job h)
  any_in_order e h = tt

  pub job_in_order : {X : Type 0} (r : Result X Refusal) → IfErr r (λ r. IsOfAnyJob named.job r.fault) → IfErr r (λ r. ReadsInOrder files named r.fault)
  job_in_order (Ok x) h = tt
  job_in_order (Err r) h = any_in_order r.fault h

  drawn_in_order_of : (values : AnyValues) → TakesAnyJob files named.job (Ok values) → (e : SheetFault) → IsOfDrawn named.part e → IsSettledIfRead named values e → ReadsInOrder files named e
  drawn_in_order_of values taken (Common (ReadFault ThePart)) h settles = (no_size (sample_size named.part) ThePart h, values, taken, settles.0, settles.1)
  drawn_in_order_of values taken (Common (ReadFault TheJob)) h settles = absurd (no_job (sample_size named.part) h)
  drawn_in_order_of values taken e h settles = tt

  pub drawn_in_order : {X : Type 0} (values : AnyValues) → TakesAnyJob files named.job (Ok values) → (r : Result X Refusal) → IfErr r (λ r. IsOfDrawn named.part r.fault)
      → IfErr r (λ r. IsSettledIfRead named values r.fault) → IfErr r (λ r. ReadsInOrder files named r.fault)
  drawn_in_order values taken (Ok x) h settles = tt
  drawn_in_order values taken (Err r) h settles = drawn_in_order_of values taken r.fault h settles

-- ---- after the job was taken
-- the desk holds what it held
module _ (old between : DeskState) (same : OnlyReads old between) where
  pub same_files : between.files ≡ old.files
  same_files = ap (λ (s : DeskState). s.files) same

  pub still_tells : old.tells ≡ true → between.tells ≡ true
  still_tells tells = ap (λ (s : DeskState). s.tells) same ∙ tells

  pub still_steady : old.steady ≡ true → between.steady ≡ true
  still_steady steady = ap (λ (s : DeskState). s.steady) same ∙ steady

-- ---- what is told
any_no_mesh : (name : Option (List ℕ)) (fault : _) → IsOfAnyJob name (Common (Mesh fault)) → ⊥
any_no_mesh None fault h = h
any_no_mesh (Some name) fault h = h

any_no_text : (name : Option (List ℕ)) (fault : _) → IsOfAnyJob name (Common (PartUnread fault)) → ⊥
any_no_text None fault h = h
any_no_text (Some name) fault h = h

module _ (old : DeskState) (named : Named) where
  taken_told : (e : SheetFault) (told : Told) → IsOfAnyJob named.job e → IsToldTaken old named.job e told → IsToldFor named old e told
  taken_told (Common (PartUnread fault)) told of h = absurd (any_no_text named.job fault of)
  taken_told (Common (Mesh fault)) told of h = absurd (any_no_mesh named.job fault of)
  taken_told OwnJob (JobTold flaw) of h = λ tells. let (bytes, took, is) = h tells in (bytes, took, inl is)
  taken_told OwnJob told of h = absurd h
  taken_told e told of h = h

  pub job_told_for : {X : Type 0} (r : Result X Refusal) → IfErr r (λ r. IsOfAnyJob named.job r.fault) → IfErr r (λ r. IsToldTaken old named.job r.fault r.told) → IfErr r (λ r. IsToldFor named old r.fault r.told)
  job_told_for (Ok x) of h = tt
  job_told_for (Err r) of h = taken_told r.fault r.told of h

  -- the job was taken before the part
  module _ (between : DeskState) (same : OnlyReads old between) where
    told_before : (any : AnyJob) → IsJobTaken old named.job any → (e : SheetFault) (told : Told) → IsToldBy between named any e told → IsToldFor named old e told
    told_before (job.Own j) taken OwnJob (JobTold flaw) first = λ tells.
        let (bytes, took, is) = taken tells in
        (bytes, took, inr (record { job = j; says = is.reads; placed = is.placed; first = first }))
    told_before (job.Own j) taken OwnJob told h = absurd h
    told_before (job.Older j) taken OwnJob told h = absurd h
    told_before any taken (Common (PartUnread fault)) (Text hint) h = record {
      bytes = h.bytes;
      decimals = h.decimals;
      unit = unit_of (any_seen any);
      helps = h.helps;
      of_files = λ tells.
          let (bytes, took, is) = taken tells in
          let at : IsTextAt named old.files (any_seen any) fault h.bytes h.decimals =
          subst (λ (files : Files). IsTextAt named files (any_seen any) fault h.bytes h.decimals) (same_files old between same) (h.of_files (still_tells old between same tells)) in
          (any_seen any, (bytes, took, is.reads), at, refl);
    }
    told_before any taken (Common (PartUnread fault)) told h = absurd h
    told_before any taken (Common (Mesh fault)) (Surface place) h = record {
      part = h.part;
      has = h.has;
      there = h.there;
      of_files = λ tells.
          let (bytes, took, is) = taken tells in
          let at : IsPartAt named old.files (any_seen any) fault h.part place.decimals =
          subst (λ (files : Files). IsPartAt named files (any_seen any) fault h.part place.decimals) (same_files old between same) (h.of_files (still_tells old between same tells)) in
          (any_seen any, (bytes, took, is.reads), at, h.may);
    }
    told_before any taken (Common (Mesh fault)) told h = absurd h
    told_before any taken e told h = h

    pub drawn_told_for : {X : Type 0} (any : AnyJob) → IsJobTaken old named.job any → (r : Result X Refusal) → IfErr r (λ r. IsToldBy between named any r.fault r.told) → IfErr r (λ r. IsToldFor named old r.fault r.told)
    drawn_told_for any taken (Ok x) h = tt
    drawn_told_for any taken (Err r) h = told_before any taken r.fault r.told h
