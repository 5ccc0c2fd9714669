-- Which faults are whose, and a fault of reading is that of a missing file.
use Rattle.std.proofs.Common.{◌≡◌, ℕ, List, Option, Some, None, IsSome, Result, Ok, Err, inl, refl, sym, subst}
use Rattle.std.specs.Prelude.{◌↔◌, IfErr, IsErrOf}
use Rattle.dec_text.specs.declared.number.Length.{Length}
use Rattle.desk.specs.Files.{Files}
use Rattle.part_input.specs.Jobs.{TakesReadJob, IsOfJobFile}
use Rattle.geometry.specs.Parts.{Part}
use Rattle.part_input.specs.Parts.{sample_size, ChecksPart, TakesSoupOr, TakesSoup, TakesSolid, IsOfSoupOr, IsOfSoup, IsOfSampleOr, IsOfPart}
use Rattle.part_input.specs.Steps.{GivesInput, IsMissing, Refuses}
use Rattle.part_input.specs.inner.Texts.{IsOfMesh}
use Rattle.part_input.specs.declared.fault.Input.{Input}
use Rattle.part_input.specs.declared.fault.Input.TheVariants.{Job as TheJob, Part as ThePart}
use Rattle.part_input.specs.declared.fault.Fault.{Fault}
use Rattle.part_input.specs.declared.fault.Fault.TheVariants.{ReadFault, PartTooLong, Part as PartUnread, Nothing, Mesh, WriteFault, Memory}
use Rattle.answers_unique.proofs.OneFault.{none_sound}
use Rattle.part_input.proofs.SoundSamples.{sample_is_sound}
use Rattle.part_input.proofs.Answered.{IsOfNoDesk, IsOfNoWriting}

-- ---- jobs
module _ {X : Type 0} (files : Files) (name : List ℕ) where
  pub job_not_written : (r : Result X Fault) → IfErr r IsOfJobFile → IfErr r IsOfNoWriting
  job_not_written (Ok x) h = tt
  job_not_written (Err (WriteFault target)) h = absurd h
  job_not_written (Err e) h = tt

  -- a fault of reading is that of a missing file
  pub job_missing : (r : Result X Fault) → IfErr r IsOfJobFile → IsErrOf r (ReadFault TheJob) ↔ (files name ≡ None) → IfErr r (IsMissing (TakesReadJob files (Some name)))
  job_missing (Ok x) h m = tt
  job_missing (Err (ReadFault TheJob)) h m = inl (inl (refl, m.0 refl))
  job_missing (Err (ReadFault ThePart)) h m = absurd h
  job_missing (Err e) h m = tt

-- ---- parts
-- a fault of reading a part is one of the part, and of a file
pub no_job : (size : Option (List ℕ)) → IsOfSampleOr size (ReadFault TheJob) → ⊥
no_job None h = h
no_job (Some size) h = h

pub no_size : (size : Option (List ℕ)) (which : Input) → IsOfSampleOr size (ReadFault which) → size ≡ None
no_size None which h = refl
no_size (Some size) which h = absurd h

no_writing : (size : Option (List ℕ)) (target : _) → IsOfSampleOr size (WriteFault target) → ⊥
no_writing None target h = h
no_writing (Some size) target h = h

-- a fault before the check, and one of the check, is a fault of the part
soup_in_part : (size : Option (List ℕ)) (e : Fault) → IsOfSoupOr size e → IsOfSampleOr size e
soup_in_part None (ReadFault TheJob) h = absurd h
soup_in_part None (ReadFault ThePart) h = tt
soup_in_part None PartTooLong h = tt
soup_in_part None (PartUnread cause) h = tt
soup_in_part None Nothing h = tt
soup_in_part None Memory h = tt
soup_in_part None e h = absurd h
soup_in_part (Some size) e h = h

-- the part of a sample is sound, so its check has no fault of a surface
module _ (name : List ℕ) (decimals : ℕ) (unit : Length) (part : Part) where
  checked_in : (size : Option (List ℕ)) → (IsSome size → (files : Files) → TakesSoupOr size files name decimals unit (Ok part)) → (e : Fault) → IsOfMesh e → Refuses (ChecksPart part) e → IsOfSampleOr size e
  checked_in None made (Mesh fault) h refused = tt
  checked_in None made Memory h refused = tt
  checked_in (Some size) made (Mesh fault) h (other, same, has) = absurd (none_sound part other has (sample_is_sound size part (made refl (λ file. None))))
  checked_in (Some size) made Memory h refused = tt
  checked_in size made e h refused = absurd h

  pub checked_of_part : {X : Type 0} (view : X → Part) → (IsSome (sample_size name) → (files : Files) → TakesSoup files name decimals unit (Ok part)) → (r : Result X Fault) → IfErr r IsOfMesh
      → GivesInput view (ChecksPart part) r → IfErr r (IsOfPart name)
  checked_of_part view made (Ok x) h given = tt
  checked_of_part view made (Err e) h given = checked_in (sample_size name) made e h given

-- the check is no fault of the desk
pub mesh_no_desk : {X : Type 0} (r : Result X Fault) → IfErr r IsOfMesh → IfErr r IsOfNoDesk
mesh_no_desk (Ok x) h = tt
mesh_no_desk (Err (ReadFault input)) h = absurd h
mesh_no_desk (Err (WriteFault target)) h = absurd h
mesh_no_desk (Err e) h = tt

module _ (files : Files) (name : List ℕ) where
  pub of_soup : (e : Fault) → IsOfSoup name e → IsOfPart name e
  of_soup e h = soup_in_part (sample_size name) e h

  module _ {X : Type 0} where
    pub soups : (r : Result X Fault) → IfErr r (IsOfSoup name) → IfErr r (IsOfPart name)
    soups (Ok x) h = tt
    soups (Err e) h = of_soup e h

    pub part_not_written : (r : Result X Fault) → IfErr r (IsOfPart name) → IfErr r IsOfNoWriting
    part_not_written (Ok x) h = tt
    part_not_written (Err (WriteFault target)) h = absurd (no_writing (sample_size name) target h)
    part_not_written (Err e) h = tt

    abbrev pub IsMissingFile : Result X Fault → Type 0
    IsMissingFile r = IsErrOf r (ReadFault ThePart) ↔ ((sample_size name ≡ None) × (files name ≡ None))

    pub soup_missing : (decimals : ℕ) (unit : Length) (r : Result X Fault) → IfErr r (IsOfPart name) → IsMissingFile r → IfErr r (IsMissing (TakesSoup files name decimals unit))
    soup_missing decimals unit (Ok x) h m = tt
    soup_missing decimals unit (Err (ReadFault ThePart)) h m =
        let (none, missing) = m.0 refl in
        subst (λ (size : Option (List ℕ)). TakesSoupOr size files name decimals unit (Err (ReadFault ThePart))) (sym none) (inl (inl (refl, missing)))
    soup_missing decimals unit (Err (ReadFault TheJob)) h m = absurd (no_job (sample_size name) h)
    soup_missing decimals unit (Err e) h m = tt

    pub solid_missing : (decimals : ℕ) (unit : Length) (r : Result X Fault) → IfErr r (IsOfPart name) → IsMissingFile r → IfErr r (IsMissing (TakesSolid files name decimals unit))
    solid_missing decimals unit (Ok x) h m = tt
    solid_missing decimals unit (Err (ReadFault ThePart)) h m = inl (soup_missing decimals unit (Err (ReadFault ThePart)) h m)
    solid_missing decimals unit (Err (ReadFault TheJob)) h m = absurd (no_job (sample_size name) h)
    solid_missing decimals unit (Err e) h m = tt
