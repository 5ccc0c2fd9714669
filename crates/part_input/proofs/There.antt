-- A file that is there is no fault of reading.
use Rattle.std.proofs.Common.{◌≡◌, ℕ, Bool, true, false, true≢false, List, Option, Some, None, is_some, IsSome, Result, Err, inl, inr, refl, sym, ap, ◌∙◌}
use Rattle.dec_text.specs.declared.number.Length.{Length}
use Rattle.desk.specs.Files.{Files}
use Rattle.part_input.specs.Jobs.{too_long, TakesFile, TakesJob, HasJobFile}
use Rattle.part_input.specs.Parts.{ReadsText, WeldsPart, ReadsPart, ChecksPart, sample_size, TakesSoupOr, TakesSoup, TakesSolid, HasSampleOr}
use Rattle.part_input.specs.Steps.{◌and_then◌}
use Rattle.part_input.specs.declared.fault.Input.{Input}
use Rattle.part_input.specs.declared.fault.Input.TheVariants.{Job as TheJob, Part as ThePart}
use Rattle.part_input.specs.declared.fault.Fault.{Fault}
use Rattle.part_input.specs.declared.fault.Fault.TheVariants.{ReadFault, SampleRange, Part as PartUnread, Nothing, Mesh}

-- steps in order don't come to this fault where none of them does
pub never_then : {A B F : Type 0} (first : Result A F → Type 0) (next : A → Result B F → Type 0) (e : F) → (first (Err e) → ⊥) → ((x : A) → next x (Err e) → ⊥) → (first and_then next) (Err e) → ⊥
never_then first next e f n (inl h) = f h
never_then first next e f n (inr (x, _, h)) = n x h

abbrev pub is_read : Fault → Bool
is_read (ReadFault input) = true
is_read e = false

-- a fault of reading is no other
pub not_read : (input : Input) (e : Fault) → is_read e ≡ false → ReadFault input ≡ e → ⊥
not_read input e other same = true≢false (ap is_read same ∙ other)

module _ (files : Files) (input : Input) where
  file_there : (which : Input) (name : List ℕ) → IsSome (files name) → TakesFile which files name (Err (ReadFault input)) → ⊥
  file_there which name there (inl (_, none)) = let no : false ≡ true = ap is_some (sym none) ∙ there in true≢false (sym no)
  file_there TheJob name there (inr (e, long)) = not_read input (too_long TheJob) refl e
  file_there ThePart name there (inr (e, long)) = not_read input (too_long ThePart) refl e

  pub job_there : (name : Option (List ℕ)) → HasJobFile files name → TakesJob files name (Err (ReadFault input)) → ⊥
  job_there None there h = h
  job_there (Some name) there h = file_there TheJob name there h

  part_file_there : (name : List ℕ) (decimals : ℕ) (unit : Length) → IsSome (files name) → TakesSoupOr None files name decimals unit (Err (ReadFault input)) → ⊥
  part_file_there name decimals unit there =
      never_then (TakesFile ThePart files name) (ReadsPart decimals unit) (ReadFault input) (file_there ThePart name there)
      (λ bytes. never_then (ReadsText decimals unit bytes) WeldsPart (ReadFault input) (λ h. not_read input (PartUnread h.0) refl h.1) (λ raw h. not_read input Nothing refl h.0))

  pub soup_there : (size : Option (List ℕ)) (name : List ℕ) (decimals : ℕ) (unit : Length) → HasSampleOr size files name → TakesSoupOr size files name decimals unit (Err (ReadFault input)) → ⊥
  soup_there (Some size) name decimals unit there h = not_read input SampleRange refl h.0
  soup_there None name decimals unit there h = part_file_there name decimals unit there h

  pub part_there : (name : List ℕ) (decimals : ℕ) (unit : Length) → HasSampleOr (sample_size name) files name → TakesSolid files name decimals unit (Err (ReadFault input)) → ⊥
  part_there name decimals unit there =
      never_then (TakesSoup files name decimals unit) ChecksPart (ReadFault input) (soup_there (sample_size name) name decimals unit there) (λ part h. not_read input (Mesh h.0) refl h.1)
