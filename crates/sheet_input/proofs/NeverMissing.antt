-- A file that is there is no fault of reading a sheet's job or its part.
use Rattle.std.proofs.Common.{◌≡◌, ℕ, Bool, true, false, List, [], ◌∷◌, Option, Some, None, Ok, Err, inl, inr, refl, sym, subst}
use Rattle.dec_text.specs.declared.number.Length.{Length}
use Rattle.dec_text.specs.declared.number.Length.TheVariants.{Millimetre}
use Rattle.desk.specs.Files.{Files}
use Rattle.part_input.specs.Jobs.{HasJobFile}
use Rattle.part_input.specs.Parts.{HasSampleOr, sample_size}
use Rattle.part_input.specs.declared.fault.Input.{Input}
use Rattle.part_input.specs.declared.fault.Fault.TheVariants.{ReadFault, SampleRange, Mesh, Nothing, Part as PartUnread}
use Rattle.part_input.proofs.Singles.{not_both}
use Rattle.part_input.proofs.There.{job_there, not_read, soup_there}
use Rattle.sheet_words.specs.Names.{Named}
use Rattle.sheet_input.specs.Fits.{Attempts, Fits, IsFaultFrom, decimals_of, first_by, is_range, last_by, others_by}
use Rattle.sheet_input.specs.Jobs.{AnyValues, SettlesJob, TakesAnyJob, older_job, own_job}
use Rattle.sheet_input.specs.Steps.{DrawsBy, DrawsSheet, DrawsText}
use Rattle.sheet_input.specs.Texts.{PartText, ReadsSolid, ReadsSoup, TakesTextOr, file, sample}
use Rattle.sheet_input.specs.Titles.{title_of}
use Rattle.sheet_input.specs.declared.fault.SheetFault.{SheetFault}
use Rattle.sheet_input.specs.declared.fault.SheetFault.TheVariants.{Common}

-- what is refused isn't given
not_given : {A F : Type 0} {e : F} {x : A} → Err e ≡ Ok x → ⊥
not_given {A} {F} {e} {x} h = not_both x e (sym h)

module _ (files : Files) (input : Input) where
  -- ---- the job
  no_job : (name : Option (List ℕ)) → HasJobFile files name → TakesAnyJob files name (Err (Common (ReadFault input))) → ⊥
  no_job name there (inl h) = job_there files input name there h
  no_job name there (inr (bytes, _, h)) = h

  settles : (title : List ℕ) (values : AnyValues) (decimals : ℕ) → SettlesJob title values decimals (Err (Common (ReadFault input))) → ⊥
  settles title (older_job values) decimals h = h
  settles title (own_job values) decimals h = h

  -- ---- the part
  no_text : (size : Option (List ℕ)) (name : List ℕ) → HasSampleOr size files name → TakesTextOr size files name (Err (ReadFault input)) → ⊥
  no_text (Some size) name there h = not_given h
  no_text None name there (inl h) = soup_there files input None name 0 Millimetre there (inl h)
  no_text None name there (inr (bytes, _, h)) = not_given h

  soup : (text : PartText) (decimals : ℕ) (unit : Length) → ReadsSoup text decimals unit (Err (ReadFault input)) → ⊥
  soup (sample size) decimals unit h = not_read input SampleRange refl h.0
  soup (file bytes) decimals unit (inl h) = not_read input (PartUnread h.0) refl h.1
  soup (file bytes) decimals unit (inr (raw, _, h)) = not_read input Nothing refl h.0

  solid : (text : PartText) (decimals : ℕ) (unit : Length) → ReadsSolid text decimals unit (Err (ReadFault input)) → ⊥
  solid text decimals unit (inl h) = soup text decimals unit h
  solid text decimals unit (inr (part, _, h)) = not_read input (Mesh h.0) refl h.1

  -- ---- a number of decimals
  module _ (title : List ℕ) (values : AnyValues) (text : PartText) where
    attempt : (decimals : ℕ) → Attempts title values text decimals (Err (Common (ReadFault input))) → ⊥
    attempt decimals (inl h) = settles title values decimals h
    attempt decimals (inr (job, _, inl h)) = solid text decimals job.unit h
    attempt decimals (inr (job, _, inr (part, _, h))) = not_given h

    -- the fault is one of this number, or one of a later number
    by_range : (b : Bool) (n m : ℕ) (ns : List ℕ) (here later : SheetFault) → Attempts title values text n (Err here) → Fits (Attempts title values text) m ns (Err later)
        → (Fits (Attempts title values text) m ns (Err (Common (ReadFault input))) → ⊥) → IsFaultFrom b here later (Common (ReadFault input)) → ⊥
    by_range true n m ns here later tried next none same = none (subst (λ (e : SheetFault). Fits (Attempts title values text) m ns (Err e)) (sym same) next)
    by_range false n m ns here later tried next none same = attempt n (subst (λ (e : SheetFault). Attempts title values text n (Err e)) (sym same) tried)

    fits : (n : ℕ) (ns : List ℕ) → Fits (Attempts title values text) n ns (Err (Common (ReadFault input))) → ⊥
    fits n [] h = attempt n h
    fits n (m ∷ ns) (here, later, tried, next, is) = by_range (is_range here) n m ns here later tried next (fits m ns) is

  -- ---- all of it
  module _ (named : Named) where
    no_drawing : (values : AnyValues) (text : PartText) → DrawsText named values text (Err (Common (ReadFault input))) → ⊥
    no_drawing values text (inl h) =
        fits (title_of named.said.title values named.part) values text (first_by (decimals_of values) (sample_size named.part)) (others_by (decimals_of values) (sample_size named.part)) h
    no_drawing values text (inr (settled, _, inl h)) = h
    no_drawing values text (inr (settled, _, inr (drawn, _, h))) = not_given h

    no_part : HasSampleOr (sample_size named.part) files named.part → (values : AnyValues) → DrawsBy files named values (Err (Common (ReadFault input))) → ⊥
    no_part there values (inl h) = settles (title_of named.said.title values named.part) values (last_by (decimals_of values) (sample_size named.part)) h
    no_part there values (inr (job, _, inl h)) = no_text (sample_size named.part) named.part there h
    no_part there values (inr (job, _, inr (text, _, h))) = no_drawing values text h

    pub never_missing_sheet : HasJobFile files named.job × HasSampleOr (sample_size named.part) files named.part → DrawsSheet files named (Err (Common (ReadFault input))) → ⊥
    never_missing_sheet (job_held, part_held) (inl h) = no_job named.job job_held h
    never_missing_sheet (job_held, part_held) (inr (values, _, h)) = no_part part_held values h
