-- What is taken from any desk, and what it says.
use Rattle.std.proofs.Common.{◌≡◌, ◌≤◌, ℕ, List, [], length, Option, Some, None, refl, sym, subst}
use Rattle.std.specs.Prelude.{Result, Ok, Err, IfOk}
use Rattle.dec_text.specs.declared.number.Length.{Length}
use Rattle.desk.specs.Taken.{IsTaken, all_hold}
use Rattle.geometry.specs.Parts.{Part, part_of}
use Rattle.job_file.specs.Seen.{job_seen}
use Rattle.job_file.specs.declared.job.Job.{Job}
use Rattle.lattice.specs.declared.soup.Soup.{Soup}
use Rattle.solid_mesh.specs.Solids.{solid_part}
use Rattle.solid_mesh.specs.declared.solid.Solid.{Solid}
use Rattle.part_input.specs.Jobs.{ReadsJob}
use Rattle.part_input.specs.Parts.{sample_size, MakesSample, ReadsPart, ChecksPart, TakesSoupOr}
use Rattle.part_input.specs.Steps.{GivesInput}
use Rattle.part_input.specs.Taken.{IsJobTaken, IsUnlessSample, IsSoupTaken, IsPartTaken}
use Rattle.part_input.specs.declared.fault.Fault.{Fault}

module _ {D : Type 0} (Fetches : D → List ℕ → ℕ → List ℕ → D → Type 0) (name : List ℕ) where
  pub job_taken : (old new : D) (text : List ℕ) → IsTaken Fetches name old new text → length text ≤ 65536 → (r : Result Job Fault) → GivesInput job_seen (ReadsJob text) r
      → IfOk r (λ job. (text : List ℕ) × IsJobTaken Fetches name old new text (job_seen job))
  job_taken old new text taken within (Err e) h = tt
  job_taken old new text taken within (Ok job) h = (text, record { taken = taken; is = (text, (refl, within), h) })

  module _ (decimals : ℕ) (unit : Length) where
    pub file_taken : (old new : D) (text : List ℕ) → IsTaken Fetches name old new text → length text ≤ 16777216 → (r : Result Soup Fault) → GivesInput part_of (ReadsPart decimals unit text) r
        → IfOk r (λ soup. (text : List ℕ) × IsTaken Fetches name old new text × TakesSoupOr None (all_hold text) name decimals unit (Ok (part_of soup)))
    file_taken old new text taken within (Err e) h = tt
    file_taken old new text taken within (Ok soup) h = (text, taken, (text, (refl, within), h))

    -- of a sample nothing, and of any other part the text of its file
    by_size : (size : Option (List ℕ)) → size ≡ sample_size name → (old new : D) (text : List ℕ) (part : Part) → IsUnlessSample Fetches size name old new text
        → TakesSoupOr size (all_hold text) name decimals unit (Ok part) → IsSoupTaken Fetches name decimals unit old new text part
    by_size size same old new text part taken is = record {
      taken = subst (λ (s : Option (List ℕ)). IsUnlessSample Fetches s name old new text) same taken;
      is = subst (λ (s : Option (List ℕ)). TakesSoupOr s (all_hold text) name decimals unit (Ok part)) same is;
    }

    pub sample_taken : (desk : D) (size : List ℕ) → Some size ≡ sample_size name → (r : Result Soup Fault) → GivesInput part_of (MakesSample size) r
        → IfOk r (λ soup. (text : List ℕ) × IsSoupTaken Fetches name decimals unit desk desk text (part_of soup))
    sample_taken desk size same (Err e) h = tt
    sample_taken desk size same (Ok soup) h = ([], by_size (Some size) same desk desk [] (part_of soup) refl h)

    pub soup_taken : (old new : D) → sample_size name ≡ None → (r : Result Soup Fault)
        → IfOk r (λ soup. (text : List ℕ) × IsTaken Fetches name old new text × TakesSoupOr None (all_hold text) name decimals unit (Ok (part_of soup)))
        → IfOk r (λ soup. (text : List ℕ) × IsSoupTaken Fetches name decimals unit old new text (part_of soup))
    soup_taken old new same (Err e) h = tt
    soup_taken old new same (Ok soup) (text, taken, is) = (text, by_size None (sym same) old new text (part_of soup) taken is)

    pub part_taken : (old new : D) (text : List ℕ) (part : Part) → IsSoupTaken Fetches name decimals unit old new text part → (r : Result Solid Fault) → GivesInput solid_part (ChecksPart part) r
        → IfOk r (λ solid. (text : List ℕ) × IsPartTaken Fetches name decimals unit old new text (solid_part solid))
    part_taken old new text part is (Err e) h = tt
    part_taken old new text part is (Ok solid) h = (text, record { taken = is.taken; is = (part, is.is, h) })
