-- What was taken from any desk: the text of a job or of a part, by which the answer is.
use Rattle.std.specs.Prelude.{◌≡◌, ℕ, List, Option, Some, None, Ok}
use Rattle.dec_text.specs.declared.number.Length.{Length}
use Rattle.desk.specs.Taken.{IsTaken, all_hold}
use Rattle.geometry.specs.Parts.{Part}
use Rattle.job_file.specs.Documents.{JobValues}
use Rattle.part_input.specs.Jobs.{TakesReadJob}
use Rattle.part_input.specs.Parts.{sample_size, TakesSoup, TakesSolid}

-- the text of a file was taken, and this is the job that it says
pub record IsJobTaken {D : Type 0} (Fetches : D → List ℕ → ℕ → List ℕ → D → Type 0) (name : List ℕ) (old new : D) (text : List ℕ) (job : JobValues) : Type 0 where
  pub taken : IsTaken Fetches name old new text
  pub is : TakesReadJob (all_hold text) (Some name) (Ok job)

-- of a sample nothing was taken, and of any other part the text of its file
abbrev pub IsUnlessSample : {D : Type 0} → (D → List ℕ → ℕ → List ℕ → D → Type 0) → Option (List ℕ) → List ℕ → D → D → List ℕ → Type 0
IsUnlessSample Fetches (Some size) name old new text = new ≡ old
IsUnlessSample Fetches None name old new text = IsTaken Fetches name old new text

-- the part is that of the name and of this text, unless it is a sample: before it is checked, and checked
pub record IsSoupTaken {D : Type 0} (Fetches : D → List ℕ → ℕ → List ℕ → D → Type 0) (name : List ℕ) (decimals : ℕ) (unit : Length) (old new : D) (text : List ℕ) (part : Part) : Type 0 where
  pub taken : IsUnlessSample Fetches (sample_size name) name old new text
  pub is : TakesSoup (all_hold text) name decimals unit (Ok part)

pub record IsPartTaken {D : Type 0} (Fetches : D → List ℕ → ℕ → List ℕ → D → Type 0) (name : List ℕ) (decimals : ℕ) (unit : Length) (old new : D) (text : List ℕ) (part : Part) : Type 0 where
  pub taken : IsUnlessSample Fetches (sample_size name) name old new text
  pub is : TakesSolid (all_hold text) name decimals unit (Ok part)
