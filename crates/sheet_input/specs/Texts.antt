-- The text of a part, taken once and read at any number of decimals.
use Rattle.std.specs.Prelude.{◌≡◌, ℕ, List, Option, Some, None, Result, Ok}
use Rattle.dec_text.specs.declared.number.Length.{Length}
use Rattle.desk.specs.Files.{Files}
use Rattle.geometry.specs.Parts.{Part}
use Rattle.part_input.specs.Jobs.{TakesFile}
use Rattle.part_input.specs.Parts.{ChecksPart, MakesSample, ReadsPart, sample_size}
use Rattle.part_input.specs.Steps.{◌and_then◌}
use Rattle.part_input.specs.declared.fault.Fault.{Fault}
use Rattle.part_input.specs.declared.fault.Input.TheVariants.{Part as ThePart}

-- the size of a sample, or the bytes of a file
pub data PartText : Type 0 where
  sample : List ℕ → PartText
  file : List ℕ → PartText

-- a sample of this size, or the file of this name
abbrev pub TakesTextOr : Option (List ℕ) → Files → List ℕ → Result PartText Fault → Type 0
TakesTextOr (Some size) files name r = r ≡ Ok (sample size)
TakesTextOr None files name r = (TakesFile ThePart files name and_then λ bytes answer. answer ≡ Ok (file bytes)) r

-- what the name of a part stands for
abbrev pub TakesText : Files → List ℕ → Result PartText Fault → Type 0
TakesText files name = TakesTextOr (sample_size name) files name

-- the part that it says at a number of decimals, in lengths of that unit, before it is checked
abbrev pub ReadsSoup : PartText → ℕ → Length → Result Part Fault → Type 0
ReadsSoup (sample size) decimals unit = MakesSample size
ReadsSoup (file bytes) decimals unit = ReadsPart decimals unit bytes

-- and it is sound
abbrev pub ReadsSolid : PartText → ℕ → Length → Result Part Fault → Type 0
ReadsSolid text decimals unit = ReadsSoup text decimals unit and_then ChecksPart
