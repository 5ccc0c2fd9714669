-- What the reading of a part's text answers.
use Rattle.std.specs.Prelude.{ℕ, List, Result, Ok, Err}
use Rattle.dec_text.specs.declared.number.Length.{Length}
use Rattle.weld.specs.Raw.{seen}
use Rattle.weld.specs.declared.fault.PartError.{PartError}
use Rattle.weld.specs.declared.fault.PartError.TheVariants.{Part, Memory}
use Rattle.weld.specs.declared.raw_part.RawPart.{RawPart}
use Rattle.part_input.specs.Reading.{ReadsPartText}
use Rattle.part_input.specs.declared.fault.Fault.{Fault}
use Rattle.part_input.specs.declared.fault.Fault.TheVariants.{Mesh, Memory as NoMemory}

-- the answer is what the text says, or want of memory
abbrev pub AnswersPart : ℕ → Length → List ℕ → Result RawPart PartError → Type 0
AnswersPart decimals unit bytes (Ok raw) = ReadsPartText decimals unit bytes (Ok (seen raw))
AnswersPart decimals unit bytes (Err (Part fault)) = ReadsPartText decimals unit bytes (Err fault)
AnswersPart decimals unit bytes (Err (Memory e)) = Unit {0}

-- the faults of a surface
abbrev pub IsOfMesh : Fault → Type 0
IsOfMesh (Mesh fault) = Unit {0}
IsOfMesh NoMemory = Unit {0}
IsOfMesh fault = ⊥
