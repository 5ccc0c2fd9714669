-- Which faults single steps of a run may answer.
use Rattle.std.specs.Prelude.{ℕ, List}
use Rattle.desk.specs.Files.{Files}
use Rattle.draw_words.specs.Names.{Named}
use Rattle.part_input.specs.declared.fault.Fault.{Fault}
use Rattle.part_input.specs.declared.fault.Fault.TheVariants.{ReadFault, NoPlotter, WriteFault, Memory}
use Rattle.draw_core.specs.Run.{ComesTo}

-- the faults of a job that was read
abbrev pub IsOfOutputs : Fault → Type 0
IsOfOutputs (NoPlotter output) = Unit {0}
IsOfOutputs Memory = Unit {0}
IsOfOutputs fault = ⊥

-- a fault of reading is answered only where the run comes to that, of the files that were named
abbrev pub ReadsInOrder : List (List ℕ) → Files → Named → Fault → Type 0
ReadsInOrder suffixes files named (ReadFault input) = ComesTo suffixes files named input
ReadsInOrder suffixes files named fault = Unit {0}

-- the faults that are left once the part was read
abbrev pub IsWriteOutcome : Fault → Type 0
IsWriteOutcome Memory = Unit {0}
IsWriteOutcome (WriteFault target) = Unit {0}
IsWriteOutcome fault = ⊥
