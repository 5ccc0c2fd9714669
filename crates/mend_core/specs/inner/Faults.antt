-- Which faults the reading and the writing of a part may answer.
use Rattle.mend_core.specs.Writing.{IsOfTarget}
use Rattle.mend_words.specs.Names.{Named}
use Rattle.part_input.specs.declared.fault.Fault.{Fault}
use Rattle.part_input.specs.declared.fault.Fault.TheVariants.{ReadFault, WriteFault, Memory}

-- those of writing the texts of a part
abbrev pub IsOfWriting : Named → Fault → Type 0
IsOfWriting named (WriteFault target) = IsOfTarget named.out target
IsOfWriting named Memory = Unit {0}
IsOfWriting named fault = ⊥

-- that of reading it
abbrev pub IsOfReading : Fault → Type 0
IsOfReading (ReadFault input) = Unit {0}
IsOfReading fault = ⊥
