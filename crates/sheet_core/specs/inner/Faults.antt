-- Which faults single steps of a run may answer.
use Rattle.std.specs.Prelude.{IsSome}
use Rattle.part_input.specs.declared.fault.Fault.TheVariants.{ReadFault, WriteFault, Memory}
use Rattle.sheet_core.specs.Writing.{IsOfTarget}
use Rattle.sheet_input.specs.declared.fault.SheetFault.{SheetFault}
use Rattle.sheet_input.specs.declared.fault.SheetFault.TheVariants.{Common, WriteList, WritePlain}
use Rattle.sheet_words.specs.Names.{Named}

-- those of reading
abbrev pub IsOfReading : SheetFault → Type 0
IsOfReading (Common (ReadFault input)) = Unit {0}
IsOfReading fault = ⊥

-- those of writing the texts of a drawing
abbrev pub IsOfWriting : Named → SheetFault → Type 0
IsOfWriting named WriteList = IsSome named.list
IsOfWriting named WritePlain = IsSome named.plain
IsOfWriting named (Common (WriteFault target)) = IsOfTarget named target
IsOfWriting named (Common Memory) = Unit {0}
IsOfWriting named fault = ⊥
