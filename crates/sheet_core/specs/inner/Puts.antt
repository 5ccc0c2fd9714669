-- The texts that are left once the sheet is put.
use Rattle.std.specs.Prelude.{ℕ, List, ◌∷◌}
use Rattle.part_input.specs.declared.fault.Fault.TheVariants.{WriteFault}
use Rattle.part_input.specs.declared.fault.Target.TheVariants.{Summary}
use Rattle.put_texts.specs.Order.{Text}
use Rattle.put_texts.specs.Puts.{one_text}
use Rattle.sheet_input.specs.declared.fault.SheetFault.{SheetFault}
use Rattle.sheet_input.specs.declared.fault.SheetFault.TheVariants.{Common, WriteList, WritePlain}
use Rattle.sheet_core.specs.Writing.{list_way, summary_way}
use Rattle.sheet_words.specs.Names.{Named}

-- the plain job and the summary of a request
abbrev pub texts_after_list : Named → List ℕ → List ℕ → List (Text SheetFault)
texts_after_list named plain summary =
    record { way = list_way named.plain; unwritten = WritePlain; bytes = plain } ∷ one_text (summary_way named) (Common (WriteFault Summary)) summary

-- the list, the plain job and the summary
abbrev pub texts_after_sheet : Named → List ℕ → List ℕ → List ℕ → List (Text SheetFault)
texts_after_sheet named list plain summary = record { way = list_way named.list; unwritten = WriteList; bytes = list } ∷ texts_after_list named plain summary
