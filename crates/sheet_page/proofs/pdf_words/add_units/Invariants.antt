use Rattle.std.proofs.Common.{◌≡◌, ◌++◌, drop}
use Rattle.std.specs.List.{flat_map}
use Rattle.sheet_page.specs.PdfWords.{unit_digits}
use Rattle.sheet_page.proofs.pdf_words.add_units.Given as goal

-- the units so far and those that are left are all units
abbrev pub invariant-loop-unit : goal.invariant-loop-unit
invariant-loop-unit l = l.text.items ++ flat_map unit_digits (drop l.unit-index l.unit-items) ≡ l.fn.text.items ++ flat_map unit_digits l.unit-items
