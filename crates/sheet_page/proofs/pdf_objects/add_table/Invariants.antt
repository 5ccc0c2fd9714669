use Rattle.std.proofs.Common.{◌≡◌, ◌++◌, drop, codes}
use Rattle.std.specs.List.{flat_map}
use Rattle.sheet_page.specs.Pdf.{entry}
use Rattle.sheet_page.proofs.pdf_objects.add_table.Given as goal

-- the lines so far and those that are left are all lines
abbrev pub invariant-loop-offset : goal.invariant-loop-offset
invariant-loop-offset l =
    l.text.items ++ flat_map entry (drop l.offset-index l.offsets) ≡ (l.fn.text.items ++ codes "xref\n0 7\n0000000000 65535 f \n") ++ flat_map entry l.offsets
