use Rattle.std.proofs.Common.{◌≡◌, ◌++◌, drop}
use Rattle.std.specs.List.{flat_map}
use Rattle.sheet_page.specs.PdfContent.{loop_lines}
use Rattle.sheet_page.proofs.pdf_content.add_loops.Given as goal

-- the loops so far and what is left are all loops
abbrev pub invariant-loop-points : goal.invariant-loop-points
invariant-loop-points l = l.text.items ++ flat_map loop_lines (drop l.points-index l.loops) ≡ l.fn.text.items ++ flat_map loop_lines l.loops
