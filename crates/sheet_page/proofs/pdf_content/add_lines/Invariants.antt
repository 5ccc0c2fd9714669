use Rattle.std.proofs.Common.{◌≡◌, ◌++◌, drop}
use Rattle.sheet_page.specs.PdfContent.{lines_to}
use Rattle.sheet_page.proofs.pdf_content.add_lines.Given as goal

-- the lines so far and those of the points that are left are all lines
abbrev pub invariant-loop-point : goal.invariant-loop-point
invariant-loop-point l = l.text.items ++ lines_to (drop l.point-index l.points) ≡ l.fn.text.items ++ lines_to l.points
