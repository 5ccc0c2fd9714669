use Rattle.sheet_page.proofs.PdfTexts.{padded_filled}
use Rattle.sheet_page.proofs.pdf_objects.entry.Goals as goal

pub returns : goal.returns
returns c = simp (c.laid_out.ensures, padded_filled) at c.format.ensures.ok
