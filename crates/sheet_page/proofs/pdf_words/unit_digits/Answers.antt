use Rattle.sheet_page.proofs.PdfTexts.{padded_filled}
use Rattle.sheet_page.proofs.pdf_words.unit_digits.Goals as goal

pub returns : goal.returns
returns c = simp (c.in_radix.ensures, c.laid_out.ensures, padded_filled) at c.format.ensures.ok
