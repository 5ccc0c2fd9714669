-- The text of a page as PDF: objects between a header and a table of where each of them begins.
use Rattle.std.specs.Prelude.{◌≡◌, ℕ, ◌+◌, ℤ, List, [], ◌∷◌, ◌++◌, length, drop, codes}
use Rattle.std.specs.Fmt.{decimal}
use Rattle.std.specs.List.{concat, flat_map}
use Rattle.svg_page.specs.Texts.{◌⊕◌}
use Rattle.sheet_page.specs.PdfContent.{points, content_of}
use Rattle.sheet_page.specs.PdfWords.{filled, title_entry}
use Rattle.sheet_page.specs.declared.page.Page.{Page}

-- an object by its number
abbrev pub object : ℕ → List ℕ → List ℕ
object number body = decimal number ⊕ codes " 0 obj\n" ⊕ body ⊕ codes "\nendobj\n"

-- a sheet of this size with what is drawn on it
abbrev pub sheet_entry : ℤ → ℤ → List ℕ
sheet_entry width height =
    codes "<< /Type /Page /Parent 2 0 R /MediaBox [0 0 " ⊕ points width ⊕ codes " " ⊕ points height
    ⊕ codes "] /Contents 4 0 R /Resources << /Font << /F1 5 0 R >> >> >>"

-- what stands before a content of this length
abbrev pub before_content : ℕ → List ℕ
before_content n = codes "<< /Length " ⊕ decimal n ⊕ codes " >>\nstream\n"

abbrev pub stream : List ℕ → List ℕ
stream content = before_content (length content) ++ content ++ codes "\nendstream"

-- the objects of a page
abbrev pub objects_of : Page → List (List ℕ)
objects_of page =
    object 1 (codes "<< /Type /Catalog /Pages 2 0 R >>")
    ∷ object 2 (codes "<< /Type /Pages /Kids [3 0 R] /Count 1 >>")
    ∷ object 3 (sheet_entry page.width page.height)
    ∷ object 4 (stream (content_of page))
    ∷ object 5 (codes "<< /Type /Font /Subtype /Type1 /BaseFont /Helvetica /Encoding /WinAnsiEncoding >>")
    ∷ object 6 (title_entry page.title)
    ∷ []

-- the version, and four bytes that are no text, so that nobody takes the file for one
abbrev pub header : List ℕ
header = codes "%PDF-1.4\n%" ++ 226 ∷ 227 ∷ 207 ∷ 211 ∷ 10 ∷ []

-- where each object begins, the first at n and each other behind the one before
abbrev pub offsets_from : ℕ → List (List ℕ) → List ℕ
offsets_from n [] = []
offsets_from n (object ∷ rest) = n ∷ offsets_from (n + length object) rest

abbrev pub offsets_of : List (List ℕ) → List ℕ
offsets_of objects = offsets_from (length header) objects

-- a line of the table
abbrev pub entry : ℕ → List ℕ
entry offset = filled 10 (decimal offset) ⊕ codes " 00000 n \n"

-- the table of six objects, where the one with number 0 is free
abbrev pub table : List ℕ → List ℕ
table offsets = codes "xref\n0 7\n0000000000 65535 f \n" ++ flat_map entry offsets

-- the objects by which to begin, and where the table is
abbrev pub trailer : ℕ → List ℕ
trailer offset = codes "trailer\n<< /Size 7 /Root 1 0 R /Info 6 0 R >>\nstartxref\n" ⊕ decimal offset ⊕ codes "\n%%EOF\n"

-- the header and the objects
abbrev pub before_table : List (List ℕ) → List ℕ
before_table objects = header ++ concat objects

-- a file of these objects
abbrev pub file_of : List (List ℕ) → List ℕ
file_of objects = before_table objects ++ table (offsets_of objects) ++ trailer (length (before_table objects))

unfoldable pub pdf_of : Page → List ℕ
pdf_of page = file_of (objects_of page)

-- the file has this object at this place
abbrev pub StandsAt : List ℕ → ℕ → List ℕ → Type 0
StandsAt file offset object = (rest : List ℕ) × (drop offset file ≡ object ++ rest)
