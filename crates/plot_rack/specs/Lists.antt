-- The text of a piece list: a line for the page, and one for each stroke.
use Rattle.std.specs.Prelude.{ℕ, ℤ, pos, ◌==◌, unsigned_abs, if◌then◌else◌, List, ◌++◌, codes}
use Rattle.std.specs.List.{flat_map}
use Rattle.std.specs.Fmt.{signed_decimal}
use Rattle.exact_frac.specs.declared.Frac.{Frac}
use Rattle.sheet_plan.specs.LineKinds.{word_of}
use Rattle.sheet_plan.specs.declared.sheet.Stroke.{Stroke}

-- a fraction in lowest terms, as `n` where it is whole, and else as `n/d`
abbrev pub frac_text : Frac → List ℕ
frac_text f = if unsigned_abs f.den == 1 then signed_decimal f.num else signed_decimal f.num ++ codes "/" ++ signed_decimal f.den

-- a column behind a blank
abbrev pub column : List ℕ → List ℕ
column text = codes " " ++ text

abbrev pub page_line : ℤ × ℤ → List ℕ
page_line page = codes "page" ++ column (signed_decimal page.0) ++ column (signed_decimal page.1) ++ codes "\n"

-- view and mark, U and V of both ends, and where they stand on the sheet
abbrev pub stroke_line : Stroke → List ℕ
stroke_line s =
    signed_decimal (pos s.view) ++ column (word_of s.mark)
    ++ column (frac_text s.u1) ++ column (frac_text s.v1) ++ column (frac_text s.u2) ++ column (frac_text s.v2)
    ++ column (signed_decimal s.x1) ++ column (signed_decimal s.y1) ++ column (signed_decimal s.x2) ++ column (signed_decimal s.y2)
    ++ codes "\n"

abbrev pub list_of : ℤ × ℤ → List Stroke → List ℕ
list_of page strokes = page_line page ++ flat_map stroke_line strokes
