-- The text of a page for CAD programs, in the manner of DXF: a line for each group code, and one for each value.
use Rattle.std.specs.Prelude.{ℕ, ℤ, pos, negsuc, ◌-ℤ◌, ◌/◌, ◌%◌, unsigned_abs, List, [], ◌++◌, codes}
use Rattle.std.specs.List.{flat_map}
use Rattle.std.specs.Fmt.{decimal}
use Rattle.sheet_plan.specs.LineKinds.{line_kind}
use Rattle.sheet_plan.specs.declared.sheet.Stroke.{Stroke}

abbrev pub sign_of : ℤ → List ℕ
sign_of (pos n) = []
sign_of (negsuc n) = codes "-"

-- hundredths of a millimetre as millimetres, with two digits after the point
abbrev pub length_text : ℤ → List ℕ
length_text z = sign_of z ++ (decimal (unsigned_abs z / 100) ++ (codes "." ++ (decimal (unsigned_abs z / 10 % 10) ++ decimal (unsigned_abs z % 10))))

-- a group code and its value
abbrev pub group : List ℕ → List ℕ → List ℕ
group code value = code ++ (codes "\n" ++ (value ++ codes "\n"))

-- a point of a page of this height, by the codes of its two lengths; y goes up from the page's lower edge
abbrev pub point_text : List ℕ → List ℕ → ℤ → ℤ → ℤ → List ℕ
point_text across upward height x y = group across (length_text x) ++ group upward (length_text (height -ℤ y))

-- a straight line on the layer of its mark
abbrev pub line_text : ℤ → Stroke → List ℕ
line_text height s =
    codes "0\nLINE\n" ++ (group (codes "8") (line_kind s.mark).layer
    ++ (point_text (codes "10") (codes "20") height s.x1 s.y1 ++ point_text (codes "11") (codes "21") height s.x2 s.y2))

abbrev pub dxf_of : ℤ × ℤ → List Stroke → List ℕ
dxf_of page strokes = codes "0\nSECTION\n2\nENTITIES\n" ++ flat_map (line_text page.1) strokes ++ codes "0\nENDSEC\n0\nEOF\n"
