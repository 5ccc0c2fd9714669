-- The text of a sheet.
use Rattle.std.specs.Prelude.{ℕ, zero, suc, ◌==◌, if◌then◌else◌, ℤ, pos, ◌-ℤ◌, List, [], ◌∷◌, ◌++◌, length, codes}
use Rattle.std.specs.List.{filter, flat_map}
use Rattle.std.specs.Fmt.{signed_decimal}
use Rattle.integers.specs.Floors.{floor_of}
use Rattle.sheet_plan.specs.LineKinds.{frame_look, look_of}
use Rattle.sheet_plan.specs.declared.sheet.Mark.{Mark}
use Rattle.sheet_plan.specs.declared.sheet.Sheet.{Sheet}
use Rattle.sheet_plan.specs.declared.sheet.Stroke.{Stroke}
use Rattle.svg_page.specs.Texts.{◌⊕◌}

-- hundredths of a millimetre, as whole millimetres
abbrev pub millimetres : ℤ → ℤ
millimetres n = floor_of n (pos 100)

-- the beginning of a sheet of w by h millimetres
unfoldable pub opening : ℤ → ℤ → ℤ → ℤ → List ℕ
opening w h width height =
    codes "<?xml version=\"1.0\" encoding=\"UTF-8\"?>\n<svg xmlns=\"http://www.w3.org/2000/svg\" width=\""
    ⊕ signed_decimal w ⊕ codes "mm\" height=\"" ⊕ signed_decimal h
    ⊕ codes "mm\" viewBox=\"0 0 " ⊕ signed_decimal width ⊕ codes " " ⊕ signed_decimal height ⊕ codes "\">\n"

-- its frame
abbrev pub frame : ℤ → ℤ → List ℕ
frame width height =
    codes "<rect x=\"1000\" y=\"1000\" width=\"" ⊕ signed_decimal (width -ℤ pos 2000) ⊕ codes "\" height=\""
    ⊕ signed_decimal (height -ℤ pos 2000) ⊕ codes "\" fill=\"none\" stroke=\"black\" stroke-width=\"" ⊕ frame_look.width ⊕ codes "\"/>\n"

abbrev pub head : ℤ → ℤ → List ℕ
head width height = opening (millimetres width) (millimetres height) width height ++ frame width height

-- a byte of a text: & < > and " by their names
abbrev pub escaped : ℕ → List ℕ
escaped byte =
    if byte == 38 then codes "&amp;" else if byte == 60 then codes "&lt;" else if byte == 62 then codes "&gt;"
    else if byte == 34 then codes "&quot;" else byte ∷ []

abbrev pub before_title : ℤ → List ℕ
before_title height = codes "<text x=\"2000\" y=\"" ⊕ signed_decimal (height -ℤ pos 1800) ⊕ codes "\" font-family=\"sans-serif\" font-size=\"700\">"

-- the line of the title, if it isn't empty
abbrev pub title_line : ℤ → List ℕ → List ℕ
title_line height [] = []
title_line height (byte ∷ bytes) = before_title height ++ flat_map escaped (byte ∷ bytes) ++ codes "</text>\n"

-- dashes and gaps; of a line without them, nothing
abbrev pub dash_array : List ℕ → List ℕ
dash_array [] = []
dash_array (byte ∷ more) = codes " stroke-dasharray=\"" ⊕ (byte ∷ more) ⊕ codes "\""

-- how a line of this mark is drawn
unfoldable pub pen : Mark → List ℕ
pen mark = codes "stroke-width=\"" ⊕ (look_of mark).width ⊕ codes "\"" ⊕ dash_array (look_of mark).dashes

-- the line of a stroke
abbrev pub stroke_line : Stroke → List ℕ
stroke_line s =
    codes "<line x1=\"" ⊕ signed_decimal s.x1 ⊕ codes "\" y1=\"" ⊕ signed_decimal s.y1
    ⊕ codes "\" x2=\"" ⊕ signed_decimal s.x2 ⊕ codes "\" y2=\"" ⊕ signed_decimal s.y2
    ⊕ codes "\" " ⊕ pen s.mark ⊕ codes "/>\n"

-- the lines of a view's strokes, in their order
abbrev pub view_lines : ℕ → List Stroke → List ℕ
view_lines view strokes = flat_map stroke_line (filter (λ s. s.view == view) strokes)

abbrev pub group_begin : List ℕ
group_begin = codes "<g stroke=\"black\" fill=\"none\">\n"

abbrev pub group_end : List ℕ
group_end = codes "</g>\n"

-- the group of a view, also of one without strokes
abbrev pub group : ℕ → List Stroke → List ℕ
group view strokes = group_begin ++ view_lines view strokes ++ group_end

-- the groups of the first views
abbrev pub groups_below : ℕ → List Stroke → List ℕ
groups_below zero strokes = []
groups_below (suc n) strokes = groups_below n strokes ++ group n strokes

-- what stands before the groups, and behind them
abbrev pub page_begin : Sheet → List ℕ → List ℕ
page_begin sheet title = head sheet.width sheet.height ++ title_line sheet.height title

abbrev pub page_end : List ℕ
page_end = codes "</svg>\n"

-- the text of a sheet with a title and strokes: each view is a group of its strokes
unfoldable pub svg_of : Sheet → List ℕ → List Stroke → List ℕ
svg_of sheet title strokes =
    page_begin sheet title ++ groups_below (length sheet.places.items) strokes ++ page_end
