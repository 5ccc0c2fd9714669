-- What the headings of cut views say.
use Rattle.std.specs.Prelude.{ℕ, ◌*◌, ◌/◌, max, nat_le, Bool, ◌||◌, if◌then◌else◌, List, [], ◌∷◌, codes}
use Rattle.std.specs.Char.{encode_utf8}
use Rattle.dec_text.specs.declared.number.Length.{Length}
use Rattle.length_text.specs.Places.{length_text}
use Rattle.svg_page.specs.Texts.{◌⊕◌}
use Rattle.text_fit.specs.Widths.{text_width}
use Rattle.cut_marks.specs.AxisNames.{axis_name}
use Rattle.cut_marks.specs.declared.figures.Heading.{Heading}

-- that a view shows no section
abbrev pub missing_text : Bool → List ℕ
missing_text has_section = if has_section then [] else codes ": no section"

-- the title of a view behind that; an empty one is none
abbrev pub title_start : Bool → List ℕ
title_start has_section = if has_section then codes " " else codes "; "

abbrev pub title_text : Bool → List ℕ → List ℕ
title_text has_section [] = []
title_text has_section (b ∷ title) = title_start has_section ⊕ b ∷ title

-- the letters and the place of a cut, as A-A (y = 10)
abbrev pub front_text : ℕ → Length → Heading → List ℕ
front_text decimals unit h =
    encode_utf8 h.letter ⊕ codes "-" ⊕ encode_utf8 h.letter ⊕ codes " (" ⊕ axis_name h.axis ⊕ codes " = " ⊕ length_text decimals unit h.at ⊕ codes ")" ⊕ missing_text h.has_section

-- all, and all but the place
abbrev pub whole_text : ℕ → Length → Heading → List ℕ → List ℕ
whole_text decimals unit h title = front_text decimals unit h ⊕ title_text h.has_section title

abbrev pub bare_text : Heading → List ℕ → List ℕ
bare_text h title = (encode_utf8 h.letter ⊕ codes "-" ⊕ encode_utf8 h.letter ⊕ missing_text h.has_section) ⊕ title_text h.has_section title

-- a text fits the room of a heading in letters of 1.8 mm, the least
abbrev pub fits_least : Heading → List ℕ → Bool
fits_least h text = nat_le 180 (1000 * h.room / max 1 (text_width text))

-- there is room for all, or for what stands before the title and three points
abbrev pub has_room : Heading → List ℕ → List ℕ → Bool
has_room h front whole = fits_least h whole || fits_least h (front ⊕ codes "...")

-- what a heading says: all, if at most the title has to be cut; without the title, if there is room for no more; and without the place, if
-- there is no room for that
abbrev pub heading_text : ℕ → Length → Heading → List ℕ → List ℕ
heading_text decimals unit h title =
    if has_room h (front_text decimals unit h) (whole_text decimals unit h title) then whole_text decimals unit h title
    else (if fits_least h (front_text decimals unit h) then front_text decimals unit h else bare_text h title)
