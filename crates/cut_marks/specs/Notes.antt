-- What a program has to say of the cuts that a drawing doesn't tell as usual.
use Rattle.std.specs.Prelude.{ℕ, ◌+◌, ◌==◌, ◌||◌, Bool, false, if◌then◌else◌, List, [], ◌∷◌, ◌++◌, Option, None, Some, codes}
use Rattle.std.specs.Char.{encode_utf8}
use Rattle.std.specs.Fmt.{decimal}
use Rattle.std.specs.List.{flat_map, list_any}
use Rattle.svg_page.specs.Texts.{◌⊕◌}
use Rattle.cut_marks.specs.declared.figures.CutMark.{CutMark}
use Rattle.cut_marks.specs.declared.figures.Heading.{Heading}
use Rattle.cut_marks.specs.declared.views.ViewMarks.{ViewMarks}

-- the line of a cut whose plane crosses no triangle
abbrev pub section_line : ℕ → List ℕ
section_line letter = codes "cut " ⊕ encode_utf8 letter ⊕ codes " shows no section\n"

abbrev pub section_notes : Option Heading → List ℕ
section_notes None = []
section_notes (Some h) = if h.has_section then [] else section_line h.letter

-- the line of a cut that has no mark in the view with this number, though the view sees its plane edge-on
abbrev pub left_out_line : ℕ → ℕ → List ℕ
left_out_line view letter = codes "cut " ⊕ encode_utf8 letter ⊕ codes " has no mark in view " ⊕ decimal view ⊕ codes "\n"

abbrev pub notes_in : ℕ → ViewMarks → List ℕ
notes_in view m = section_notes m.heading ++ flat_map (left_out_line view) m.left_out.items

-- the lines of views of which the first has this number
abbrev pub notes_from : ℕ → List ViewMarks → List ℕ
notes_from view [] = []
notes_from view (m ∷ rest) = notes_in view m ++ notes_from (view + 1) rest

-- ---- cuts without a mark
abbrev pub is_beside : ℕ → Option ℕ → Bool
is_beside letter None = false
is_beside letter (Some other) = other == letter

-- the letter is that of the mark, or stands beside it
abbrev pub is_letter_at : ℕ → CutMark → Bool
is_letter_at letter mark = (mark.letter == letter) || is_beside letter mark.beside

-- a mark of the view has it
abbrev pub is_told_in : ℕ → ViewMarks → Bool
is_told_in letter view = list_any (is_letter_at letter) view.marks.items

-- a mark of some view has it
abbrev pub is_told : ℕ → List ViewMarks → Bool
is_told letter views = list_any (is_told_in letter) views

-- the line of a cut that has a mark in no view
abbrev pub untold_line : ℕ → List ℕ
untold_line letter = codes "cut " ⊕ encode_utf8 letter ⊕ codes " has no mark\n"

-- that of the cut that a view of this heading shows
abbrev pub untold_notes : List ViewMarks → Option Heading → List ℕ
untold_notes views None = []
untold_notes views (Some h) = if is_told h.letter views then [] else untold_line h.letter

abbrev pub untold_in : List ViewMarks → ViewMarks → List ℕ
untold_in views view = untold_notes views view.heading

-- ---- all lines
-- those of each view, counted from 0, and then those of cuts without a mark
abbrev pub notes_of : List ViewMarks → List ℕ
notes_of views = notes_from 0 views ++ flat_map (untold_in views) views
