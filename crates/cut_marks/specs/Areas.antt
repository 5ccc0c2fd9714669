-- What the ends of marks take on the sheet, and which marks stand well.
use Rattle.std.specs.Prelude.{ℕ, ℤ, pos, ◌+ℤ◌, ◌-ℤ◌, int_lt, ◌&&◌, ◌||◌, Bool, true, List, [], ◌∷◌, Option, None, Some}
use Rattle.std.specs.Int.{int_min, int_max}
use Rattle.std.specs.List.{list_all}
use Rattle.sheet_plan.specs.Boxes.{Box}
use Rattle.cut_marks.specs.declared.areas.Area.{Area}
use Rattle.cut_marks.specs.declared.figures.CutMark.{CutMark}
use Rattle.cut_marks.specs.declared.figures.MarkEnd.{MarkEnd}
use Rattle.cut_marks.specs.declared.figures.SheetPoint.{SheetPoint}

-- what figures take has a margin of 0.3 mm around their ink
-- a letter takes 2.4 mm on both sides of the middle of its base line, 4 mm above it and 0.4 mm beneath
abbrev pub letter_area : SheetPoint → Area
letter_area p = record { left = p.x -ℤ pos 240; right = p.x +ℤ pos 240; top = p.y -ℤ pos 400; bottom = p.y +ℤ pos 40 }

-- so far around a place
abbrev pub spot_area : ℕ → SheetPoint → Area
spot_area by p = record { left = p.x -ℤ pos by; right = p.x +ℤ pos by; top = p.y -ℤ pos by; bottom = p.y +ℤ pos by }

-- the least rectangle around both
abbrev pub around : Area → Area → Area
around a c = record { left = int_min a.left c.left; right = int_max a.right c.right; top = int_min a.top c.top; bottom = int_max a.bottom c.bottom }

-- a strong end, which is 0.5 mm wide
abbrev pub strong_area : MarkEnd → Area
strong_area e = around (spot_area 55 e.start) (spot_area 55 e.tip)

-- an arrow, whose head goes 0.55 mm to both sides
abbrev pub arrow_area : MarkEnd → Area
arrow_area e = around (spot_area 85 e.tail) (spot_area 85 e.tip)

abbrev pub letters_area : Option ℕ → MarkEnd → Area
letters_area None e = letter_area e.letter
letters_area (Some second) e = around (letter_area e.letter) (letter_area e.beside)

-- the chain line from end to end, with a margin of 0.07 mm
abbrev pub line_area : CutMark → Area
line_area m = around (spot_area 20 m.first.tip) (spot_area 20 m.second.tip)

-- a mark takes these at its two ends
abbrev pub areas_of : CutMark → List Area
areas_of m =
    strong_area m.first ∷ arrow_area m.first ∷ letters_area m.beside m.first ∷ strong_area m.second ∷ arrow_area m.second ∷ letters_area m.beside m.second ∷ []

abbrev pub letters_of : CutMark → List Area
letters_of m = letters_area m.beside m.first ∷ letters_area m.beside m.second ∷ []

-- of two stretches one ends before the other begins
abbrev pub are_separate : (from to other_from other_to : ℤ) → Bool
are_separate from to other_from other_to = int_lt to other_from || int_lt other_to from

-- of two areas one ends before the other begins, across or downward
abbrev pub is_clear : Area → Area → Bool
is_clear a c = are_separate a.left a.right c.left c.right || are_separate a.top a.bottom c.top c.bottom

-- the strong ends, the arrows and the letters of one mark are clear of those of the other
abbrev pub are_apart : CutMark → CutMark → Bool
are_apart m n = list_all (λ a. list_all (is_clear a) (areas_of n)) (areas_of m)

-- no two marks touch
abbrev pub none_touch : List CutMark → Bool
none_touch [] = true
none_touch (m ∷ rest) = list_all (are_apart m) rest && none_touch rest

-- ---- a view
abbrev pub area_of : Box → Area
area_of b = record { left = b.left; right = b.right; top = b.top; bottom = b.bottom }

-- a stretch is within another
abbrev pub is_between : (outer_from outer_to from to : ℤ) → Bool
is_between outer_from outer_to from to = int_lt outer_from from && int_lt to outer_to

abbrev pub is_inside : Area → Area → Bool
is_inside room a = is_between room.left room.right a.left a.right && is_between room.top room.bottom a.top a.bottom

-- an area is within the view's room, and clear of its box
abbrev pub is_off : Area → Area → Area → Bool
is_off own room a = is_inside room a && is_clear a own

-- all that a mark takes is so
abbrev pub is_placed_well : Area → Area → CutMark → Bool
is_placed_well own room m = list_all (is_off own room) (areas_of m)

-- each mark is placed well, and no two touch
abbrev pub stand_well : Area → Area → List CutMark → Bool
stand_well own room marks = list_all (is_placed_well own room) marks && none_touch marks

-- the chain line of a mark crosses no letter of the other; and no one's crosses one
abbrev pub is_free_of : CutMark → CutMark → Bool
is_free_of m n = list_all (is_clear (line_area m)) (letters_of n)

abbrev pub none_crossed : List CutMark → Bool
none_crossed marks = list_all (λ m. list_all (is_free_of m) marks) marks
