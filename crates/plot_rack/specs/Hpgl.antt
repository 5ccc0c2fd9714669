-- The text of a page for pen plotters, in the manner of HP-GL.
use Rattle.std.specs.Prelude.{ℕ, ℤ, ◌==◌, pos, ◌-ℤ◌, ◌*ℤ◌, if◌then◌else◌, List, [], ◌∷◌, ◌++◌, codes, Option, None, Some}
use Rattle.std.specs.Fmt.{decimal, signed_decimal}
use Rattle.sheet_plan.specs.LineKinds.{pen_of}
use Rattle.sheet_plan.specs.Numbers.{nearest}
use Rattle.sheet_plan.specs.declared.sheet.Mark.{Mark}
use Rattle.sheet_plan.specs.declared.sheet.Stroke.{Stroke}

-- hundredths of a millimetre in units of 0.025 mm: the nearest whole number, and of two the greater
abbrev pub units_of : ℤ → ℤ
units_of n = nearest (pos 2 *ℤ n) (pos 5)

-- a point of a page of this height; the plotter's y goes up from the lower edge
abbrev pub point_text : ℤ → ℤ → ℤ → List ℕ
point_text height x y = signed_decimal (units_of x) ++ (codes "," ++ signed_decimal (units_of (height -ℤ y)))

abbrev pub pen_text : Mark → List ℕ
pen_text mark = codes "SP" ++ (decimal (pen_of mark) ++ codes ";")

-- the pen is chosen for the first stroke, and where the one before has another
abbrev pub choice_text : Option Mark → Mark → List ℕ
choice_text None mark = pen_text mark
choice_text (Some before) mark = if pen_of before == pen_of mark then [] else pen_text mark

-- the pen is up to the first end of the stroke, and down to the second
abbrev pub move_text : ℤ → Stroke → List ℕ
move_text height s = codes "PU" ++ (point_text height s.x1 s.y1 ++ (codes ";PD" ++ (point_text height s.x2 s.y2 ++ codes ";")))

-- the strokes after one of this mark, or after none
abbrev pub moves_after : Option Mark → ℤ → List Stroke → List ℕ
moves_after before height [] = []
moves_after before height (s ∷ strokes) = choice_text before s.mark ++ move_text height s ++ moves_after (Some s.mark) height strokes

abbrev pub hpgl_of : ℤ × ℤ → List Stroke → List ℕ
hpgl_of page strokes = codes "IN;" ++ moves_after None page.1 strokes ++ codes "PU0,0;\n"
