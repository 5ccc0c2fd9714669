-- The kinds of lines of a drawing, in one table. Each text that tells marks apart takes its words and numbers from here.
use Rattle.std.specs.Prelude.{ℕ, Bool, true, false, List, [], codes}
use Rattle.sheet_plan.specs.declared.sheet.Mark.{Mark}
use Rattle.sheet_plan.specs.declared.sheet.Mark.TheVariants.{Solid, Dashed, Chain, Hatch}

-- How a line is drawn: its class in a sheet's SVG, its width, whether its ends are round on a sheet, and its dashes and gaps in turn. Lengths
-- are written, in hundredths of a millimetre. A sheet fits the dashes of a hidden line to its length.
pub record Look : Type 0 where
  pub class : List ℕ
  pub width : List ℕ
  pub round : Bool
  pub dashes : List ℕ

-- how lines of a kind are called and drawn: their word in a piece list, their layer in DXF, the number of their pen in HP-GL, and their look
pub record LineKind : Type 0 where
  pub word : List ℕ
  pub layer : List ℕ
  pub pen : ℕ
  pub look : Look

abbrev pub line_kind : Mark → LineKind
line_kind Solid = record { word = codes "solid"; layer = codes "SOLID"; pen = 1; look = record { class = codes "visible"; width = codes "50"; round = true; dashes = [] } }
line_kind Dashed = record { word = codes "dashed"; layer = codes "DASHED"; pen = 2; look = record { class = codes "hidden"; width = codes "35"; round = false; dashes = codes "300 150" } }
line_kind Chain = record { word = codes "chain"; layer = codes "CHAIN"; pen = 4; look = record { class = codes "trace"; width = codes "25"; round = false; dashes = codes "600 150 75 150" } }
line_kind Hatch = record { word = codes "hatch"; layer = codes "HATCH"; pen = 3; look = record { class = codes "hatch"; width = codes "18"; round = false; dashes = [] } }

abbrev pub word_of : Mark → List ℕ
word_of mark = (line_kind mark).word

abbrev pub pen_of : Mark → ℕ
pen_of mark = (line_kind mark).pen

abbrev pub look_of : Mark → Look
look_of mark = (line_kind mark).look

-- two marks are one
abbrev pub is_same_mark : Mark → Mark → Bool
is_same_mark Solid Solid = true
is_same_mark Dashed Dashed = true
is_same_mark Chain Chain = true
is_same_mark Hatch Hatch = true
is_same_mark mark other = false

-- the frame of a sheet, which is no line of a view
abbrev pub frame_look : Look
frame_look = record { class = codes "frame"; width = codes "70"; round = false; dashes = [] }
