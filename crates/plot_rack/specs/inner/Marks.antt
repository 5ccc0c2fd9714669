-- The mark of the last of some strokes.
use Rattle.std.specs.Prelude.{List, [], ◌∷◌, Option, Some}
use Rattle.sheet_plan.specs.declared.sheet.Mark.{Mark}
use Rattle.sheet_plan.specs.declared.sheet.Stroke.{Stroke}

-- after one of this mark, or after none
abbrev pub last_mark : Option Mark → List Stroke → Option Mark
last_mark before [] = before
last_mark before (s ∷ strokes) = last_mark (Some s.mark) strokes
