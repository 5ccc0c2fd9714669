-- The rules of a title block, by how far their ends are to the right of its upper left corner and below it.
use Rattle.std.specs.Prelude.{ℕ, ℤ, pos, ◌+ℤ◌, ◌-ℤ◌, List, [], ◌∷◌}
use Rattle.sheet_page.specs.declared.page.Pen.{Pen}
use Rattle.sheet_page.specs.declared.page.Pen.TheVariants.{Thin, Strong}
use Rattle.sheet_page.specs.declared.page.Rule.{Rule}
use Rattle.stroke_paths.specs.declared.path.Point.{Point}

-- the block is 180 mm wide and 22 mm high, and ends 10 mm from the sheet's right and lower edges, as its frame does
abbrev pub corner_of : ℤ → ℤ → Point
corner_of width height = record { x = width -ℤ pos 19000; y = height -ℤ pos 3200 }

abbrev pub point_from : Point → ℕ → ℕ → Point
point_from corner across down = record { x = corner.x +ℤ pos across; y = corner.y +ℤ pos down }

abbrev pub rule_from : Point → Pen → ℕ → ℕ → ℕ → ℕ → Rule
rule_from corner pen x1 y1 x2 y2 = record { pen = pen; from = point_from corner x1 y1; to = point_from corner x2 y2 }

-- The block's upper and left lines, where its other two are the frame's, and the line to the right of its left cells; then the level lines
-- between cells, and the upright ones.
abbrev pub rules_of : Point → List Rule
rules_of corner =
    rule_from corner Strong 0 0 18000 0
    ∷ rule_from corner Strong 0 0 0 2200
    ∷ rule_from corner Strong 6000 0 6000 2200
    ∷ rule_from corner Thin 0 400 6000 400
    ∷ rule_from corner Thin 0 760 18000 760
    ∷ rule_from corner Thin 0 1120 6000 1120
    ∷ rule_from corner Thin 0 1480 6000 1480
    ∷ rule_from corner Thin 8200 1480 18000 1480
    ∷ rule_from corner Thin 0 1840 6000 1840
    ∷ rule_from corner Thin 3700 760 3700 1120
    ∷ rule_from corner Thin 8200 760 8200 2200
    ∷ rule_from corner Thin 9800 1480 9800 2200
    ∷ rule_from corner Thin 11300 1480 11300 2200
    ∷ rule_from corner Thin 12800 760 12800 2200
    ∷ rule_from corner Thin 16200 760 16200 2200
    ∷ []
