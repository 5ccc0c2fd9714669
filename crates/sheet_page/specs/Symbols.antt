-- The symbol of an angle of projection, as sheets show it: a frustum of a cone from the front, and from its narrow end, on its left.
use Rattle.std.specs.Prelude.{ℕ, ◌+◌, ◌-◌, Bool, if◌then◌else◌, List, [], ◌∷◌, ◌++◌, map}
use Rattle.sheet_page.specs.declared.page.Circle.{Circle}
use Rattle.sheet_page.specs.declared.page.Item.{Item}
use Rattle.sheet_page.specs.declared.page.Item.TheVariants as item
use Rattle.sheet_page.specs.declared.page.Pen.TheVariants.{Strong, Thin}
use Rattle.sheet_page.specs.declared.page.Rule.{Rule}
use Rattle.stroke_paths.specs.declared.path.Point.{Point}
use Rattle.sheet_page.specs.Rules.{point_from, rule_from}

-- the frustum, 7.5 mm long and 3 and 6 mm high, with its centre line, which is a thin one: a chain line so short may have a gap at the middle
abbrev pub frustum_of : Point → ℕ → List Rule
frustum_of corner x =
    rule_from corner Strong x 1330 x 1630
    ∷ rule_from corner Strong (x + 750) 1180 (x + 750) 1780
    ∷ rule_from corner Strong x 1330 (x + 750) 1180
    ∷ rule_from corner Strong x 1630 (x + 750) 1780
    ∷ rule_from corner Thin (x - 120) 1480 (x + 870) 1480
    ∷ []

-- its two ends as circles around one middle, with their centre lines
abbrev pub centre_lines : Point → ℕ → List Rule
centre_lines corner x = rule_from corner Thin (x - 420) 1480 (x + 420) 1480 ∷ rule_from corner Thin x 1060 x 1900 ∷ []

abbrev pub circle_from : Point → ℕ → ℕ → Circle
circle_from corner x radius = record { x = (point_from corner x 1480).x; y = (point_from corner x 1480).y; radius = radius }

abbrev pub ends_of : Point → ℕ → List Item
ends_of corner x = map item.Rule (centre_lines corner x) ++ item.Circle (circle_from corner x 150) ∷ item.Circle (circle_from corner x 300) ∷ []

-- the view from the left stands on the right in first-angle projection, and on the left in third-angle projection
abbrev pub frustum_left : Bool → ℕ
frustum_left third = if third then 7200 else 6250

abbrev pub circles_middle : Bool → ℕ
circles_middle third = if third then 6550 else 7650

abbrev pub symbol_of : Point → Bool → List Item
symbol_of corner third = map item.Rule (frustum_of corner (frustum_left third)) ++ ends_of corner (circles_middle third)
