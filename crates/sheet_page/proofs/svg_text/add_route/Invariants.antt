use Rattle.std.proofs.Common.{◌≡◌, ◌++◌, drop}
use Rattle.std.specs.Prelude.{codes}
use Rattle.std.specs.List.{flat_map}
use Rattle.sheet_page.specs.Svg.{to_point}
use Rattle.sheet_page.proofs.svg_text.add_route.Given as goal

-- the points so far and what is left are all points
abbrev pub invariant-loop-point : goal.invariant-loop-point
invariant-loop-point l =
    l.text.items ++ flat_map (to_point (codes "L")) (drop l.point-index l.point-items)
    ≡ l.initial.text.items ++ flat_map (to_point (codes "L")) l.point-items
