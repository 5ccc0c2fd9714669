use Rattle.std.proofs.Common.{◌≡◌, ◌++◌}
use Rattle.std.specs.List.{flat_map}
use Rattle.sheet_page.specs.Svg.{head, standing, groups_below}
use Rattle.sheet_page.proofs.svg_text.svg.Given as goal

-- the groups of the views so far are written
abbrev pub invariant-loop-view : goal.invariant-loop-view
invariant-loop-view l =
    l.text.items ≡ (head l.page.width l.page.height ++ flat_map (standing l.pens) l.page.items.items) ++ groups_below l.pens l.view l.page.items.items
