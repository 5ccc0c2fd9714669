use Rattle.std.proofs.Common.{◌≡◌, ◌++◌, drop}
use Rattle.std.specs.List.{flat_map}
use Rattle.sheet_page.specs.Svg.{drawn_in, group_start}
use Rattle.sheet_page.proofs.svg_text.add_group.Given as goal

-- the lines so far and those of what is left are all lines
abbrev pub invariant-loop-item : goal.invariant-loop-item
invariant-loop-item l =
    l.text.items ++ flat_map (drawn_in l.pens l.view) (drop l.item-index l.items) ≡ (l.fn.text.items ++ group_start l.view) ++ flat_map (drawn_in l.pens l.view) l.items
