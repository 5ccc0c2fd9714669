use Rattle.std.proofs.Common.{◌≡◌, ◌++◌, drop}
use Rattle.std.specs.List.{flat_map}
use Rattle.sheet_page.specs.Svg.{standing}
use Rattle.sheet_page.proofs.svg_text.add_standing.Given as goal

-- the lines so far and those of what is left are all lines
abbrev pub invariant-loop-item : goal.invariant-loop-item
invariant-loop-item l = l.text.items ++ flat_map (standing l.pens) (drop l.item-index l.items) ≡ l.fn.text.items ++ flat_map (standing l.pens) l.items
