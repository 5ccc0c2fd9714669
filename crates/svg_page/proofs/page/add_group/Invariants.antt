use Rattle.std.proofs.Common.{◌≡◌, ◌++◌, drop}
use Rattle.svg_page.specs.Svg.{view_lines, group_begin}
use Rattle.svg_page.proofs.page.add_group.Given as goal

-- the lines so far and those of what is left are all lines
abbrev pub invariant-loop-stroke : goal.invariant-loop-stroke
invariant-loop-stroke l = l.text.items ++ view_lines l.view (drop l.stroke-index l.strokes) ≡ (l.fn.text.items ++ group_begin) ++ view_lines l.view l.strokes
