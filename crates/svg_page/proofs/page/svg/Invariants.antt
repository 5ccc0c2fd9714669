use Rattle.std.proofs.Common.{◌≡◌, ◌++◌}
use Rattle.svg_page.specs.Svg.{page_begin, groups_below}
use Rattle.svg_page.proofs.page.svg.Given as goal

-- the groups of the views so far are written
abbrev pub invariant-loop-view : goal.invariant-loop-view
invariant-loop-view l = l.text.items ≡ page_begin l.sheet l.title ++ groups_below l.view l.strokes
