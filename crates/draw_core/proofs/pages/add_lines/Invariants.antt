use Rattle.std.proofs.Common.{◌≡◌, List, ◌++◌, take}
use Rattle.std.specs.List.{AllZip, flat_map}
use Rattle.sheet_plan.specs.declared.sheet.Stroke.{Stroke}
use Rattle.svg_page.specs.Svg.{stroke_line}
use Rattle.draw_core.proofs.pages.add_lines.Given as goal

-- the lines of the strokes so far came to the end
abbrev pub invariant-loop-one : goal.invariant-loop-one
invariant-loop-one g l =
    (here : List Stroke) × (l.text.items ≡ l.fn.text.items ++ flat_map stroke_line here) × AllZip (g.S.Stroked.has_stroke_on l.sheet l.number) (take l.one-index l.shown) here
