use Rattle.std.proofs.Common.{◌≡◌, List, ◌++◌, take}
use Rattle.std.specs.List.{AllZip}
use Rattle.sheet_plan.specs.declared.sheet.Stroke.{Stroke}
use Rattle.drawing.proofs.strokes.add_strokes.Given as goal

-- the strokes so far came to the end
abbrev pub invariant-loop-one : goal.invariant-loop-one
invariant-loop-one g l =
    (here : List Stroke) × (l.strokes.items ≡ l.fn.strokes.items ++ here) × AllZip (g.S.Stroked.has_stroke_on l.sheet l.number) (take l.one-index l.shown) here
