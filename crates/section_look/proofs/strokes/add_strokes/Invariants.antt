use Rattle.std.proofs.Common.{◌≡◌, List, ◌++◌, take}
use Rattle.std.specs.List.{AllZip}
use Rattle.drawing.specs.Strokes.{IsHatchStrokeOn}
use Rattle.sheet_plan.specs.declared.sheet.Stroke.{Stroke}
use Rattle.section_look.proofs.strokes.add_strokes.Given as goal

-- the strokes so far came to the end
abbrev pub invariant-loop-line : goal.invariant-loop-line
invariant-loop-line l =
    (here : List Stroke) × (l.strokes.items ≡ l.fn.strokes.items ++ here) × AllZip (IsHatchStrokeOn l.sheet l.view) (take l.line-index l.lines) here
