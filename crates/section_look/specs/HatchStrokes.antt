-- The strokes of the hatch lines by which a sheet shows sections.
use Rattle.std.specs.Prelude.{◌≡◌, List, [], ◌∷◌, ◌++◌}
use Rattle.std.specs.List.{AllZip}
use Rattle.drawing.specs.Strokes.{IsHatchStrokeOn}
use Rattle.sheet_plan.specs.declared.sheet.Sheet.{Sheet}
use Rattle.sheet_plan.specs.declared.sheet.Stroke.{Stroke}
use Rattle.section_look.specs.declared.looks.SectionLook.{SectionLook}

-- one for each hatch line of each look, in order
abbrev pub AreHatchStrokes : Sheet → List SectionLook → List Stroke → Type 0
AreHatchStrokes sheet [] strokes = strokes ≡ []
AreHatchStrokes sheet (look ∷ looks) strokes =
    (here : List Stroke) × (rest : List Stroke) × (strokes ≡ here ++ rest) × AllZip (IsHatchStrokeOn sheet look.view) look.hatches.items here × AreHatchStrokes sheet looks rest
