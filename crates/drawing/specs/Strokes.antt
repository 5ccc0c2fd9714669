-- The strokes of a sheet: view by view, one for each piece and then one for each hatch line.
use Rattle.std.specs.Prelude.{◌≡◌, ℕ, suc, List, [], ◌∷◌, ◌++◌}
use Rattle.std.specs.List.{AllZip}
use Rattle.lattice.specs.declared.pieces.HatchLine.{HatchLine}
use Rattle.lattice.specs.declared.pieces.Piece.{Piece}
use Rattle.sheet_plan.specs.declared.sheet.Sheet.{Sheet}
use Rattle.sheet_plan.specs.declared.sheet.Spread.{Spread}
use Rattle.sheet_plan.specs.declared.sheet.Stroke.{Stroke}
use Rattle.sheet_plan.specs.Sheets.{IsPlaceOf, IsStrokeAt, IsHatchStrokeAt}
use Rattle.view_lines.specs.declared.view.ViewDrawing.{ViewDrawing}

-- the stroke of a piece of the view with this number, where the view stands on the sheet
abbrev pub IsStrokeOn : Sheet → ℕ → Piece → Stroke → Type 0
IsStrokeOn sheet number piece stroke = (place : Spread) × IsPlaceOf sheet number place × IsStrokeAt sheet number place piece stroke

-- that of a hatch line
abbrev pub IsHatchStrokeOn : Sheet → ℕ → HatchLine → Stroke → Type 0
IsHatchStrokeOn sheet number line stroke = (place : Spread) × IsPlaceOf sheet number place × IsHatchStrokeAt sheet number place line stroke

-- the strokes of the view with this number: those of its pieces, and then those of its hatch lines
pub record AreStrokesOf (sheet : Sheet) (number : ℕ) (view : ViewDrawing) (strokes : List Stroke) : Type 0 where
  pub of_pieces : List Stroke
  pub of_hatches : List Stroke
  pub together : strokes ≡ of_pieces ++ of_hatches
  pub pieces : AllZip (IsStrokeOn sheet number) view.pieces.items of_pieces
  pub hatches : AllZip (IsHatchStrokeOn sheet number) view.hatches.items of_hatches

-- the strokes of these views, of which the first has this number
abbrev pub AreStrokesFrom : Sheet → ℕ → List ViewDrawing → List Stroke → Type 0
AreStrokesFrom sheet number [] strokes = strokes ≡ []
AreStrokesFrom sheet number (view ∷ views) strokes =
    (here : List Stroke) × (rest : List Stroke) × (strokes ≡ here ++ rest) × AreStrokesOf sheet number view here × AreStrokesFrom sheet (suc number) views rest

abbrev pub AreStrokes : Sheet → List ViewDrawing → List Stroke → Type 0
AreStrokes sheet views strokes = AreStrokesFrom sheet 0 views strokes
