use Rattle.std.proofs.Common.{◌≡◌, [], ◌∷◌, take}
use Rattle.std.specs.List.{AllZip}
use Rattle.sheet_plan.specs.declared.sheet.Spread.{Spread}
use Rattle.sheet_plan.specs.Sheets.{IsStrokeAt}
use Rattle.detail_pieces.proofs.page.strokes_of.Given as goal

-- the strokes of the pieces so far
abbrev pub invariant-loop-piece : goal.invariant-loop-piece
invariant-loop-piece l = (place : Spread) → l.sheet.places.items ≡ place ∷ [] → AllZip (IsStrokeAt l.sheet 0 place) (take l.piece-index l.pieces) l.strokes.items
