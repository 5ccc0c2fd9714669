-- Lists of strokes, view by view: one view more, and the places that their views have on the sheet.
use Rattle.std.proofs.Common.{◌≡◌, ◌⊎◌, inl, inr, ℕ, suc, ◌+◌, ◌<◌, ◌≤◌, List, [], ◌∷◌, ◌++◌, length, slice_get, get_or, Some, None, refl, sym, subst, ap, ◌∙◌, arith, append-nil, append_assoc}
use Rattle.std.specs.List.{All, AllZip}
use Rattle.std.proofs.lemmas.List.Elements.{All-nil, All-cons, All-append, All-same}
use Rattle.std.proofs.lemmas.Option.{slice_get_within, slice_get_cases}
use Rattle.lattice.specs.declared.pieces.HatchLine.{HatchLine}
use Rattle.lattice.specs.declared.pieces.Piece.{Piece}
use Rattle.sheet_plan.specs.declared.sheet.Sheet.{Sheet}
use Rattle.sheet_plan.specs.declared.sheet.Spread.{Spread}
use Rattle.sheet_plan.specs.declared.sheet.Stroke.{Stroke}
use Rattle.sheet_plan.specs.Sheets.{IsPlaceOf}
use Rattle.drawing.specs.Strokes.{IsStrokeOn, IsHatchStrokeOn, AreStrokesOf, AreStrokesFrom}
use Rattle.view_lines.specs.declared.view.ViewDrawing.{ViewDrawing}

module _ (sheet : Sheet) where
  -- a view with a number below the number of places has one
  pub place_there : (n : ℕ) → n < length sheet.places.items → (place : Spread) × IsPlaceOf sheet n place
  place_there n within = by_cases (slice_get_cases sheet.places.items n).1
    where
      by_cases : ((x : Spread) × (n < length sheet.places.items) × (slice_get sheet.places.items n ≡ Some x) × (get_or sheet.places.items n x ≡ x)) ⊎ ((length sheet.places.items ≤ n) × (slice_get sheet.places.items n ≡ None))
          → (place : Spread) × IsPlaceOf sheet n place
      by_cases (inl (x, less, at, is)) = (x, at)
      by_cases (inr (beyond, none)) = absurd (omega arith)

  pub view_more : (n m : ℕ) (views : List ViewDrawing) (strokes : List Stroke) (view : ViewDrawing) (more : List Stroke) → m ≡ n + length views
      → AreStrokesFrom sheet n views strokes → AreStrokesOf sheet m view more → AreStrokesFrom sheet n (views ++ view ∷ []) (strokes ++ more)
  view_more n m [] strokes view more at h zip =
      (more, [], ap (λ ys. ys ++ more) h ∙ sym (append-nil more), subst (λ k. AreStrokesOf sheet k view more) (let e : m ≡ n = omega (arith, at) in e) zip, refl)
  view_more n m (w ∷ views) strokes view more at (here, rest, parted, of_w, later) zip =
      (here, rest ++ more, ap (λ ys. ys ++ more) parted ∙ append_assoc here rest more, of_w, view_more (suc n) m views rest view more (omega (arith, at)) later zip)

  -- the stroke's view has a place
  abbrev pub HasPlace : Stroke → Type 0
  HasPlace s = s.view < length sheet.places.items

  drawn_in_place : (n : ℕ) {X : Type 0} (R : X → Stroke → Type 0) → ((x : X) (y : Stroke) → R x y → HasPlace y) → (xs : List X) (strokes : List Stroke) → AllZip R xs strokes → All HasPlace strokes
  drawn_in_place n R there [] [] h = All-nil HasPlace
  drawn_in_place n R there [] (y ∷ ys) h = absurd h
  drawn_in_place n R there (x ∷ xs) [] h = absurd h
  drawn_in_place n R there (x ∷ xs) (y ∷ ys) (drawn, more) = All-cons HasPlace y ys (there x y drawn) (drawn_in_place n R there xs ys more)

  piece_in_place : (n : ℕ) (x : Piece) (y : Stroke) → IsStrokeOn sheet n x y → HasPlace y
  piece_in_place n x y (place, at, drawn) = let within = slice_get_within sheet.places.items n place at in omega (arith, drawn.view_is, within)

  hatch_in_place : (n : ℕ) (x : HatchLine) (y : Stroke) → IsHatchStrokeOn sheet n x y → HasPlace y
  hatch_in_place n x y (place, at, drawn) = let within = slice_get_within sheet.places.items n place at in omega (arith, drawn.view_is, within)

  view_in_place : (n : ℕ) (view : ViewDrawing) (strokes : List Stroke) → AreStrokesOf sheet n view strokes → All HasPlace strokes
  view_in_place n view strokes are =
      All-same HasPlace strokes (are.of_pieces ++ are.of_hatches) are.together
      (All-append HasPlace are.of_pieces are.of_hatches
      (drawn_in_place n (IsStrokeOn sheet n) (piece_in_place n) view.pieces.items are.of_pieces are.pieces)
      (drawn_in_place n (IsHatchStrokeOn sheet n) (hatch_in_place n) view.hatches.items are.of_hatches are.hatches))

  pub all_in_place : (n : ℕ) (views : List ViewDrawing) (strokes : List Stroke) → AreStrokesFrom sheet n views strokes → All HasPlace strokes
  all_in_place n [] strokes h = All-same HasPlace strokes [] h (All-nil HasPlace)
  all_in_place n (w ∷ views) strokes (here, rest, parted, of_w, later) =
      All-same HasPlace strokes (here ++ rest) parted (All-append HasPlace here rest (view_in_place n w here of_w) (all_in_place (suc n) views rest later))
