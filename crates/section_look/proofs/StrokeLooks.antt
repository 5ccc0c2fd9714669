-- The strokes of hatch lines, look by look, and that the views of looks and of strokes are on the sheet.
use Rattle.std.proofs.Common.{◌≡◌, ◌<◌, ℕ, suc, List, [], ◌∷◌, ◌++◌, length, refl, sym, ap, ◌∙◌, append-nil, append_assoc, arith}
use Rattle.std.specs.List.{All, AllZip}
use Rattle.std.proofs.lemmas.List.Elements.{All-nil, All-cons, All-append, All-same}
use Rattle.std.proofs.lemmas.Option.{slice_get_within}
use Rattle.geometry.specs.Parts.{Part}
use Rattle.job_file.specs.declared.view.JobView.{JobView}
use Rattle.lattice.specs.Cuts.{Plane, plane_of}
use Rattle.lattice.specs.declared.pieces.HatchLine.{HatchLine}
use Rattle.lattice.specs.declared.pieces.ViewSpec.{ViewSpec}
use Rattle.lattice.specs.declared.pieces.ViewSpec.TheVariants.{Plain, Section}
use Rattle.drawing.specs.Strokes.{IsHatchStrokeOn}
use Rattle.sheet_plan.specs.declared.sheet.Sheet.{Sheet}
use Rattle.sheet_plan.specs.declared.sheet.Stroke.{Stroke}
use Rattle.section_look.specs.HatchStrokes.{AreHatchStrokes}
use Rattle.section_look.specs.Looks.{AreLooksFrom, IsLook, LooksOfView}
use Rattle.section_look.specs.declared.looks.SectionLook.{SectionLook}

module _ (sheet : Sheet) where
  abbrev pub HasPlace : Stroke → Type 0
  HasPlace s = s.view < length sheet.places.items

  abbrev pub IsPlaced : SectionLook → Type 0
  IsPlaced look = look.view < length sheet.places.items

  -- ---- strokes
  -- with those of one more look
  pub look_more : (looks : List SectionLook) (look : SectionLook) (strokes here : List Stroke) → AreHatchStrokes sheet looks strokes → AllZip (IsHatchStrokeOn sheet look.view) look.hatches.items here
      → AreHatchStrokes sheet (looks ++ look ∷ []) (strokes ++ here)
  look_more [] look strokes here none zip = (here, [], ap (λ (xs : List Stroke). xs ++ here) none ∙ sym (append-nil here), zip, refl)
  look_more (first ∷ looks) look strokes here (own, rest, together, zip_own, others) zip =
      (own, rest ++ here, ap (λ (xs : List Stroke). xs ++ here) together ∙ append_assoc own rest here, zip_own, look_more looks look rest here others zip)

  in_place : (view : ℕ) (line : HatchLine) (s : Stroke) → IsHatchStrokeOn sheet view line s → HasPlace s
  in_place view line s (place, at, drawn) = let within = slice_get_within sheet.places.items view place at in omega (arith, drawn.view_is, within)

  in_view : (view : ℕ) (lines : List HatchLine) (strokes : List Stroke) → AllZip (IsHatchStrokeOn sheet view) lines strokes → All HasPlace strokes
  in_view view [] [] zip = All-nil HasPlace
  in_view view [] (s ∷ strokes) zip = absurd zip
  in_view view (line ∷ lines) [] zip = absurd zip
  in_view view (line ∷ lines) (s ∷ strokes) (drawn, more) = All-cons HasPlace s strokes (in_place view line s drawn) (in_view view lines strokes more)

  pub all_in_range : (looks : List SectionLook) (strokes : List Stroke) → AreHatchStrokes sheet looks strokes → All HasPlace strokes
  all_in_range [] strokes none = All-same HasPlace strokes [] none (All-nil HasPlace)
  all_in_range (look ∷ looks) strokes (here, rest, together, zip, others) =
      All-same HasPlace strokes (here ++ rest) together (All-append HasPlace here rest (in_view look.view look.hatches.items here zip) (all_in_range looks rest others))

  -- ---- looks
  look_placed : (s : Part) (view : ℕ) (c : Plane) (look : SectionLook) → IsLook sheet s view c look → IsPlaced look
  look_placed s view c look is = let within = slice_get_within sheet.places.items view is.place is.stands in omega (arith, is.number, within)

  view_placed : (s : Part) (view : ℕ) (spec : ViewSpec) (looks : List SectionLook) → LooksOfView sheet s view spec looks → All IsPlaced looks
  view_placed s view (Plain d) looks none = All-same IsPlaced looks [] none (All-nil IsPlaced)
  view_placed s view (Section cut) looks (look, one, is) =
      All-same IsPlaced looks (look ∷ []) one (All-cons IsPlaced look [] (look_placed s view (plane_of cut) look is) (All-nil IsPlaced))

  pub all_placed : (s : Part) (view : ℕ) (views : List JobView) (looks : List SectionLook) → AreLooksFrom sheet s view views looks → All IsPlaced looks
  all_placed s view [] looks none = All-same IsPlaced looks [] none (All-nil IsPlaced)
  all_placed s view (v ∷ views) looks (here, rest, together, own, others) =
      All-same IsPlaced looks (here ++ rest) together (All-append IsPlaced here rest (view_placed s view v.spec here own) (all_placed s (suc view) views rest others))
