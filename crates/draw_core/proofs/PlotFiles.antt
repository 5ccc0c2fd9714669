-- The files of the plotters that were chosen are those that the job's outputs name.
use Rattle.std.proofs.Common.{◌≡◌, ℕ, ℤ, List, [], ◌∷◌, length, map, Option, Some, option_map, Bool, true, false, cond, refl, sym, ap, ◌∙◌, arith}
use Rattle.std.specs.List.{find}
use Rattle.std.specs.Str.{bytes_eq}
use Rattle.std.proofs.lemmas.Slice.Eq.{bytes_eq-Decides}
use Rattle.plot_rack.specs.Choices.{first_with, AreChosen}
use Rattle.plot_rack.specs.Plotters.{Plot, drawn, AreDrawn}
use Rattle.sheet_plan.specs.declared.sheet.Sheet.{Sheet}
use Rattle.sheet_plan.specs.declared.sheet.Stroke.{Stroke}
use Rattle.draw_core.specs.Drawing.{paper_of, plot_file}
use Rattle.draw_core.specs.inner.Made.{file_of_plot}
use Rattle.draw_core.specs.Outputs.{plot_name}
use Rattle.draw_core.proofs.Unmet.{find_map}

cond_passes : {B : Type 0} (p : B → Bool) (b : Bool) (y x : B) (rest : Option B) → p y ≡ b → cond b (Some y) rest ≡ Some x → (rest ≡ Some x → p x ≡ true) → p x ≡ true
cond_passes p true y x rest is found later = let same : y ≡ x = cc in sym (ap p same) ∙ is
cond_passes p false y x rest is found later = later found

-- what is found passes
passes : {B : Type 0} (p : B → Bool) (xs : List B) (x : B) → find p xs ≡ Some x → p x ≡ true
passes p [] x found = absurd (cc)
passes p (y ∷ ys) x found = cond_passes p (p y) y x (find p ys) refl found (λ rest. passes p ys x rest)

module _ {B : Type 0} (plot_of : B → Plot) (all : List B) (sheet : Sheet) (strokes : List Stroke) (out : List ℕ) where
  abbrev page : ℤ × ℤ
  page = (sheet.width, sheet.height)

  abbrev first : List ℕ → Option B
  first = first_with (λ b. (plot_of b).suffix) all

  one_file : (b c : B) (name : List ℕ) → first name ≡ Some b → plot_of c ≡ drawn page strokes (plot_of b) → file_of_plot out (plot_of c) ≡ plot_file (map plot_of all) sheet strokes out name
  one_file b c name found drew =
      let suffix : (plot_of b).suffix ≡ name = (bytes_eq-Decides (plot_of b).suffix name).0 (passes (λ (x : B). bytes_eq (plot_of x).suffix name) all b found) in
      let plot : first_with (λ (p : Plot). p.suffix) (map plot_of all) name ≡ Some (plot_of b) = find_map plot_of (λ (p : Plot). bytes_eq p.suffix name) all ∙ ap (option_map plot_of) found in
      ap (file_of_plot out) drew ∙ (λ i. (plot_name out (suffix i), paper_of (sym plot i) page strokes))

  pub files_are : (names : List (List ℕ)) (rack drew : List B) → AreChosen (λ b. (plot_of b).suffix) all names rack → AreDrawn plot_of page strokes rack drew
      → map (λ b. file_of_plot out (plot_of b)) drew ≡ map (plot_file (map plot_of all) sheet strokes out) names
  files_are [] [] [] chosen done = refl
  files_are [] [] (c ∷ cs) chosen done = absurd (cc)
  files_are [] (b ∷ bs) drew chosen done = absurd (cc)
  files_are (name ∷ names) [] drew chosen done = absurd (cc)
  files_are (name ∷ names) (b ∷ bs) [] chosen done = absurd (cc)
  files_are (name ∷ names) (b ∷ bs) (c ∷ cs) chosen done =
      let found : first name ≡ Some b = cc in
      let others : map first names ≡ map Some bs = cc in
      let drew : plot_of c ≡ drawn page strokes (plot_of b) = cc in
      let rest : map plot_of cs ≡ map (λ (x : B). drawn page strokes (plot_of x)) bs = cc in
      (λ i. one_file b c name found drew i ∷ files_are names bs cs others rest i)

-- no boxes have drawn
pub none_drawn : {B : Type 0} (plot_of : B → Plot) (page : ℤ × ℤ) (strokes : List Stroke) (boxes : List B) → length boxes ≡ 0 → AreDrawn plot_of page strokes boxes boxes
none_drawn plot_of page strokes [] none = refl
none_drawn plot_of page strokes (b ∷ bs) none = absurd (omega arith)
