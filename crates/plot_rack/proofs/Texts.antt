-- Which texts a rack has where its plotters have drawn.
use Rattle.std.proofs.Common.{◌≡◌, ℕ, zero, suc, ℤ, List, [], ◌∷◌, map, Option, Some, None, option_map, refl, ap, sym, ◌∙◌}
use Rattle.std.specs.Prelude.{slice_get, IsSome}
use Rattle.std.proofs.lemmas.Option.{slice_get-map}
use Rattle.sheet_plan.specs.declared.sheet.Stroke.{Stroke}
use Rattle.plot_rack.specs.Choices.{first_with, AreChosen}
use Rattle.plot_rack.specs.Plotters.{Plot, drawn, text_of, AreDrawn}

module _ {B : Type 0} (plot_of : B → Plot) (page : ℤ × ℤ) (strokes : List Stroke) where
  -- what one of them was before it drew
  pub record HasDrawn (old : List B) (i : ℕ) (b : B) : Type 0 where
    pub before : B
    pub was : slice_get old i ≡ Some before
    pub is : plot_of b ≡ drawn page strokes (plot_of before)

  pub has_drawn : (i : ℕ) (old new : List B) (b : B) → AreDrawn plot_of page strokes old new → slice_get new i ≡ Some b → HasDrawn old i b
  has_drawn i old [] b done here = absurd (cc)
  has_drawn i [] (y ∷ ys) b done here = absurd (cc)
  has_drawn zero (o ∷ os) (y ∷ ys) b done here =
      let first : plot_of y ≡ drawn page strokes (plot_of o) = cc in
      let same : y ≡ b = cc in
      record { before = o; was = refl; is = ap plot_of (sym same) ∙ first }
  has_drawn (suc i) (o ∷ os) (y ∷ ys) b done here =
      let rest : map plot_of ys ≡ map (λ (c : B). drawn page strokes (plot_of c)) os = cc in
      let more = has_drawn i os ys b rest here in
      record { before = more.before; was = more.was; is = more.is }

  -- it has begun a page
  pub begun_after : (i : ℕ) (old new : List B) (b : B) → AreDrawn plot_of page strokes old new → slice_get new i ≡ Some b → IsSome (plot_of b).page
  begun_after i old new b done here =
      let d = has_drawn i old new b done here in
      rw d.is refl

  -- and its text is what the paper of the first box with its name's suffix says of the page and the strokes
  pub paper_of_first : (boxes chosen new : List B) (names : List (List ℕ)) (i : ℕ) (name text : List ℕ) → AreChosen (λ b. (plot_of b).suffix) boxes names chosen
      → AreDrawn plot_of page strokes chosen new → slice_get names i ≡ Some name → option_map (λ b. text_of (plot_of b)) (slice_get new i) ≡ Some (Some text)
      → option_map (λ b. (plot_of b).paper page strokes) (first_with (λ b. (plot_of b).suffix) boxes name) ≡ Some text
  paper_of_first boxes chosen new names i name text named done here tells = go (slice_get new i) refl tells
    where
      first : List ℕ → Option B
      first = first_with (λ b. (plot_of b).suffix) boxes

      chosen_at : (b : B) → slice_get chosen i ≡ Some b → first name ≡ Some b
      chosen_at b was =
          let both : Some (first name) ≡ Some (Some b) =
          sym (ap (option_map first) here) ∙ sym (slice_get-map first names i) ∙ ap (λ (l : List (Option B)). slice_get l i) named
          ∙ slice_get-map Some chosen i ∙ ap (option_map Some) was in
          cc

      go : (o : Option B) → slice_get new i ≡ o → option_map (λ (b : B). text_of (plot_of b)) o ≡ Some (Some text)
          → option_map (λ (b : B). (plot_of b).paper page strokes) (first name) ≡ Some text
      go None is told = absurd (cc)
      go (Some b) is told =
          let d = has_drawn i chosen new b done is in
          let has : text_of (plot_of b) ≡ Some text = cc in
          rw (chosen_at d.before d.was) (sym (ap text_of d.is) ∙ has)
