-- The parts of a page, put together.
use Rattle.std.proofs.Common.{◌≡◌, ℕ, ◌+◌, ◌++◌, List, [], ◌∷◌, length, nat_eq, false, refl, ap, ◌∙◌, add-one, append_assoc, codes}
use Rattle.std.specs.Prelude.{ℤ}
use Rattle.std.specs.List.{flat_map}
use Rattle.sheet_plan.specs.declared.sheet.Stroke.{Stroke}
use Rattle.svg_page.specs.Svg.{escaped, before_title, title_line, group, groups_below}

-- before the first view
pub before_views : (old text new first head title line : List ℕ) → old ≡ [] → text ≡ old ++ first → first ≡ head → new ≡ text ++ title → title ≡ line → new ≡ head ++ line
before_views old text new first head title line none step begin last name = last ∙ (λ i. (step ∙ (λ j. none j ++ begin j)) i ++ name i)

-- one more view
pub after_view : (new text before : List ℕ) (view : ℕ) (strokes : List Stroke) → new ≡ text ++ group view strokes → text ≡ before ++ groups_below view strokes → new ≡ before ++ groups_below (view + 1) strokes
after_view new text before view strokes step all =
    step ∙ ap (λ (xs : List ℕ). xs ++ group view strokes) all ∙ (rw add-one (append_assoc before (groups_below view strokes) (group view strokes)))

-- the line of a title that isn't empty
pub written_title : (height : ℤ) (title : List ℕ) → nat_eq (length title) 0 ≡ false → (before_title height ++ flat_map escaped title) ++ codes "</text>\n" ≡ title_line height title
written_title height [] h = absurd (cc)
written_title height (byte ∷ bytes) h = refl

pub title_end : (height : ℤ) (title old head a b new tail : List ℕ) → nat_eq (length title) 0 ≡ false → a ≡ old ++ head → head ≡ before_title height
    → b ≡ a ++ flat_map escaped title → new ≡ b ++ tail → tail ≡ codes "</text>\n" → new ≡ old ++ title_line height title
title_end height title old head a b new tail some first begin second third end =
    third
    ∙ (λ i. (second ∙ (λ j. (first ∙ (λ k. old ++ begin k)) j ++ flat_map escaped title)) i ++ end i)
    ∙ regrouped (before_title height) (flat_map escaped title) (codes "</text>\n")
    ∙ ap (λ (xs : List ℕ). old ++ xs) (written_title height title some)
  where
    regrouped : (b m t : List ℕ) → ((old ++ b) ++ m) ++ t ≡ old ++ ((b ++ m) ++ t)
    regrouped b m t = simp append_assoc
