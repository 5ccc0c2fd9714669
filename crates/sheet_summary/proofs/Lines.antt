-- Whether a plane is near an end, and the end of the lines.
use Rattle.std.proofs.Common.{◌≡◌, ◌⊎◌, inl, inr, ℕ, zero, suc, ◌≤◌, ◌<◌, min, Bool, true, false, List, [], ◌∷◌, ◌++◌, drop, length, refl, sym, ap, ◌∙◌, arith}
use Rattle.std.proofs.lemmas.Bool.{cases_lt}
use Rattle.std.specs.Prelude.{ℤ, pos, ◌-ℤ◌, ◌*ℤ◌, ◌&&◌, ◌||◌}
use Rattle.cut_marks.specs.declared.views.ViewMarks.{ViewMarks}
use Rattle.geometry.specs.Parts.{Part}
use Rattle.job_file.specs.declared.view.JobView.{JobView}
use Rattle.sheet_summary.specs.CutLines.{is_between, is_close, is_near_end, cut_lines}

-- ---- near an end
module _ (twice least greatest before behind extent : ℤ) (before_is : before ≡ twice -ℤ (pos 2 *ℤ least)) (behind_is : behind ≡ (pos 2 *ℤ greatest) -ℤ twice)
    (extent_is : extent ≡ pos 2 *ℤ (greatest -ℤ least)) where
  both : (is_between before behind && (is_close before extent || is_close behind extent)) ≡ is_near_end twice least greatest
  both =
      ap (λ (b : ℤ). is_between b behind && (is_close b extent || is_close behind extent)) before_is
      ∙ ap (λ (h : ℤ). is_between (twice -ℤ (pos 2 *ℤ least)) h && (is_close (twice -ℤ (pos 2 *ℤ least)) extent || is_close h extent)) behind_is
      ∙ ap (λ (e : ℤ). is_between (twice -ℤ (pos 2 *ℤ least)) ((pos 2 *ℤ greatest) -ℤ twice) && (is_close (twice -ℤ (pos 2 *ℤ least)) e || is_close ((pos 2 *ℤ greatest) -ℤ twice) e)) extent_is

  pub near_between : (between near : Bool) → between ≡ is_between before behind → between ≡ true → near ≡ (is_close before extent || is_close behind extent) → near ≡ is_near_end twice least greatest
  near_between between near between_is it_is near_is =
      near_is ∙ ap (λ (b : Bool). b && (is_close before extent || is_close behind extent)) (sym it_is ∙ between_is) ∙ both

  pub far_outside : (between : Bool) → between ≡ is_between before behind → between ≡ false → between ≡ is_near_end twice least greatest
  far_outside between between_is isnt =
      isnt ∙ ap (λ (b : Bool). b && (is_close before extent || is_close behind extent)) (sym isnt ∙ between_is) ∙ both

-- ---- all lines
module _ (s : Part) (decimals : ℕ) (in_units : Bool) where
  none_without : (views : List JobView) → cut_lines s decimals in_units views [] ≡ []
  none_without [] = refl
  none_without (v ∷ views) = refl

  none_left : (views : List JobView) (marks : List ViewMarks) (i : ℕ) → (length views ≤ i) ⊎ (length marks ≤ i) → cut_lines s decimals in_units (drop i views) (drop i marks) ≡ []
  none_left [] marks zero h = refl
  none_left [] marks (suc i) h = refl
  none_left (v ∷ views) [] zero h = refl
  none_left (v ∷ views) [] (suc i) h = none_without (drop i views)
  none_left (v ∷ views) (m ∷ marks) zero (inl h) = absurd (omega (arith, h))
  none_left (v ∷ views) (m ∷ marks) zero (inr h) = absurd (omega (arith, h))
  none_left (v ∷ views) (m ∷ marks) (suc i) (inl h) = none_left views marks i (inl (omega (arith, h)))
  none_left (v ∷ views) (m ∷ marks) (suc i) (inr h) = none_left views marks i (inr (omega (arith, h)))

  under_min : (a b i : ℕ) → min a b ≤ i → (a ≤ i) ⊎ (b ≤ i)
  under_min a b i h = by (cases_lt a b)
    where
      by : (a < b) ⊎ (b ≤ a) → (a ≤ i) ⊎ (b ≤ i)
      by (inl less) = inl (omega (arith, h, less))
      by (inr more) = inr (omega (arith, h, more))

  append_none : (xs : List ℕ) → xs ++ [] ≡ xs
  append_none [] = refl
  append_none (x ∷ xs) = ap (λ ys. x ∷ ys) (append_none xs)

  pub all_lines : (views : List JobView) (marks : List ViewMarks) (i : ℕ) (text whole : List ℕ) → min (length views) (length marks) ≤ i
      → text ++ cut_lines s decimals in_units (drop i views) (drop i marks) ≡ whole → text ≡ whole
  all_lines views marks i text whole none all =
      sym (append_none text) ∙ ap (λ (rest : List ℕ). text ++ rest) (sym (none_left views marks i (under_min (length views) (length marks) i none))) ∙ all
