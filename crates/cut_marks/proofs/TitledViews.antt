-- What tells the cuts on a page, one view after the other, each with its title.
use Rattle.std.proofs.Common.{◌≡◌, ◌⊎◌, inl, inr, ℕ, zero, suc, ◌+◌, ◌<◌, ◌≤◌, List, [], ◌∷◌, ◌++◌, Some, drop, sym, ap, subst, ◌∙◌, append_assoc, add-one, arith}
use Rattle.std.specs.Prelude.{slice_get}
use Rattle.std.proofs.lemmas.Bool.{cases_lt}
use Rattle.dec_text.specs.declared.number.Length.{Length}
use Rattle.sheet_page.specs.declared.page.Item.{Item}
use Rattle.cut_marks.specs.Items.{items_of_view, items_of_marks, title_at, IsHeadedWell}
use Rattle.cut_marks.specs.declared.views.ViewMarks.{ViewMarks}

module _ (decimals : ℕ) (unit : Length) where
  -- the items of the views from this one on are its own and those of the views behind it, if none has a title
  untitled : (views : List ViewMarks) (k : ℕ) (v : ViewMarks) → slice_get views k ≡ Some v → items_of_marks decimals unit (drop k views) [] ≡ items_of_view decimals unit v [] ++ items_of_marks decimals unit (drop (suc k) views) []
  untitled [] k v at = absurd (cc)
  untitled (w ∷ views) zero v at = let same : w ≡ v = cc in ap (λ (u : ViewMarks). items_of_view decimals unit u [] ++ items_of_marks decimals unit views []) same
  untitled (w ∷ views) (suc k) v at = untitled views k v at

  -- and so with titles
  next : (views : List ViewMarks) (titles : List (List ℕ)) (k : ℕ) (v : ViewMarks) → slice_get views k ≡ Some v
      → items_of_marks decimals unit (drop k views) (drop k titles) ≡ items_of_view decimals unit v (title_at titles k) ++ items_of_marks decimals unit (drop (suc k) views) (drop (suc k) titles)
  next [] titles k v at = absurd (cc)
  next (w ∷ views) [] zero v at = untitled (w ∷ views) zero v at
  next (w ∷ views) (title ∷ titles) zero v at = let same : w ≡ v = cc in ap (λ (u : ViewMarks). items_of_view decimals unit u title ++ items_of_marks decimals unit views titles) same
  next (w ∷ views) [] (suc k) v at = untitled views k v at
  next (w ∷ views) (title ∷ titles) (suc k) v at = next views titles k v at

  module _ (views : List ViewMarks) (titles : List (List ℕ)) (k : ℕ) (v : ViewMarks) (at : slice_get views k ≡ Some v) where
    pub one_view_more : (before after : List Item) → after ≡ before ++ items_of_view decimals unit v (title_at titles k) → before ++ items_of_marks decimals unit (drop k views) (drop k titles) ≡ items_of_marks decimals unit views titles
        → after ++ items_of_marks decimals unit (drop (k + 1) views) (drop (k + 1) titles) ≡ items_of_marks decimals unit views titles
    one_view_more before after own all =
        let behind = λ (n : ℕ). items_of_marks decimals unit (drop n views) (drop n titles) in
        ap (λ (n : ℕ). after ++ behind n) (add-one k)
        ∙ ap (λ (items : List Item). items ++ behind (suc k)) own
        ∙ append_assoc before (items_of_view decimals unit v (title_at titles k)) (behind (suc k))
        ∙ ap (λ (items : List Item). before ++ items) (sym (next views titles k v at))
        ∙ all

    pub one_heading_more : IsHeadedWell decimals unit v (title_at titles k) → ((j : ℕ) (w : ViewMarks) → j < k → slice_get views j ≡ Some w → IsHeadedWell decimals unit w (title_at titles j))
        → (j : ℕ) (w : ViewMarks) → j < k + 1 → slice_get views j ≡ Some w → IsHeadedWell decimals unit w (title_at titles j)
    one_heading_more own before j w less here = by (cases_lt j k)
      where
        same : (i : ℕ) → k ≡ i → slice_get views i ≡ Some w → v ≡ w
        same i e there = cc

        by : (j < k) ⊎ (k ≤ j) → IsHeadedWell decimals unit w (title_at titles j)
        by (inl first) = before j w first here
        by (inr last) =
            let e : k ≡ j = omega (arith, less, last) in
            subst (λ (u : ViewMarks). IsHeadedWell decimals unit u (title_at titles j)) (same j e here) (subst (λ (i : ℕ). IsHeadedWell decimals unit v (title_at titles i)) e own)
