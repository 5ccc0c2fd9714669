-- Texts that are written part by part.
use Rattle.std.proofs.Common.{◌≡◌, ℕ, ◌+◌, ◌++◌, List, length, drop, ◌≤◌, sym, ap, ◌∙◌, add-one, append_assoc}
use Rattle.std.specs.List.{flat_map}
use Rattle.std.proofs.lemmas.List.{append-nil, drop_all}
use Rattle.sheet_page.specs.Svg.{group, groups_below}
use Rattle.sheet_page.specs.declared.page.Item.{Item}
use Rattle.sheet_page.specs.declared.pens.Pens.{Pens}

-- after the last of a list nothing is left
pub all_written : {A : Type 0} (f : A → List ℕ) (xs : List A) (n : ℕ) (text start : List ℕ) → text ++ flat_map f (drop n xs) ≡ start ++ flat_map f xs → length xs ≤ n → text ≡ start ++ flat_map f xs
all_written f xs n text start so_far last = sym (append-nil text) ∙ sym (ap (λ ys. text ++ flat_map f ys) (drop_all n xs last)) ∙ so_far

-- four parts, one after the other
pub four_parts : (start a b c all first second third fourth : List ℕ) → a ≡ start ++ first → b ≡ a ++ second → c ≡ b ++ third → all ≡ c ++ fourth → all ≡ start ++ (first ++ second ++ third ++ fourth)
four_parts start a b c all first second third fourth p q r s =
    s ∙ (λ i. (r ∙ (λ j. (q ∙ (λ k. p k ++ second)) j ++ third)) i ++ fourth) ∙ (simp append_assoc)

-- one more view
pub after_view : (pens : Pens) (new text before : List ℕ) (view : ℕ) (items : List Item) → new ≡ text ++ group pens view items → text ≡ before ++ groups_below pens view items → new ≡ before ++ groups_below pens (view + 1) items
after_view pens new text before view items step all =
    step ∙ ap (λ xs. xs ++ group pens view items) all ∙ (rw add-one (append_assoc before (groups_below pens view items) (group pens view items)))
