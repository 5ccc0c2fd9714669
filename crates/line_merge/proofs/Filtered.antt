-- What a test keeps of a list, one element after the other.
use Rattle.std.proofs.Common.{◌≡◌, ℕ, ◌+◌, ◌<◌, Bool, true, false, List, [], ◌∷◌, ◌++◌, length, take, get_or, sym, ap, ◌∙◌, append-nil}
use Rattle.std.specs.Prelude.{cond}
use Rattle.std.specs.List.{filter}
use Rattle.std.proofs.lemmas.List.{take_more}
use Rattle.std.proofs.lemmas.List.Elements.{filter-append}

module _ {A : Type 0} (test : A → Bool) (xs : List A) (k : ℕ) (x : A) (within : k < length xs) (is : x ≡ get_or xs k x) where
  one_more : take (k + 1) xs ≡ take k xs ++ x ∷ []
  one_more = take_more xs k x within ∙ ap (λ (y : A). take k xs ++ y ∷ []) (sym is)

  pub kept_more : test x ≡ true → filter test (take (k + 1) xs) ≡ filter test (take k xs) ++ x ∷ []
  kept_more kept = ap (filter test) one_more ∙ filter-append test (take k xs) (x ∷ []) ∙ (λ t. filter test (take k xs) ++ cond (kept t) (x ∷ []) [])

  pub kept_same : test x ≡ false → filter test (take (k + 1) xs) ≡ filter test (take k xs)
  kept_same not_kept =
      ap (filter test) one_more ∙ filter-append test (take k xs) (x ∷ []) ∙ (λ t. filter test (take k xs) ++ cond (not_kept t) (x ∷ []) []) ∙ append-nil (filter test (take k xs))
