-- Lists of any elements: fronts, what stands at an index, and lists with one more.
use Rattle.std.proofs.Common.{◌≡◌, ℕ, zero, suc, ◌+◌, ◌<◌, ◌⊎◌, inl, inr, List, [], ◌∷◌, ◌++◌, Contains, Some, length, take, get_or, slice_get, refl, sym, ap, ◌∙◌, arith}
use Rattle.std.proofs.lemmas.List.{take_more}

pub front_more : {X : Type 0} (xs : List X) (k : ℕ) (x : X) → k < length xs → get_or xs k x ≡ x → take k xs ++ x ∷ [] ≡ take (k + 1) xs
front_more xs k x within at = sym (take_more xs k x within ∙ ap (λ y. take k xs ++ y ∷ []) at)

pub some_element : {X : Type 0} (xs : List X) (i : ℕ) → i < length xs → (x : X) × (slice_get xs i ≡ Some x)
some_element [] i h = absurd (omega arith)
some_element (x ∷ xs) zero h = (x, refl)
some_element (x ∷ xs) (suc i) h = some_element xs i (omega arith)

pub slice_get_push : {X : Type 0} (xs : List X) (y : X) (i : ℕ) (z : X) → slice_get (xs ++ y ∷ []) i ≡ Some z → (slice_get xs i ≡ Some z) ⊎ ((i ≡ length xs) × (y ≡ z))
slice_get_push [] y zero z e = inr (refl, cc)
slice_get_push [] y (suc i) z e = absurd (cc)
slice_get_push (x ∷ xs) y zero z e = inl e
slice_get_push (x ∷ xs) y (suc i) z e = more (slice_get_push xs y i z e)
  where
    more : (slice_get xs i ≡ Some z) ⊎ ((i ≡ length xs) × (y ≡ z)) → (slice_get xs i ≡ Some z) ⊎ ((suc i ≡ suc (length xs)) × (y ≡ z))
    more (inl h) = inl h
    more (inr (h, k)) = inr (ap suc h, k)

pub Contains-later : {X : Type 0} (x : X) (xs : List X) (y : X) → Contains xs y → Contains (x ∷ xs) y
Contains-later x xs y (k, h, is) = (suc k, omega arith, is)
