-- Entries of a table, as contracts see them.
use Rattle.std.proofs.Common.{◌≡◌, List, [], ◌∷◌, map, Bool, Option, Some, None, option_map, refl, inl, inr}
use Rattle.std.proofs.lemmas.Bool.{cases_Bool}
use Rattle.std.specs.List.{find}

pub option_map-twice : {A B C : Type 0} (f : B → C) (g : A → B) (x : Option A) → option_map (λ a. f (g a)) x ≡ option_map f (option_map g x)
option_map-twice f g None = refl
option_map-twice f g (Some a) = refl

-- the first of the elements that f makes
pub find-map : {A B : Type 0} (f : A → B) (test : B → Bool) (xs : List A) → option_map f (find (λ x. test (f x)) xs) ≡ find test (map f xs)
find-map f test [] = refl
find-map f test (x ∷ xs) =
    elim (cases_Bool (test (f x))) [
      | inl met ↦ rw met refl
      | inr other ↦ rw other (find-map f test xs)
    ]
