-- Tests of lists, and the values of arrays.
use Rattle.std.proofs.Common.{◌≡◌, ℕ, ◌+◌, ◌<◌, Bool, ◌&&◌, List, [], ◌∷◌, length, get_or, drop, refl, sym, ap, ◌∙◌}
use Rattle.std.proofs.lemmas.List.{at_drop_more}
use Rattle.std.specs.List.{list_all}
use Rattle.toml.specs.Data.{Data}
use Rattle.toml.specs.View.{items_of}
use Rattle.job_file.specs.Arrays.{values_in}

-- a test of all elements from one on, by that one and the rest
pub list_all-drop : {A : Type 0} (p : A → Bool) (xs : List A) (n : ℕ) (x : A) → (n < length xs) × (x ≡ get_or xs n x) → list_all p (drop n xs) ≡ (p x && list_all p (drop (n + 1) xs))
list_all-drop p xs n x h = at_drop_more (list_all p) xs n x h.0 ∙ ap (λ y. p y && list_all p (drop (n + 1) xs)) (sym h.1)

pub values_in-items : (ds : List Data) → values_in (items_of ds) ≡ ds
values_in-items [] = refl
values_in-items (d ∷ ds) = ap (λ es. d ∷ es) (values_in-items ds)
