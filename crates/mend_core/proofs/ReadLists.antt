-- A list that is read element by element.
use Rattle.std.proofs.Common.{◌≡◌, ℕ, ◌+◌, List, [], ◌∷◌, ◌++◌, take, Some, sym, ap, ◌∙◌}
use Rattle.std.specs.Prelude.{slice_get}
use Rattle.std.proofs.lemmas.List.{take_more}
use Rattle.std.proofs.lemmas.Option.{slice_get_within, get_or_from_slice_get}

-- one element more
pub next_read : {X : Type 0} (xs out : List X) (i : ℕ) (x : X) → slice_get xs i ≡ Some x → out ≡ take i xs → out ++ (x ∷ []) ≡ take (i + 1) xs
next_read xs out i x at so_far =
    ap (λ l. l ++ (x ∷ [])) so_far
    ∙ sym (take_more xs i x (slice_get_within xs i x at) ∙ ap (λ y. take i xs ++ (y ∷ [])) (get_or_from_slice_get xs i x x at))
