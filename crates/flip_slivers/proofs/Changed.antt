-- Lists after a change: what stands at a place that was set, at the others, and at the places of a mapped list.
use Rattle.std.proofs.Common.{◌≡◌, ℕ, zero, suc, List, [], ◌∷◌, Contains, Some, map, set, slice_get, refl, ap, ◌∙◌}
use Rattle.std.specs.Option.{option_map}
use Rattle.std.proofs.lemmas.Option.{slice_get_within, get_or_from_slice_get, slice_get-map}

pub set_same : {X : Type 0} (xs : List X) (i : ℕ) (x y : X) → slice_get xs i ≡ Some x → slice_get (set xs i y) i ≡ Some y
set_same [] i x y at = absurd (cc)
set_same (z ∷ xs) zero x y at = refl
set_same (z ∷ xs) (suc i) x y at = set_same xs i x y at

pub set_other : {X : Type 0} (xs : List X) (i j : ℕ) (y : X) → (j ≡ i → ⊥) → slice_get (set xs i y) j ≡ slice_get xs j
set_other [] i j y differ = refl
set_other (x ∷ xs) zero zero y differ = absurd (differ refl)
set_other (x ∷ xs) zero (suc j) y differ = refl
set_other (x ∷ xs) (suc i) zero y differ = refl
set_other (x ∷ xs) (suc i) (suc j) y differ = set_other xs i j y (λ e. differ (ap suc e))

pub map_place : {X Y : Type 0} (f : X → Y) (xs : List X) (i : ℕ) (x : X) → slice_get xs i ≡ Some x → slice_get (map f xs) i ≡ Some (f x)
map_place f xs i x at = slice_get-map f xs i ∙ ap (option_map f) at

pub map_place_back : {X Y : Type 0} (f : X → Y) (xs : List X) (i : ℕ) (y : Y) → slice_get (map f xs) i ≡ Some y → (x : X) × (slice_get xs i ≡ Some x) × (f x ≡ y)
map_place_back f [] i y at = absurd (cc)
map_place_back f (x ∷ xs) zero y at = (x, refl, same (f x) y at)
  where
    same : {Y : Type 0} (x y : Y) → Some x ≡ Some y → x ≡ y
    same x y e = cc
map_place_back f (x ∷ xs) (suc i) y at = map_place_back f xs i y at

pub Contains-place : {X : Type 0} (xs : List X) (i : ℕ) (x : X) → slice_get xs i ≡ Some x → Contains xs x
Contains-place xs i x at = (i, slice_get_within xs i x at, get_or_from_slice_get xs i x x at)
