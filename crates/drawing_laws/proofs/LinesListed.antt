-- Lists with several elements for each of a list, for each two and for each three: what one of them gives is in the whole.
use Rattle.std.proofs.Common.{zero, suc, List, [], ◌∷◌, Contains, flat_map, sym, subst, arith}
use Rattle.std.proofs.lemmas.List.Elements.{Contains-append_left, Contains-append_right}

pub Contains-flat_map : {X A : Type 0} (f : X → List A) (xs : List X) (x : X) (y : A) → Contains xs x → Contains (f x) y → Contains (flat_map f xs) y
Contains-flat_map f [] x y (k, h, is) there = absurd (omega arith)
Contains-flat_map f (z ∷ xs) x y (zero, h, is) there = Contains-append_left (f z) (flat_map f xs) y (subst (λ v. Contains (f v) y) (sym is) there)
Contains-flat_map f (z ∷ xs) x y (suc k, h, is) there = Contains-append_right (f z) (flat_map f xs) y (Contains-flat_map f xs x y (k, omega arith, is) there)

-- ---- for each two elements, and for each three
module _ {X A : Type 0} (xs : List X) where
  abbrev pub for_two : (X → X → List A) → List A
  for_two f = flat_map (λ x. flat_map (λ y. f x y) xs) xs

  abbrev pub for_three : (X → X → X → List A) → List A
  for_three f = flat_map (λ x. for_two (λ y z. f x y z)) xs

  pub Contains-for_two : (f : X → X → List A) (x y : X) (l : A) → Contains xs x → Contains xs y → Contains (f x y) l → Contains (for_two f) l
  Contains-for_two f x y l in_x in_y there =
      Contains-flat_map (λ u. flat_map (λ v. f u v) xs) xs x l in_x (Contains-flat_map (λ v. f x v) xs y l in_y there)

  pub Contains-for_three : (f : X → X → X → List A) (x y z : X) (l : A) → Contains xs x → Contains xs y → Contains xs z → Contains (f x y z) l → Contains (for_three f) l
  Contains-for_three f x y z l in_x in_y in_z there =
      Contains-flat_map (λ u. for_two (λ v w. f u v w)) xs x l in_x (Contains-for_two (λ v w. f x v w) y z l in_y in_z there)

-- ---- the first elements
pub Contains-first : {X : Type 0} (x : X) (xs : List X) → Contains (x ∷ xs) x
Contains-first x xs = (0, omega arith, λ i. x)

pub Contains-second : {X : Type 0} (x y : X) (xs : List X) → Contains (x ∷ y ∷ xs) y
Contains-second x y xs = (1, omega arith, λ i. y)

pub Contains-third : {X : Type 0} (x y z : X) (xs : List X) → Contains (x ∷ y ∷ z ∷ xs) z
Contains-third x y z xs = (2, omega arith, λ i. z)
