-- Lists of any elements: what is among them, and lists in one order.
use Rattle.std.proofs.Common.{◌≡◌, ℕ, zero, suc, ◌<◌, ◌⊎◌, inl, inr, List, [], ◌∷◌, ◌++◌, Contains, Option, Some, map, refl, sym, subst, ap, ◌∙◌, arith}
use Rattle.std.specs.List.{All, AllPairs, Any, filter_map, flat_map}
use Rattle.std.proofs.lemmas.List.Elements.{All-head, All-tail, Contains-append_cases}
use Rattle.integers.proofs.Lists.{Contains-later}

abbrev pub Among : {X : Type 0} → List X → X → Type 0
Among [] x = ⊥
Among (y ∷ ys) x = (y ≡ x) ⊎ Among ys x

pub all_among : {X : Type 0} (P : X → Type 0) (xs : List X) → All P xs → (x : X) → Among xs x → P x
all_among P [] all x m = absurd m
all_among P (y ∷ ys) all x (inl e) = subst P e (All-head P y ys all)
all_among P (y ∷ ys) all x (inr m) = all_among P ys (All-tail P y ys all) x m

among_contains : {X : Type 0} (xs : List X) (x : X) → Among xs x → Contains xs x
among_contains [] x m = absurd m
among_contains (y ∷ ys) x (inl e) = (zero, omega arith, e)
among_contains (y ∷ ys) x (inr m) = Contains-later y ys x (among_contains ys x m)

pub any_among : {X : Type 0} (P : X → Type 0) (xs : List X) (x : X) → Among xs x → P x → Any P xs
any_among P xs x m p = let (k, less, is) = among_contains xs x m in (k, x, less, is, p)

-- ---- pairs
pub pairs_first : {X : Type 0} (R : X → X → Type 0) (x : X) (xs : List X) → AllPairs R (x ∷ xs) → All (R x) xs
pairs_first R x xs pairs k e less = pairs zero (suc k) e (omega arith) (omega arith)

pub pairs_rest : {X : Type 0} (R : X → X → Type 0) (x : X) (xs : List X) → AllPairs R (x ∷ xs) → AllPairs R xs
pairs_rest R x xs pairs i j e less within = pairs (suc i) (suc j) e (omega arith) (omega arith)

pub pairs_after : {X : Type 0} (R : X → X → Type 0) (xs ys : List X) → AllPairs R (xs ++ ys) → AllPairs R ys
pairs_after R [] ys pairs = pairs
pairs_after R (x ∷ xs) ys pairs = pairs_after R xs ys (pairs_rest R x (xs ++ ys) pairs)

-- ---- lists that are joined
module _ {X Y : Type 0} (f : X → Y) where
  pub all_in_front : (P : Y → Type 0) (xs : List X) (ys : List Y) → All P (map f xs ++ ys) → (x : X) → Among xs x → P (f x)
  all_in_front P [] ys all x m = absurd m
  all_in_front P (w ∷ xs) ys all x (inl e) = subst (λ v. P (f v)) e (All-head P (f w) (map f xs ++ ys) all)
  all_in_front P (w ∷ xs) ys all x (inr m) = all_in_front P xs ys (All-tail P (f w) (map f xs ++ ys) all) x m

  in_mapped : (xs : List X) (y : Y) → Contains (map f xs) y → (x : X) × Among xs x × (f x ≡ y)
  in_mapped [] y (k, less, is) = absurd (omega arith)
  in_mapped (x ∷ xs) y (zero, less, is) = (x, inl refl, is)
  in_mapped (x ∷ xs) y (suc k, less, is) = let (w, m, e) = in_mapped xs y (k, omega arith, is) in (w, inr m, e)

  pub in_joined : {Z : Type 0} (g : Z → List X) (zs : List Z) (y : Y) → Contains (flat_map (λ z. map f (g z)) zs) y → (z : Z) × Among zs z × (x : X) × Among (g z) x × (f x ≡ y)
  in_joined g [] y (k, less, is) = absurd (omega arith)
  in_joined {Z} g (z ∷ zs) y there =
      elim (Contains-append_cases (map f (g z)) (flat_map (λ z. map f (g z)) zs) y there) [
        | inl here ↦ let (x, m, e) = in_mapped (g z) y here in (z, inl refl, x, m, e)
        | inr later ↦ let (w, n, x, m, e) = in_joined g zs y later in (w, inr n, x, m, e)
      ]

-- ---- lists whose elements are all there
options_back : {X : Type 0} (xs : List X) → filter_map (λ (o : Option X). o) (map Some xs) ≡ xs
options_back [] = refl
options_back (x ∷ xs) = ap (λ ys. x ∷ ys) (options_back xs)

pub same_of_options : {X : Type 0} (xs ys : List X) → map Some xs ≡ map Some ys → xs ≡ ys
same_of_options {X} xs ys e = sym (options_back xs) ∙ (ap (filter_map (λ (o : Option X). o)) e ∙ options_back ys)

-- ---- lists in one order
module _ {X : Type 0} (f : X → ℕ) where
  -- of lists with the same elements in an order the first elements are the same
  first_same : (x y : X) (xs ys : List X) → All (λ z. f x < f z) xs → All (λ z. f y < f z) ys → Among (y ∷ ys) x → Among (x ∷ xs) y → x ≡ y
  first_same x y xs ys after_x after_y (inl e) q = sym e
  first_same x y xs ys after_x after_y (inr p) (inl e) = e
  first_same x y xs ys after_x after_y (inr p) (inr q) =
      let more = all_among (λ z. f x < f z) xs after_x y q in
      let less = all_among (λ z. f y < f z) ys after_y x p in
      absurd (omega arith)

  -- what is after the first is after the first of the other list too
  later_too : (x y : X) (xs ys : List X) → x ≡ y → All (λ z. f x < f z) xs → ((z : X) → Among (x ∷ xs) z → Among (y ∷ ys) z) → (z : X) → Among xs z → Among ys z
  later_too x y xs ys same after in_other z m =
      let more = all_among (λ z. f x < f z) xs after z m in
      elim (in_other z (inr m)) [
        | inl e ↦ absurd (let as_much = ap f (same ∙ e) in omega arith)
        | inr n ↦ n
      ]

  pub one_ordered : (xs ys : List X) → AllPairs (λ x y. f x < f y) xs → AllPairs (λ x y. f x < f y) ys → ((z : X) → Among xs z → Among ys z) → ((z : X) → Among ys z → Among xs z) → xs ≡ ys
  one_ordered [] [] p q in_other back = refl
  one_ordered [] (y ∷ ys) p q in_other back = absurd (back y (inl refl))
  one_ordered (x ∷ xs) [] p q in_other back = absurd (in_other x (inl refl))
  one_ordered (x ∷ xs) (y ∷ ys) p q in_other back =
      let R : X → X → Type 0 = λ v w. f v < f w in
      let after_x = pairs_first R x xs p in
      let after_y = pairs_first R y ys q in
      let same = first_same x y xs ys after_x after_y (in_other x (inl refl)) (back y (inl refl)) in
      let rest = one_ordered xs ys (pairs_rest R x xs p) (pairs_rest R y ys q) (later_too x y xs ys same after_x in_other) (later_too y x ys xs (sym same) after_y back) in
      λ i. same i ∷ rest i
