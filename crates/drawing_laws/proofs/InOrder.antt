-- Two lists that stand in order, and of which each element has its like in the other, are alike place by place.
use Rattle.std.proofs.Common.{◌≡◌, ℕ, zero, suc, ◌<◌, List, [], ◌∷◌, Contains, length, get_or, refl, sym, ap, subst, ◌∙◌, arith}
use Rattle.std.specs.List.{AllZip, AllPairs}
use Rattle.std.proofs.lemmas.List.{get_or_default}
use Rattle.integers.proofs.Lists.{Contains-later}

-- what stands at a place of a list
pub same_at : {A : Type 0} (xs : List A) (x y : A) (i j : ℕ) → i ≡ j → i < length xs → get_or xs i x ≡ x → get_or xs j y ≡ y → x ≡ y
same_at xs x y i j same within e f = sym e ∙ get_or_default xs i x y within ∙ ap (λ k. get_or xs k y) same ∙ f

pub pair_at : {A : Type 0} (R : A → A → Type 0) (xs : List A) (x y : A) (i j : ℕ) → AllPairs R xs → i < j → j < length xs → get_or xs i x ≡ x → get_or xs j y ≡ y → R x y
pair_at R xs x y i j pairs less within e f = subst (λ v. R v y) (get_or_default xs i y x (omega arith) ∙ e) (subst (R (get_or xs i y)) f (pairs i j y less within))

module _ {A : Type 0} (R Before : A → A → Type 0) (turned : (x y : A) → R x y → R y x) (one_way : (x y : A) → Before x y → Before y x → ⊥)
    (kept : (x y v w : A) → R x y → R v w → Before x v → Before y w) where
  -- each element of xs has its like in ys
  abbrev AreIn : List A → List A → Type 0
  AreIn xs ys = (x : A) → Contains xs x → (y : A) × Contains ys y × R x y

  rest_in_order : (x : A) (xs : List A) → AllPairs Before (x ∷ xs) → AllPairs Before xs
  rest_in_order x xs h i j d less within = h (suc i) (suc j) d (omega arith) (omega arith)

  behind : (x y : A) (xs : List A) → AllPairs Before (x ∷ xs) → Contains xs y → Before x y
  behind x y xs h (k, less, e) = subst (Before x) e (h 0 (suc k) y (omega arith) (omega (arith, less)))

  -- the first of one list, and the first of the other
  first_alike : (x y : A) (xs ys : List A) → AllPairs Before (x ∷ xs) → AllPairs Before (y ∷ ys)
      → (v : A) → Contains (y ∷ ys) v → R x v → (w : A) → Contains (x ∷ xs) w → R w y → R x y
  first_alike x y xs ys p q v (zero, less, e) r w there s = subst (R x) (sym e) r
  first_alike x y xs ys p q v (suc k, less, e) r w (zero, within, f) s = subst (λ (u : A). R u y) (sym f) s
  first_alike x y xs ys p q v (suc k, less, e) r w (suc j, within, f) s =
      absurd (one_way y v (behind y v ys q (k, omega (arith, less), e)) (kept x v w y r s (behind x w xs p (j, omega (arith, within), f))))

  -- what is behind the first of one list has its like behind the first of the other
  others_in : (x y : A) (xs ys : List A) → R x y → AllPairs Before (x ∷ xs) → AreIn (x ∷ xs) (y ∷ ys) → AreIn xs ys
  others_in x y xs ys r p f v there = by (f v (Contains-later x xs v there))
    where
      by : (w : A) × Contains (y ∷ ys) w × R v w → (w : A) × Contains ys w × R v w
      by (w, (zero, less, e), s) = let after = kept x y v y r (subst (R v) (sym e) s) (behind x v xs p there) in absurd (one_way y y after after)
      by (w, (suc k, less, e), s) = (w, (k, omega (arith, less), e), s)

  pub alike_in_order : (xs ys : List A) → AllPairs Before xs → AllPairs Before ys → AreIn xs ys → AreIn ys xs → AllZip R xs ys
  alike_in_order [] [] p q f g = tt
  alike_in_order [] (y ∷ ys) p q f g = let (x, (k, less, e), r) = g y (0, omega arith, refl) in absurd (omega (arith, less))
  alike_in_order (x ∷ xs) [] p q f g = let (y, (k, less, e), r) = f x (0, omega arith, refl) in absurd (omega (arith, less))
  alike_in_order (x ∷ xs) (y ∷ ys) p q f g =
      let (v, there, r) = f x (0, omega arith, refl) in
      let (w, back, s) = g y (0, omega arith, refl) in
      let first : R x y = first_alike x y xs ys p q v there r w back (turned y w s) in
      (first, alike_in_order xs ys (rest_in_order x xs p) (rest_in_order y ys q) (others_in x y xs ys first p f) (others_in y x ys xs (turned x y first) q g))
