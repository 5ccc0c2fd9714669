-- Sums of whole numbers over lists.
use Rattle.std.proofs.Common.{◌≡◌, ℕ, suc, ◌+◌, List, [], ◌∷◌, ◌++◌, All, sum_by, refl, sym, ap, ◌∙◌, arith}
use Rattle.std.specs.Prelude.{ℤ, pos, negsuc, ◌+ℤ◌, ◌-ℤ◌, Option, Some, None, IsPermutation}
use Rattle.std.specs.List.{filter_map}
use Rattle.std.proofs.lemmas.Int.{ints}
use Rattle.std.proofs.lemmas.List.Elements.{All-head, All-tail}
use Rattle.std.proofs.lemmas.List.Sums.{sum_by-cons}
use Rattle.std.proofs.lemmas.List.Sorted.{sum_by-IsPermutation}
use Rattle.hiding_laws.specs.Sums.{total}

-- ---- whole numbers as differences
up : ℤ → ℕ
up (pos n) = n
up (negsuc n) = 0

down : ℤ → ℕ
down (pos n) = 0
down (negsuc n) = suc n

difference_is : (z : ℤ) → z ≡ pos (up z) -ℤ pos (down z)
unfolding up down
difference_is (pos n) = omega (arith, ints)
difference_is (negsuc n) = omega (arith, ints)

module _ {A : Type 0} where
  pub total_append : (f : A → ℤ) (xs ys : List A) → total f (xs ++ ys) ≡ total f xs +ℤ total f ys
  total_append f [] ys = nothing (total f ys)
    where
      nothing : (z : ℤ) → z ≡ pos 0 +ℤ z
      nothing z = omega (arith, ints)
  total_append f (x ∷ xs) ys = more (f x) (total f xs) (total f ys) (total f (xs ++ ys)) (total_append f xs ys)
    where
      more : (x y z s : ℤ) → s ≡ y +ℤ z → x +ℤ s ≡ (x +ℤ y) +ℤ z
      more x y z s e = omega (arith, ints)

  pub total_push : (f : A → ℤ) (xs : List A) (x : A) → total f (xs ++ x ∷ []) ≡ total f xs +ℤ f x
  total_push f xs x = total_append f xs (x ∷ []) ∙ last (total f xs) (f x)
    where
      last : (s z : ℤ) → s +ℤ (z +ℤ pos 0) ≡ s +ℤ z
      last s z = omega (arith, ints)

  -- sums of the same numbers
  pub total_same : (f g : A → ℤ) (xs : List A) → All (λ x. f x ≡ g x) xs → total f xs ≡ total g xs
  total_same f g [] h = refl
  total_same f g (x ∷ xs) h = both (f x) (g x) (total f xs) (total g xs) (All-head (λ x. f x ≡ g x) x xs h) (total_same f g xs (All-tail (λ x. f x ≡ g x) x xs h))
    where
      both : (x y s t : ℤ) → x ≡ y → s ≡ t → x +ℤ s ≡ y +ℤ t
      both x y s t e i = omega (arith, ints)

  pub total_none : (f : A → ℤ) (xs : List A) → All (λ x. f x ≡ pos 0) xs → total f xs ≡ pos 0
  total_none f [] h = refl
  total_none f (x ∷ xs) h = both (f x) (total f xs) (All-head (λ x. f x ≡ pos 0) x xs h) (total_none f xs (All-tail (λ x. f x ≡ pos 0) x xs h))
    where
      both : (x s : ℤ) → x ≡ pos 0 → s ≡ pos 0 → x +ℤ s ≡ pos 0
      both x s e i = omega (arith, ints)

  -- in any order
  as_difference : (f : A → ℤ) (xs : List A) → total f xs ≡ pos (sum_by (λ (x : A). up (f x)) xs) -ℤ pos (sum_by (λ (x : A). down (f x)) xs)
  as_difference f [] = refl
  as_difference f (x ∷ xs) =
      more (f x) (total f xs) (up (f x)) (down (f x)) (sum_by (λ (x : A). up (f x)) xs) (sum_by (λ (x : A). down (f x)) xs) (sum_by (λ (x : A). up (f x)) (x ∷ xs)) (sum_by (λ (x : A). down (f x)) (x ∷ xs))
      (difference_is (f x)) (as_difference f xs) (sum_by-cons (λ (x : A). up (f x)) x xs) (sum_by-cons (λ (x : A). down (f x)) x xs)
    where
      more : (x s : ℤ) (a b c d m n : ℕ) → x ≡ pos a -ℤ pos b → s ≡ pos c -ℤ pos d → m ≡ a + c → n ≡ b + d → x +ℤ s ≡ pos m -ℤ pos n
      more x s a b c d m n e i p q = omega (arith, ints)

  pub total_permuted : (f : A → ℤ) (xs ys : List A) → IsPermutation xs ys → total f ys ≡ total f xs
  total_permuted f xs ys moved =
      as_difference f ys
      ∙ (λ i. pos (sum_by-IsPermutation (λ (x : A). up (f x)) xs ys moved i) -ℤ pos (sum_by-IsPermutation (λ (x : A). down (f x)) xs ys moved i))
      ∙ sym (as_difference f xs)

  -- what is there of optional items
  abbrev pub of_option : (A → ℤ) → Option A → ℤ
  of_option f None = pos 0
  of_option f (Some x) = f x

  pub total_of_options : (f : A → ℤ) (xs : List (Option A)) → total f (filter_map (λ (x : Option A). x) xs) ≡ total (of_option f) xs
  total_of_options f [] = refl
  total_of_options f (None ∷ xs) = total_of_options f xs ∙ nothing (total (of_option f) xs)
    where
      nothing : (z : ℤ) → z ≡ pos 0 +ℤ z
      nothing z = omega (arith, ints)
  total_of_options f (Some x ∷ xs) = ap (λ z. f x +ℤ z) (total_of_options f xs)

  pub some_push : (xs : List (Option A)) (ys : List A) (x : A) → ys ≡ filter_map (λ (x : Option A). x) xs → ys ++ x ∷ [] ≡ filter_map (λ (x : Option A). x) (xs ++ Some x ∷ [])
  some_push xs ys x e = ap (λ zs. zs ++ x ∷ []) e ∙ go xs
    where
      go : (xs : List (Option A)) → filter_map (λ (x : Option A). x) xs ++ x ∷ [] ≡ filter_map (λ (x : Option A). x) (xs ++ Some x ∷ [])
      go [] = refl
      go (None ∷ xs) = go xs
      go (Some y ∷ xs) = ap (λ zs. y ∷ zs) (go xs)

  pub none_push : (xs : List (Option A)) (ys : List A) → ys ≡ filter_map (λ (x : Option A). x) xs → ys ≡ filter_map (λ (x : Option A). x) (xs ++ None ∷ [])
  none_push xs ys e = e ∙ go xs
    where
      go : (xs : List (Option A)) → filter_map (λ (x : Option A). x) xs ≡ filter_map (λ (x : Option A). x) (xs ++ None ∷ [])
      go [] = refl
      go (None ∷ xs) = go xs
      go (Some y ∷ xs) = ap (λ zs. y ∷ zs) (go xs)
