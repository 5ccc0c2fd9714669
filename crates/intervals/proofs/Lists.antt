-- Some element of a list, of lists put together, and of the front of a list.
use Rattle.std.proofs.Common.{◌≡◌, ℕ, ◌-◌, ◌<◌, ◌≤◌, refl, List, [], ◌∷◌, ◌++◌, length, take, get_or, sym, ◌∙◌, ◌⊎◌, inl, inr, ⊎_elim, subst, arith}
use Rattle.std.specs.Prelude.{Some, slice_get, All, AllPairs, Any, Contains, IsPermutation}
use Rattle.std.proofs.lemmas.List.{length-append, length-take-le, get_or_append_left, get_or-append_right, get_or-take, get_or_default}
use Rattle.std.proofs.lemmas.Bool.{cases_lt}
use Rattle.std.proofs.lemmas.Option.{slice_get_within, get_or_from_slice_get}
use Rattle.std.proofs.lemmas.List.Elements.{Contains-append_left, Contains-append_right, Contains-append_cases, Contains-push, Contains-push_cases, Contains-get_or}
use Rattle.std.proofs.lemmas.List.Sorted.{Contains-permutation}

pub at_front : {X : Type 0} (xs : List X) (x : X) → slice_get xs 0 ≡ Some x → Contains xs x
at_front xs x h = (0, slice_get_within xs 0 x h, get_or_from_slice_get xs 0 x x h)

module _ {X : Type 0} (P : X → Type 0) where
  pub any_of : (xs : List X) (x : X) → Contains xs x → P x → Any P xs
  any_of xs x h p = (h.0, x, h.1, h.2, p)

  pub any_left : (xs ys : List X) → Any P xs → Any P (xs ++ ys)
  any_left xs ys h = any_of (xs ++ ys) h.1 (Contains-append_left xs ys h.1 (h.0, h.2, h.3)) h.4

  pub any_right : (xs ys : List X) → Any P ys → Any P (xs ++ ys)
  any_right xs ys h = any_of (xs ++ ys) h.1 (Contains-append_right xs ys h.1 (h.0, h.2, h.3)) h.4

  pub any_cases : (xs ys : List X) → Any P (xs ++ ys) → Any P xs ⊎ Any P ys
  any_cases xs ys h = ⊎_elim (λ c. inl (any_of xs h.1 c h.4)) (λ c. inr (any_of ys h.1 c h.4)) (Contains-append_cases xs ys h.1 (h.0, h.2, h.3))

  pub none : Any P [] → ⊥
  none h = omega (arith, h.2)

  pub one : (x : X) → P x → Any P (x ∷ [])
  one x p = any_of (x ∷ []) x (Contains-push [] x) p

  pub of_one : (x : X) → Any P (x ∷ []) → P x
  of_one x h = ⊎_elim (λ c. absurd (none (any_of [] h.1 c h.4))) (λ e. subst P (sym e) h.4) (Contains-push_cases [] x h.1 (h.0, h.2, h.3))

  pub any_push : (xs : List X) (x : X) → Any P (xs ++ x ∷ []) → Any P xs ⊎ P x
  any_push xs x h = ⊎_elim (λ a. inl a) (λ a. inr (of_one x a)) (any_cases xs (x ∷ []) h)

  pub any_last : (xs : List X) (x : X) → P x → Any P (xs ++ x ∷ [])
  any_last xs x p = any_right xs (x ∷ []) (one x p)

  pub any_permuted : (xs ys : List X) → IsPermutation xs ys → Any P xs → Any P ys
  any_permuted xs ys moved h = any_of ys h.1 (Contains-permutation xs ys h.1 moved (h.0, h.2, h.3)) h.4

-- ---- each and each later one
module _ {X : Type 0} (R : X → X → Type 0) where
  pub pairs_append : (xs ys : List X) → AllPairs R xs → AllPairs R ys → ((x y : X) → Contains xs x → Contains ys y → R x y) → AllPairs R (xs ++ ys)
  pairs_append xs ys p q across i j d h long = ⊎_elim
      (λ low. subst (λ x. R x (get_or (xs ++ ys) j d)) (sym (get_or_append_left xs ys d i (less i j low h))) (subst (λ y. R (get_or xs i d) y) (sym (get_or_append_left xs ys d j low)) (p i j d h low)))
      (λ high. subst (λ y. R (get_or (xs ++ ys) i d) y) (sym (get_or-append_right xs ys (length xs) j d refl high))
      (⊎_elim
      (λ low. subst (λ x. R x (get_or ys (j - length xs) d)) (sym (get_or_append_left xs ys d i low))
      (across (get_or xs i d) (get_or ys (j - length xs) d) (Contains-get_or xs i d low) (Contains-get_or ys (j - length xs) d (short j high long))))
      (λ far. subst (λ x. R x (get_or ys (j - length xs) d)) (sym (get_or-append_right xs ys (length xs) i d refl far))
      (q (i - length xs) (j - length xs) d (nearer i j (length xs) far h) (short j high long)))
      (cases_lt i (length xs))))
      (cases_lt j (length xs))
    where
      less : (i j : ℕ) → j < length xs → i < j → i < length xs
      less i j low h = omega arith

      nearer : (i j n : ℕ) → n ≤ i → i < j → i - n < j - n
      nearer i j n far h = omega arith

      short : (j : ℕ) → length xs ≤ j → j < length (xs ++ ys) → j - length xs < length ys
      short j high long = let k = simp length-append at long in omega arith

  -- those before number k, and number k
  pub pairs_front : (xs : List X) (k : ℕ) (x : X) → AllPairs R xs → k < length xs → get_or xs k x ≡ x → All (λ w. R w x) (take k xs)
  pairs_front xs k x p long at j d h =
      let low : j < k = omega (arith, length-take-le k xs (le k long), h) in
      subst (λ w. R w x) (sym (get_or-take k xs j d low)) (subst (λ y. R (get_or xs j d) y) (sym (get_or_default xs k x d long) ∙ at) (p j k d low long))
    where
      le : (k : ℕ) → k < length xs → k ≤ length xs
      le k h = omega arith
