-- Lists of which the elements at each place belong together.
use Rattle.std.proofs.Common.{◌≡◌, ℕ, zero, suc, ◌+◌, ◌<◌, List, [], ◌∷◌, ◌++◌, Contains, length, map, take, get_or, IsPermutation, refl, sym, ap, subst, arith}
use Rattle.std.specs.List.{All, AllZip, Any}
use Rattle.std.proofs.lemmas.List.{take_more}
use Rattle.std.proofs.lemmas.List.Elements.{All-nil, All-cons}
use Rattle.std.proofs.lemmas.List.Sorted.{All-permutation, IsPermutation-map}
use Rattle.line_merge.proofs.Lists.{map_permuted}

module _ {A B : Type 0} (R : A → B → Type 0) where
  pub zip_push : (xs : List A) (ys : List B) (x : A) (y : B) → AllZip R xs ys → R x y → AllZip R (xs ++ x ∷ []) (ys ++ y ∷ [])
  zip_push [] [] x y h k = (k, tt)
  zip_push [] (w ∷ ys) x y h k = absurd h
  zip_push (w ∷ xs) [] x y h k = absurd h
  zip_push (v ∷ xs) (w ∷ ys) x y (h, more) k = (h, zip_push xs ys x y more k)

  pub zip_append : (xs : List A) (us : List B) (ys : List A) (vs : List B) → AllZip R xs us → AllZip R ys vs → AllZip R (xs ++ ys) (us ++ vs)
  zip_append [] [] ys vs h k = k
  zip_append [] (w ∷ us) ys vs h k = absurd h
  zip_append (v ∷ xs) [] ys vs h k = absurd h
  zip_append (v ∷ xs) (w ∷ us) ys vs (h, more) k = (h, zip_append xs us ys vs more k)

  -- one more of each
  pub zip_more : (xs : List A) (ys : List B) (k : ℕ) (x : A) (y : B) → k < length xs → x ≡ get_or xs k x → AllZip R (take k xs) ys → R x y → AllZip R (take (k + 1) xs) (ys ++ y ∷ [])
  zip_more xs ys k x y less is h r =
      subst (λ (zs : List A). AllZip R zs (ys ++ y ∷ [])) (sym (take_more xs k x less))
      (zip_push (take k xs) ys (get_or xs k x) y h (subst (λ (z : A). R z y) is r))

  -- of images
  pub zip_map : {C : Type 0} (f : C → A) (xs : List C) (ys : List B) → AllZip R (map f xs) ys → AllZip (λ x y. R (f x) y) xs ys
  zip_map f [] [] h = h
  zip_map f [] (w ∷ ys) h = absurd h
  zip_map f (v ∷ xs) [] h = absurd h
  zip_map f (v ∷ xs) (w ∷ ys) (h, more) = (h, zip_map f xs ys more)

  pub zip_weaker : (S : A → B → Type 0) → ((x : A) (y : B) → R x y → S x y) → (xs : List A) (ys : List B) → AllZip R xs ys → AllZip S xs ys
  zip_weaker S holds [] [] h = h
  zip_weaker S holds [] (w ∷ ys) h = absurd h
  zip_weaker S holds (v ∷ xs) [] h = absurd h
  zip_weaker S holds (v ∷ xs) (w ∷ ys) (h, more) = (holds v w h, zip_weaker S holds xs ys more)

  -- what belongs to an element
  pub zip_left : (xs : List A) (ys : List B) → AllZip R xs ys → (x : A) → Contains xs x → Any (R x) ys
  zip_left [] ys h x (k, less, is) = absurd (omega arith)
  zip_left (v ∷ xs) [] h x there = absurd h
  zip_left (v ∷ xs) (w ∷ ys) (r, more) x (zero, less, is) = (zero, w, omega arith, refl, subst (λ (z : A). R z w) is r)
  zip_left (v ∷ xs) (w ∷ ys) (r, more) x (suc k, less, is) = let (j, y, within, at, s) = zip_left xs ys more x (k, omega arith, is) in (suc j, y, omega arith, at, s)

  pub zip_right : (xs : List A) (ys : List B) → AllZip R xs ys → (y : B) → Contains ys y → (x : A) × Contains xs x × R x y
  zip_right xs [] h y (k, less, is) = absurd (omega arith)
  zip_right [] (w ∷ ys) h y there = absurd h
  zip_right (v ∷ xs) (w ∷ ys) (r, more) y (zero, less, is) = (v, (zero, omega arith, refl), subst (λ (z : B). R v z) is r)
  zip_right (v ∷ xs) (w ∷ ys) (r, more) y (suc k, less, is) = let (x, (j, within, at), s) = zip_right xs ys more y (k, omega arith, is) in (x, (suc j, omega arith, at), s)

  -- ---- in another order
  abbrev HasPairs : List A → List B → Type 0
  HasPairs xs ys = (ps : List (A × B)) × (map (λ p. p.0) ps ≡ xs) × (map (λ p. p.1) ps ≡ ys) × All (λ p. R p.0 p.1) ps

  pairs_of : (xs : List A) (ys : List B) → AllZip R xs ys → HasPairs xs ys
  pairs_of [] [] h = ([], refl, refl, All-nil (λ (p : A × B). R p.0 p.1))
  pairs_of [] (w ∷ ys) h = absurd h
  pairs_of (v ∷ xs) [] h = absurd h
  pairs_of (v ∷ xs) (w ∷ ys) (r, more) =
      let (ps, first, second, each) = pairs_of xs ys more in
      ((v, w) ∷ ps, ap (λ (l : List A). v ∷ l) first, ap (λ (l : List B). w ∷ l) second, All-cons (λ (p : A × B). R p.0 p.1) (v, w) ps r each)

  zip_of_pairs : (ps : List (A × B)) → All (λ p. R p.0 p.1) ps → AllZip R (map (λ p. p.0) ps) (map (λ p. p.1) ps)
  zip_of_pairs [] each = tt
  zip_of_pairs (p ∷ ps) each = (each zero p (omega arith), zip_of_pairs ps (λ k e less. each (suc k) e (omega arith)))

  -- what belongs to a list's elements goes with them
  pub zip_permuted : (xs zs : List A) (ys : List B) → AllZip R xs ys → IsPermutation xs zs → (us : List B) × AllZip R zs us × IsPermutation ys us
  zip_permuted xs zs ys h moves =
      let (ps, first, second, each) = pairs_of xs ys h in
      let (qs, same, moved) = map_permuted (λ (p : A × B). p.0) ps zs (subst (λ (l : List A). IsPermutation l zs) (sym first) moves) in (
        map (λ p. p.1) qs,
        subst (λ (l : List A). AllZip R l (map (λ p. p.1) qs)) (sym same) (zip_of_pairs qs (All-permutation (λ (p : A × B). R p.0 p.1) ps qs moved each)),
        subst (λ (l : List B). IsPermutation l (map (λ p. p.1) qs)) second (IsPermutation-map (λ (p : A × B). p.1) ps qs moved),
      )
