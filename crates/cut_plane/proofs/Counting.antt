-- Counts of lists: one more element, other names, and two lists without repeats that have the same counted elements.
use Rattle.std.proofs.Common.{◌≡◌, ◌≢◌, ◌↔◌, ◌⊎◌, inl, inr, ℕ, zero, suc, ◌+◌, ◌<◌, ◌≤◌, List, [], ◌∷◌, ◌++◌, Contains, length, get_or, map, refl, sym, subst, ap, ◌∙◌, arith}
use Rattle.std.specs.List.{All, AllPairs}
use Rattle.std.proofs.lemmas.List.Elements.{All-contains}
use Rattle.geometry.specs.Cuts.{IsCount, nothing, counted, skipped}
use Rattle.cut_plane.proofs.Lists.{contains_first, contains_rest, contains_cases, contains_none, pairs_first, pairs_rest}

module _ {A : Type 0} {P : A → Type 0} where
  pub count_push : (xs : List A) (x : A) (n : ℕ) → IsCount A P xs n → P x → IsCount A P (xs ++ x ∷ []) (suc n)
  count_push [] x n nothing here = counted x [] 0 here nothing
  count_push (y ∷ xs) x n (counted _ _ k h rest) here = counted y (xs ++ x ∷ []) (suc k) h (count_push xs x k rest here)
  count_push (y ∷ xs) x n (skipped _ _ k h rest) here = skipped y (xs ++ x ∷ []) (suc n) h (count_push xs x n rest here)

  pub count_pass : (xs : List A) (x : A) (n : ℕ) → IsCount A P xs n → ¬ P x → IsCount A P (xs ++ x ∷ []) n
  count_pass [] x n nothing here = skipped x [] 0 here nothing
  count_pass (y ∷ xs) x n (counted _ _ k h rest) here = counted y (xs ++ x ∷ []) k h (count_pass xs x k rest here)
  count_pass (y ∷ xs) x n (skipped _ _ k h rest) here = skipped y (xs ++ x ∷ []) n h (count_pass xs x n rest here)

  count_none : (xs : List A) (n : ℕ) → IsCount A P xs n → ((x : A) → Contains xs x → P x → ⊥) → n ≡ 0
  count_none [] n nothing none = refl
  count_none (x ∷ xs) n (counted _ _ k h rest) none = absurd (none x (contains_first xs x) h)
  count_none (x ∷ xs) n (skipped _ _ k h rest) none = count_none xs n rest (λ y there. none y (contains_rest x xs y there))

-- by other names
pub count_map : {A B : Type 0} {P : A → Type 0} {Q : B → Type 0} (f : A → B) (xs : List A) (n : ℕ) → ((x : A) → Contains xs x → P x ↔ Q (f x)) → IsCount A P xs n → IsCount B Q (map f xs) n
count_map f [] n same nothing = nothing
count_map f (x ∷ xs) n same (counted _ _ k h rest) = counted (f x) (map f xs) k ((same x (contains_first xs x)).0 h) (count_map f xs k (λ y there. same y (contains_rest x xs y there)) rest)
count_map f (x ∷ xs) n same (skipped _ _ k h rest) = skipped (f x) (map f xs) n (λ q. h ((same x (contains_first xs x)).1 q)) (count_map f xs n (λ y there. same y (contains_rest x xs y there)) rest)

-- ---- lists without repeats
abbrev pub IsDistinct : List ℕ → Type 0
IsDistinct [] = Unit {0}
IsDistinct (x ∷ xs) = (¬ Contains xs x) × IsDistinct xs

pub distinct_of_pairs : (xs : List ℕ) → AllPairs (λ i j. i ≢ j) xs → IsDistinct xs
distinct_of_pairs [] h = tt
distinct_of_pairs (x ∷ xs) h = (first x xs (pairs_first (λ (i : ℕ) (j : ℕ). i ≢ j) x xs h), distinct_of_pairs xs (pairs_rest (λ (i : ℕ) (j : ℕ). i ≢ j) x xs h))
  where
    first : (x : ℕ) (xs : List ℕ) → All (λ (j : ℕ). x ≢ j) xs → ¬ Contains xs x
    first x xs each there = All-contains (λ (j : ℕ). x ≢ j) xs x each there refl

-- a list without one of its elements
record IsWithout (P : ℕ → Type 0) (x : ℕ) (ys zs : List ℕ) : Type 0 where
  distinct : IsDistinct zs
  within : (i : ℕ) → Contains zs i → Contains ys i
  gone : ¬ Contains zs x
  others : (i : ℕ) → Contains ys i → i ≢ x → Contains zs i
  count : (n : ℕ) → P x → IsCount ℕ P ys n → (k : ℕ) × (n ≡ suc k) × IsCount ℕ P zs k

without : (P : ℕ → Type 0) (x : ℕ) (ys : List ℕ) → IsDistinct ys → Contains ys x → (zs : List ℕ) × IsWithout P x ys zs
without P x [] distinct there = absurd (contains_none x there)
without P x (y ∷ ys) distinct there = by (without P x ys distinct.1) (contains_cases y ys x there)
  where
    less_one : (n : ℕ) → P x → y ≡ x → IsCount ℕ P (y ∷ ys) n → (k : ℕ) × (n ≡ suc k) × IsCount ℕ P ys k
    less_one n here e (counted _ _ k h rest) = (k, refl, rest)
    less_one n here e (skipped _ _ k h rest) = absurd (h (subst P (sym e) here))

    by : (Contains ys x → (zs : List ℕ) × IsWithout P x ys zs) → (y ≡ x) ⊎ Contains ys x → (zs : List ℕ) × IsWithout P x (y ∷ ys) zs
    by rest_of (inl same) = (
      ys,
      record {
        distinct = distinct.1;
        within = λ i. contains_rest y ys i;
        gone = subst (λ (k : ℕ). ¬ Contains ys k) same distinct.0;
        others = λ i found apart. rest i apart (contains_cases y ys i found);
        count = λ n here. less_one n here same;
      },
    )
      where
        rest : (i : ℕ) → i ≢ x → (y ≡ i) ⊎ Contains ys i → Contains ys i
        rest i apart (inl e) = absurd (apart (sym e ∙ same))
        rest i apart (inr h) = h
    by rest_of (inr later) = (
      y ∷ zs,
      record {
        distinct = ((λ found. distinct.0 (h.within y found)), h.distinct);
        within = λ i found. some i (contains_cases y zs i found);
        gone = λ found. none (contains_cases y zs x found);
        others = λ i found apart. kept i apart (contains_cases y ys i found);
        count = count;
      },
    )
      where
        rest : (zs : List ℕ) × IsWithout P x ys zs
        rest = rest_of later

        zs : List ℕ
        zs = rest.0

        h : IsWithout P x ys rest.0
        h = rest.1

        some : (i : ℕ) → (y ≡ i) ⊎ Contains zs i → Contains (y ∷ ys) i
        some i (inl e) = subst (Contains (y ∷ ys)) e (contains_first ys y)
        some i (inr k) = contains_rest y ys i (h.within i k)

        none : (y ≡ x) ⊎ Contains zs x → ⊥
        none (inl e) = distinct.0 (subst (Contains ys) (sym e) later)
        none (inr k) = h.gone k

        kept : (i : ℕ) → i ≢ x → (y ≡ i) ⊎ Contains ys i → Contains (y ∷ zs) i
        kept i apart (inl e) = subst (Contains (y ∷ zs)) e (contains_first zs y)
        kept i apart (inr k) = contains_rest y zs i (h.others i k apart)

        count : (n : ℕ) → P x → IsCount ℕ P (y ∷ ys) n → (k : ℕ) × (n ≡ suc k) × IsCount ℕ P (y ∷ zs) k
        count n here (counted _ _ k g tail) = let (m, e, less) = h.count k here tail in (suc m, ap suc e, counted y zs m g less)
        count n here (skipped _ _ k g tail) = let (m, e, less) = h.count n here tail in (m, e, skipped y zs m g less)

-- the counts agree where each counted element of the one is in the other
pub count_same : (P : ℕ → Type 0) (xs ys : List ℕ) (m n : ℕ) → IsDistinct xs → IsDistinct ys → ((i : ℕ) → P i → Contains xs i → Contains ys i) → ((i : ℕ) → P i → Contains ys i → Contains xs i)
    → IsCount ℕ P xs m → IsCount ℕ P ys n → m ≡ n
count_same P [] ys m n one two on back nothing h = sym (count_none ys n h (λ i there p. contains_none i (back i p there)))
count_same P (x ∷ xs) ys m n one two on back (counted _ _ k p rest) h =
    let (zs, w) = without P x ys two (on x p (contains_first xs x)) in
    let (l, e, less) = w.count n p h in
    ap suc (count_same P xs zs k l one.1 w.distinct
    (λ i q there. w.others i (on i q (contains_rest x xs i there)) (λ same. one.0 (subst (Contains xs) same there)))
    (λ i q there. later i (λ same. w.gone (subst (Contains zs) (sym same) there)) (contains_cases x xs i (back i q (w.within i there)))) rest less) ∙ sym e
  where
    later : (i : ℕ) → (x ≡ i → ⊥) → (x ≡ i) ⊎ Contains xs i → Contains xs i
    later i apart (inl e) = absurd (apart e)
    later i apart (inr there) = there
count_same P (x ∷ xs) ys m n one two on back (skipped _ _ k p rest) h =
    count_same P xs ys m n one.1 two (λ i q there. on i q (contains_rest x xs i there)) (λ i q there. later i q (contains_cases x xs i (back i q there))) rest h
  where
    later : (i : ℕ) → P i → (x ≡ i) ⊎ Contains xs i → Contains xs i
    later i q (inl e) = absurd (p (subst P (sym e) q))
    later i q (inr there) = there

-- ---- the elements of a list, by their places
abbrev pub places : {A : Type 0} → ℕ → List A → List ℕ
places n [] = []
places n (x ∷ xs) = n ∷ places (n + 1) xs

module _ {A : Type 0} where
  place_least : (n : ℕ) (xs : List A) (i : ℕ) → Contains (places n xs) i → n ≤ i
  place_least n [] i there = absurd (contains_none i there)
  place_least n (x ∷ xs) i there = by (place_least (n + 1) xs i) (contains_cases n (places (n + 1) xs) i there)
    where
      by : (Contains (places (n + 1) xs) i → n + 1 ≤ i) → (n ≡ i) ⊎ Contains (places (n + 1) xs) i → n ≤ i
      by least (inl e) = omega arith
      by least (inr later) = let h = least later in omega arith

  pub places_distinct : (n : ℕ) (xs : List A) → IsDistinct (places n xs)
  places_distinct n [] = tt
  places_distinct n (x ∷ xs) = ((λ there. absurd (let h = place_least (n + 1) xs n there in omega arith)), places_distinct (n + 1) xs)

  pub place_within : (n : ℕ) (xs : List A) (i : ℕ) → i < length xs → Contains (places n xs) (n + i)
  place_within n [] i less = absurd (omega arith)
  place_within n (x ∷ xs) zero less = subst (Contains (n ∷ places (n + 1) xs)) (same n) (contains_first (places (n + 1) xs) n)
    where
      same : (n : ℕ) → n ≡ n + 0
      same n = omega arith
  place_within n (x ∷ xs) (suc i) less = contains_rest n (places (n + 1) xs) (n + suc i) (subst (Contains (places (n + 1) xs)) (same n i) (place_within (n + 1) xs i (omega arith)))
    where
      same : (n i : ℕ) → n + 1 + i ≡ n + suc i
      same n i = omega arith

  -- a count of the elements is one of their places
  module _ (P : A → Type 0) (Q : ℕ → Type 0) where
    abbrev AreSame : ℕ → List A → Type 0
    AreSame n xs = (i : ℕ) (d : A) → i < length xs → P (get_or xs i d) ↔ Q (n + i)

    here : (n : ℕ) → n + 0 ≡ n
    here n = omega arith

    next : (n i : ℕ) → n + suc i ≡ n + 1 + i
    next n i = omega arith

    later : (n : ℕ) (x : A) (xs : List A) → AreSame n (x ∷ xs) → AreSame (n + 1) xs
    later n x xs same i d less = subst (λ (k : ℕ). P (get_or xs i d) ↔ Q k) (next n i) (same (suc i) d (omega arith))

    pub count_places : (n : ℕ) (xs : List A) (m : ℕ) → AreSame n xs → IsCount A P xs m → IsCount ℕ Q (places n xs) m
    count_places n [] m same nothing = nothing
    count_places n (x ∷ xs) m same (counted _ _ k h rest) = counted n (places (n + 1) xs) k (subst Q (here n) ((same 0 x (omega arith)).0 h)) (count_places (n + 1) xs k (later n x xs same) rest)
    count_places n (x ∷ xs) m same (skipped _ _ k h rest) = skipped n (places (n + 1) xs) m (λ q. h ((same 0 x (omega arith)).1 (subst Q (sym (here n)) q))) (count_places (n + 1) xs m (later n x xs same) rest)

    pub count_of_places : (n : ℕ) (xs : List A) (m : ℕ) → AreSame n xs → IsCount ℕ Q (places n xs) m → IsCount A P xs m
    count_of_places n [] m same nothing = nothing
    count_of_places n (x ∷ xs) m same (counted _ _ k h rest) = counted x xs k ((same 0 x (omega arith)).1 (subst Q (sym (here n)) h)) (count_of_places (n + 1) xs k (later n x xs same) rest)
    count_of_places n (x ∷ xs) m same (skipped _ _ k h rest) = skipped x xs m (λ p. h (subst Q (here n) ((same 0 x (omega arith)).0 p))) (count_of_places (n + 1) xs m (later n x xs same) rest)
