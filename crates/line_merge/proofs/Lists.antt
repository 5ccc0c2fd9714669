-- Elements of lists that are mapped, filtered or permuted, and pairs of them.
use Rattle.std.proofs.Common.{◌≡◌, ℕ, zero, suc, ◌<◌, ◌⊎◌, inl, inr, Bool, true, false, cond, List, [], ◌∷◌, ◌++◌, Contains, length, map, get_or, set, refl, sym, ap, subst, ◌∙◌, arith}
use Rattle.std.specs.List.{All, AllPairs, filter, swap}
use Rattle.std.specs.List.Sorted.{IsPermutation}
use Rattle.std.proofs.lemmas.Bool.{cases_eq, cases_order}
use Rattle.std.proofs.lemmas.List.{append_assoc, map-set, length-map, get_or-map}
use Rattle.std.proofs.lemmas.List.Edits.{Swapped, length-swap, swapped_from_swap}
use Rattle.std.proofs.lemmas.List.Elements.{All-map, Contains-get_or}
use Rattle.std.proofs.lemmas.List.Kept.{AllPairs-cons}
use Rattle.std.proofs.lemmas.List.Sorted.{IsPermutation-refl, IsPermutation-trans, IsPermutation-swap, IsPermutation-keeps, IsPermutation-append_left, IsPermutation-append_right, IsPermutation-append_comm}
use Rattle.integers.proofs.Lists.{Contains-later}

pub contains_first : {A : Type 0} (xs : List A) (x : A) → Contains (x ∷ xs) x
contains_first xs x = (zero, omega arith, refl)

-- ---- map
module _ {A B : Type 0} (f : A → B) where
  pub map_contains : (xs : List A) (x : A) → Contains xs x → Contains (map f xs) (f x)
  map_contains [] x (k, less, is) = absurd (omega arith)
  map_contains (w ∷ xs) x (zero, less, is) = (zero, omega arith, ap f is)
  map_contains (w ∷ xs) x (suc k, less, is) = Contains-later (f w) (map f xs) (f x) (map_contains xs x (k, omega arith, is))

  pub contains_map : (xs : List A) (y : B) → Contains (map f xs) y → (x : A) × Contains xs x × (f x ≡ y)
  contains_map [] y (k, less, is) = absurd (omega arith)
  contains_map (w ∷ xs) y (zero, less, is) = (w, contains_first xs w, is)
  contains_map (w ∷ xs) y (suc k, less, is) = let (x, there, same) = contains_map xs y (k, omega arith, is) in (x, Contains-later w xs x there, same)

-- ---- filter
pub filter_map : {A B : Type 0} (f : A → B) (test : B → Bool) (xs : List A) → filter test (map f xs) ≡ map f (filter (λ x. test (f x)) xs)
filter_map f test [] = refl
filter_map f test (w ∷ xs) = by (test (f w)) (filter_map f test xs)
  where
    by : (b : Bool) → filter test (map f xs) ≡ map f (filter (λ x. test (f x)) xs) → cond b (f w ∷ filter test (map f xs)) (filter test (map f xs)) ≡ map f (cond b (w ∷ filter (λ x. test (f x)) xs) (filter (λ x. test (f x)) xs))
    by true e = ap (λ ys. f w ∷ ys) e
    by false e = e

module _ {A : Type 0} (test : A → Bool) where
  pub filter_contains : (xs : List A) (x : A) → Contains xs x → test x ≡ true → Contains (filter test xs) x
  filter_contains [] x (k, less, is) e = absurd (omega arith)
  filter_contains (w ∷ xs) x (zero, less, is) e =
      subst (λ (v : A). Contains (cond (test w) (w ∷ filter test xs) (filter test xs)) v) is
      (subst (λ (b : Bool). Contains (cond b (w ∷ filter test xs) (filter test xs)) w) (sym (ap test is ∙ e)) (contains_first (filter test xs) w))
  filter_contains (w ∷ xs) x (suc k, less, is) e = by (test w) (filter_contains xs x (k, omega arith, is) e)
    where
      by : (b : Bool) → Contains (filter test xs) x → Contains (cond b (w ∷ filter test xs) (filter test xs)) x
      by true there = Contains-later w (filter test xs) x there
      by false there = there

  pub contains_filter : (xs : List A) (x : A) → Contains (filter test xs) x → Contains xs x × (test x ≡ true)
  contains_filter [] x (k, less, is) = absurd (omega arith)
  contains_filter (w ∷ xs) x there = by (contains_filter xs x) (test w) refl there
    where
      by : (Contains (filter test xs) x → Contains xs x × (test x ≡ true)) → (b : Bool) → test w ≡ b → Contains (cond b (w ∷ filter test xs) (filter test xs)) x → Contains (w ∷ xs) x × (test x ≡ true)
      by rest true e (zero, less, is) = (subst (λ (v : A). Contains (w ∷ xs) v) is (contains_first xs w), sym (ap test is) ∙ e)
      by rest true e (suc k, less, is) = let h = rest (k, omega arith, is) in (Contains-later w xs x h.0, h.1)
      by rest false e c = let h = rest c in (Contains-later w xs x h.0, h.1)

-- ---- pairs
module _ {A : Type 0} where
  pairs_first : (R : A → A → Type 0) (x : A) (xs : List A) → AllPairs R (x ∷ xs) → All (R x) xs
  pairs_first R x xs pairs k e less = pairs zero (suc k) e (omega arith) (omega arith)

  pairs_rest : (R : A → A → Type 0) (x : A) (xs : List A) → AllPairs R (x ∷ xs) → AllPairs R xs
  pairs_rest R x xs pairs i j e less within = pairs (suc i) (suc j) e (omega arith) (omega arith)

  pub pairs_map : {B : Type 0} (R : B → B → Type 0) (f : A → B) (xs : List A) → AllPairs (λ x y. R (f x) (f y)) xs → AllPairs R (map f xs)
  pairs_map R f [] pairs = λ i j e less within. absurd (omega arith)
  pairs_map R f (x ∷ xs) pairs =
      AllPairs-cons R (f x) (map f xs) (All-map (R (f x)) f xs (pairs_first (λ x y. R (f x) (f y)) x xs pairs)) (pairs_map R f xs (pairs_rest (λ x y. R (f x) (f y)) x xs pairs))

  -- what holds of elements of which other things hold
  pub pairs_from : (R S T : A → A → Type 0) (xs : List A) → AllPairs R xs → AllPairs S xs → ((x y : A) → Contains xs x → Contains xs y → R x y → S x y → T x y) → AllPairs T xs
  pairs_from R S T xs first second holds i j e less within =
      holds (get_or xs i e) (get_or xs j e) (Contains-get_or xs i e (omega arith)) (Contains-get_or xs j e within) (first i j e less within) (second i j e less within)

  -- what goes both ways holds of each two of a list in every order
  module _ (R : A → A → Type 0) (both_ways : (x y : A) → R x y → R y x) where
    two : (xs : List A) → AllPairs R xs → (e : A) (m n : ℕ) → ¬ (m ≡ n) → m < length xs → n < length xs → R (get_or xs m e) (get_or xs n e)
    two xs pairs e m n apart hm hn = by (cases_order m n)
      where
        by : (m ≡ n) ⊎ ((m < n) ⊎ (n < m)) → R (get_or xs m e) (get_or xs n e)
        by (inl same) = absurd (apart same)
        by (inr (inl less)) = pairs m n e less hn
        by (inr (inr more)) = both_ways _ _ (pairs n m e more hm)

    pairs_swapped : (xs : List A) (a b : ℕ) → a < length xs → b < length xs → AllPairs R xs → AllPairs R (swap xs a b)
    pairs_swapped xs a b ha hb pairs i j e less within = by (cases_eq i a) (cases_eq i b) (cases_eq j a) (cases_eq j b)
      where
        size : length (swap xs a b) ≡ length xs
        size = length-swap xs a b

        moved : Swapped (λ k. get_or xs k e) (λ k. get_or (swap xs a b) k e) a b
        moved = swapped_from_swap xs (swap xs a b) a b e ha hb refl

        read : (m n k l : ℕ) → get_or (swap xs a b) m e ≡ get_or xs k e → get_or (swap xs a b) n e ≡ get_or xs l e → R (get_or xs k e) (get_or xs l e) → R (get_or (swap xs a b) m e) (get_or (swap xs a b) n e)
        read m n k l p q h = subst (λ (x : A). R x (get_or (swap xs a b) n e)) (sym p) (subst (λ (y : A). R (get_or xs k e) y) (sym q) h)

        first : (m : ℕ) → m ≡ a → get_or (swap xs a b) m e ≡ get_or xs b e
        first m same = ap (λ k. get_or (swap xs a b) k e) same ∙ moved.0

        second : (m : ℕ) → m ≡ b → get_or (swap xs a b) m e ≡ get_or xs a e
        second m same = ap (λ k. get_or (swap xs a b) k e) same ∙ moved.1

        hj : j < length xs
        hj = omega (arith, size)

        hi : i < length xs
        hi = omega (arith, size)

        by : (i ≡ a) ⊎ (¬ (i ≡ a)) → (i ≡ b) ⊎ (¬ (i ≡ b)) → (j ≡ a) ⊎ (¬ (j ≡ a)) → (j ≡ b) ⊎ (¬ (j ≡ b)) → R (get_or (swap xs a b) i e) (get_or (swap xs a b) j e)
        by (inl p) q (inl r) s = absurd (omega arith)
        by (inl p) q (inr r) (inl s) = read i j b a (first i p) (second j s) (two xs pairs e b a (λ k. omega arith) hb ha)
        by (inl p) q (inr r) (inr s) = read i j b j (first i p) (moved.2 j r s) (two xs pairs e b j (λ k. s (sym k)) hb hj)
        by (inr p) (inl q) (inl r) s = read i j a b (second i q) (first j r) (two xs pairs e a b (λ k. omega arith) ha hb)
        by (inr p) (inl q) (inr r) s = read i j a j (second i q) (moved.2 j r (λ k. omega arith)) (two xs pairs e a j (λ k. r (sym k)) ha hj)
        by (inr p) (inr q) (inl r) s = read i j i b (moved.2 i p q) (first j r) (two xs pairs e i b q hi hb)
        by (inr p) (inr q) (inr r) (inl s) = read i j i a (moved.2 i p q) (second j s) (two xs pairs e i a p hi ha)
        by (inr p) (inr q) (inr r) (inr s) = read i j i j (moved.2 i p q) (moved.2 j r s) (two xs pairs e i j (λ k. omega arith) hi hj)

    pub pairs_permuted : (xs ys : List A) → IsPermutation xs ys → AllPairs R xs → AllPairs R ys
    pairs_permuted xs ys moves pairs = IsPermutation-keeps xs (AllPairs R) pairs (λ l i j hi hj h. pairs_swapped l i j hi hj h) ys moves

-- ---- exchanges
module _ {A B : Type 0} (f : A → B) where
  map_swap : (xs : List A) (i j : ℕ) → i < length xs → j < length xs → map f (swap xs i j) ≡ swap (map f xs) i j
  map_swap [] i j hi hj = refl
  map_swap (x ∷ xs) i j hi hj =
      let all : List A = x ∷ xs in
      map-set f (set all i (get_or all j x)) j (get_or all i x)
      ∙ (λ k. set ((map-set f all i (get_or all j x) ∙ ap (set (map f all) i) (sym (get_or-map f all j x (f x) hj))) k) j (sym (get_or-map f all i x (f x) hi) k))

  -- what is exchanged of images is so of what they are images of
  pub map_permuted : (xs : List A) (zs : List B) → IsPermutation (map f xs) zs → (ys : List A) × (zs ≡ map f ys) × IsPermutation xs ys
  map_permuted xs zs moves = IsPermutation-keeps (map f xs) IsMoved (xs, refl, IsPermutation-refl xs) step zs moves
    where
      IsMoved : List B → Type 0
      IsMoved l = (ys : List A) × (l ≡ map f ys) × IsPermutation xs ys

      step : (l : List B) (i j : ℕ) → i < length l → j < length l → IsMoved l → IsMoved (swap l i j)
      step l i j hi hj (ys, e, h) =
          let long : length l ≡ length ys = ap length e ∙ length-map ys f in
          let ki : i < length ys = omega (arith, long) in
          let kj : j < length ys = omega (arith, long) in (
            swap ys i j,
            ap (λ (m : List B). swap m i j) e ∙ sym (map_swap ys i j ki kj),
            IsPermutation-trans xs ys (swap ys i j) h (IsPermutation-swap ys (swap ys i j) i j ki kj refl),
          )

-- two lists behind two others, each behind its own
pub two_and_two : {A : Type 0} (xs ys us vs : List A) → IsPermutation ((xs ++ ys) ++ (us ++ vs)) ((xs ++ us) ++ (ys ++ vs))
two_and_two {A} xs ys us vs =
    subst (λ (l : List A). IsPermutation l ((xs ++ us) ++ (ys ++ vs))) (sym (append_assoc xs ys (us ++ vs)))
    (subst (λ (l : List A). IsPermutation (xs ++ (ys ++ (us ++ vs))) l) (sym (append_assoc xs us (ys ++ vs)))
    (IsPermutation-append_right xs (ys ++ (us ++ vs)) (us ++ (ys ++ vs))
    (subst (λ (l : List A). IsPermutation l (us ++ (ys ++ vs))) (append_assoc ys us vs)
    (subst (λ (l : List A). IsPermutation ((ys ++ us) ++ vs) l) (append_assoc us ys vs)
    (IsPermutation-append_left vs (ys ++ us) (us ++ ys) (IsPermutation-append_comm ys us))))))
