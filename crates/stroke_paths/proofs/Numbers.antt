-- Numbers of which none stands twice, and places in a list of tests.
use Rattle.std.proofs.Common.{◌≡◌, ◌≢◌, ◌⊎◌, inl, inr, ℕ, zero, suc, ◌<◌, Bool, true, false, List, [], ◌∷◌, ◌++◌, All, AllPairs, Contains, Some, length, set, slice_get, refl, sym, ap, subst, ◌∙◌, arith}
use Rattle.std.proofs.lemmas.List.Kept.{AllPairs-cons}
use Rattle.std.proofs.lemmas.List.Elements.{All-cons, All-nil}
use Rattle.integers.proofs.Lists.{Contains-later}
use Rattle.stroke_paths.specs.inner.Walks.{IsAmong, AreApart, IsVisited}

-- ---- among, along ++
pub among_left : (xs ys : List ℕ) (i : ℕ) → IsAmong xs i → IsAmong (xs ++ ys) i
among_left [] ys i h = absurd h
among_left (x ∷ xs) ys i (inl e) = inl e
among_left (x ∷ xs) ys i (inr h) = inr (among_left xs ys i h)

pub among_right : (xs ys : List ℕ) (i : ℕ) → IsAmong ys i → IsAmong (xs ++ ys) i
among_right [] ys i h = h
among_right (x ∷ xs) ys i h = inr (among_right xs ys i h)

pub among_parts : (xs ys : List ℕ) (i : ℕ) → IsAmong (xs ++ ys) i → IsAmong xs i ⊎ IsAmong ys i
among_parts [] ys i h = inr h
among_parts (x ∷ xs) ys i (inl e) = inl (inl e)
among_parts (x ∷ xs) ys i (inr h) = by (among_parts xs ys i h)
  where
    by : IsAmong xs i ⊎ IsAmong ys i → IsAmong (x ∷ xs) i ⊎ IsAmong ys i
    by (inl k) = inl (inr k)
    by (inr k) = inr k

pub apart_append : (xs ys : List ℕ) → AreApart xs → AreApart ys → ((i : ℕ) → IsAmong xs i → IsAmong ys i → ⊥) → AreApart (xs ++ ys)
apart_append [] ys h k apart = k
apart_append (x ∷ xs) ys h k apart = (not_there, apart_append xs ys h.1 k (λ i m. apart i (inr m)))
  where
    not_there : IsAmong (xs ++ ys) x → ⊥
    not_there m = by (among_parts xs ys x m)
      where
        by : IsAmong xs x ⊎ IsAmong ys x → ⊥
        by (inl a) = h.0 a
        by (inr a) = apart x (inl refl) a

pub apart_push : (xs : List ℕ) (y : ℕ) → AreApart xs → (IsAmong xs y → ⊥) → AreApart (xs ++ y ∷ [])
apart_push xs y h new = apart_append xs (y ∷ []) h (λ m. absurd m, tt) by
  where
    by : (i : ℕ) → IsAmong xs i → IsAmong (y ∷ []) i → ⊥
    by i m (inl e) = new (subst (IsAmong xs) (sym e) m)
    by i m (inr k) = absurd k

-- ---- the words of std
pub Contains-from_among : (xs : List ℕ) (i : ℕ) → IsAmong xs i → Contains xs i
Contains-from_among [] i h = absurd h
Contains-from_among (x ∷ xs) i (inl e) = (zero, omega arith, e)
Contains-from_among (x ∷ xs) i (inr h) = Contains-later x xs i (Contains-from_among xs i h)

all_among : (xs : List ℕ) (P : ℕ → Type 0) → ((i : ℕ) → IsAmong xs i → P i) → All P xs
all_among [] P h = All-nil P
all_among (x ∷ xs) P h = All-cons P x xs (h x (inl refl)) (all_among xs P (λ i k. h i (inr k)))

pub AllPairs-from_apart : (xs : List ℕ) → AreApart xs → AllPairs (λ i j. i ≢ j) xs
AllPairs-from_apart [] h = λ i j d less below. absurd (omega arith)
AllPairs-from_apart (x ∷ xs) h =
    AllPairs-cons (λ i j. i ≢ j) x xs (all_among xs (λ j. x ≢ j) (λ i m e. h.0 (subst (IsAmong xs) (sym e) m))) (AllPairs-from_apart xs h.1)

-- ---- what is visited
pub visited_set : (vs : List Bool) (n : ℕ) → n < length vs → IsVisited (set vs n true) n
visited_set [] n h = absurd (omega arith)
visited_set (v ∷ vs) zero h = refl
visited_set (v ∷ vs) (suc n) h = visited_set vs n (omega arith)

pub visited_still : (vs : List Bool) (n i : ℕ) → IsVisited vs i → IsVisited (set vs n true) i
visited_still [] n i h = h
visited_still (v ∷ vs) zero zero h = refl
visited_still (v ∷ vs) zero (suc i) h = h
visited_still (v ∷ vs) (suc n) zero h = h
visited_still (v ∷ vs) (suc n) (suc i) h = visited_still vs n i h

pub visited_before : (vs : List Bool) (n i : ℕ) → IsVisited (set vs n true) i → IsVisited vs i ⊎ (n ≡ i)
visited_before [] n i h = inl h
visited_before (v ∷ vs) zero zero h = inr refl
visited_before (v ∷ vs) zero (suc i) h = inl h
visited_before (v ∷ vs) (suc n) zero h = inl h
visited_before (v ∷ vs) (suc n) (suc i) h = by (visited_before vs n i h)
  where
    by : IsVisited vs i ⊎ (n ≡ i) → IsVisited vs i ⊎ (suc n ≡ suc i)
    by (inl k) = inl k
    by (inr e) = inr (ap suc e)

pub fresh_before : (vs : List Bool) (n i : ℕ) → slice_get (set vs n true) i ≡ Some false → slice_get vs i ≡ Some false
fresh_before [] n i h = h
fresh_before (v ∷ vs) zero zero h = absurd cc
fresh_before (v ∷ vs) zero (suc i) h = h
fresh_before (v ∷ vs) (suc n) zero h = h
fresh_before (v ∷ vs) (suc n) (suc i) h = fresh_before vs n i h

pub not_both : (vs : List Bool) (i : ℕ) → slice_get vs i ≡ Some false → IsVisited vs i → ⊥
not_both vs i h k = by (sym h ∙ k)
  where
    by : ◌≡◌ {A = _} (Some false) (Some true) → ⊥
    by e = cc
